-- The event that breaks a page of a forked number (copy on write): the copy, the leaf, the record and the fence.
use Rattle.std.specs.Prelude.{ℕ, ◌≡◌, List, slice_get, Option, Some}
use Rattle.std.specs.Option.{option_map_or}
use Rattle.pl_base.specs.declared.access.Mode.TheVariants.{User}
use Rattle.pl_base.specs.declared.number.EncNo.{EncNo}
use Rattle.pl_base.specs.declared.perms.Perms.{Perms}
use Rattle.pl_base.specs.HartSet.{space_of_number}
use Rattle.mem_slots.specs.declared.slot_use.SlotUse.{SlotUse}
use Rattle.mem_ctl.specs.Calls.{get_page_of, put_page_of, write_part_of}
use Rattle.mem_ctl.specs.Results.{AreGiven}
use Rattle.mem_ctl.specs.Data.{CtlData, Going, Outcome, Value, Fault, Collision, Again, After, and_then, going}
use Rattle.mon_fence.specs.declared.fences.Fence.{Fence}
use Rattle.mon_fence.specs.Fences.{posted}
use Rattle.mon_tables.specs.Space.{vpn_of_page}
use Rattle.mon_tables.specs.Tables.{number_slot}
use Rattle.mon_tables.specs.Words.{leaf_word}
use Rattle.mon_enclave.specs.declared.enclave.Enclave.{Enclave}
use Rattle.mon_enclave.specs.declared.enclave.PageKind.{PageKind}
use Rattle.mon_enclave.specs.Records.{enclave_at, next_spare, page_number_of, with_enclave, with_own_page}

-- the number of page `index`
abbrev pub page_number_at : List PageKind → ℕ → ℕ
page_number_at pages index = option_map_or page_number_of (slice_get pages index) 0

-- what is so after all was put, and was so before; a refusal leaves that
abbrev pub if_put : {S : Type 0} → Outcome (Unit {0}) → S → S → S
if_put (Value done) after before = after
if_put (Fault place) after before = before
if_put (Collision place held written) after before = before
if_put (Again taken root) after before = before

-- what is answered, with the controller after it, and the records and the fences after it
pub record PageBroken : Type 0 where
  pub step : After (Unit {0})
  pub enclaves : List Enclave
  pub fences : List (Option Fence)

-- the record and the fence of hart h change where all is put
abbrev pub broken_by : After (Unit {0}) → List Enclave → List (Option Fence) → ℕ → EncNo → ℕ → PageBroken
broken_by step enclaves fences h e index = record {
  step = step;
  enclaves = if_put step.outcome (with_enclave enclaves e.0 (with_own_page (enclave_at enclaves e.0) index)) enclaves;
  fences = if_put step.outcome (posted fences h (space_of_number e) (Some (vpn_of_page index))) fences;
}

module _ (digest_of : List ℕ → List ℕ) where
  -- a page is read and put into another one, and the leaf's word of page `index` of number e leads there
  unfoldable pub page_copied : ℕ → ℕ → ℕ → ℕ → ℕ → Perms → Going → After (Unit {0})
  page_copied tables e index shared spare perms g =
      and_then (get_page_of digest_of shared g)
      (λ bytes h. and_then (put_page_of digest_of spare bytes h)
      (λ done k. write_part_of digest_of (number_slot tables e index).0 (number_slot tables e index).1 8 (leaf_word spare perms User) k))

  -- page `index` of number e, which hart h runs, is broken
  unfoldable pub page_broken : ℕ → ℕ → EncNo → ℕ → Perms → List Enclave → List (Option Fence) → Going → PageBroken
  page_broken tables h e index perms enclaves fences g =
      broken_by (page_copied tables e.0 index (page_number_at (enclave_at enclaves e.0).pages index) (next_spare (enclave_at enclaves e.0)) perms g) enclaves fences h e index

-- what the event answered, and the data, the records and the fences after it, are those of its function, with positions that the choice
-- answers on the slots that it is shown
pub record IsPageBroken (gives : List SlotUse → ℕ → Type 0) (event : Going → PageBroken) (old : CtlData) (outcome : Outcome (Unit {0})) (new : CtlData) (records : List Enclave)
    (fences_now : List (Option Fence)) : Type 0 where
  pub positions : List ℕ
  pub given : AreGiven gives (event (going old positions)).step.after.shown positions
  pub is : outcome ≡ (event (going old positions)).step.outcome
  pub now : new ≡ (event (going old positions)).step.after.ctl
  pub records_are : records ≡ (event (going old positions)).enclaves
  pub fences_are : fences_now ≡ (event (going old positions)).fences
