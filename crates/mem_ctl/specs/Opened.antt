-- What the first half of a word's access answers: the path that holds, or why it is refused.
use Rattle.std.specs.Prelude.{ℕ, ◌≡◌, ◌/◌, ◌⊎◌, true, List, Result, Ok, Err}
use Rattle.pl_base.specs.declared.place.Place.{Place}
use Rattle.mem_geom.specs.PathPlaces.{word_places}
use Rattle.mem_slots.specs.declared.slot_use.SlotUse.{SlotUse}
use Rattle.mem_slots.specs.Slots.{is_mounted}
use Rattle.mem_tree.specs.declared.taken.Taken.{Taken}
use Rattle.mem_tree.specs.Checks.{Holds as AllHold}
use Rattle.mem_tree.specs.Words.{parts_of, word_path}
use Rattle.mem_ctl.specs.declared.broken.Broken.{Broken}
use Rattle.mem_ctl.specs.declared.broken.Broken.TheVariants as broken
use Rattle.mem_ctl.specs.Calls.{TakenWord, slot_root, zone_check}
use Rattle.mem_ctl.specs.Data.{CtlData, Outcome, Value, Fault, Collision}
use Rattle.mem_ctl.specs.Mounting.{mounted_for, taken, used}
use Rattle.mem_ctl.specs.Results.{IsCall, checked_of, outcome_of}

-- the zone was mounted, a use was counted, and the path that was taken then holds
pub record IsOpened {D : Type 0} (gives : List SlotUse → ℕ → Type 0) (digest_of : List ℕ → List ℕ) (page block : ℕ) (old : CtlData) (sealed : Taken D) (new : CtlData) : Type 0 where
  pub between : CtlData
  pub mounts : IsCall gives (mounted_for digest_of (page / 64)) old (Value tt) between
  pub now : new ≡ used between (page / 64)
  pub own_page : sealed.page ≡ page
  pub own_block : sealed.block_no ≡ block
  pub parts : parts_of sealed ≡ word_path (slot_root new (page / 64)) (taken new) page block
  pub mounted : is_mounted new.mounted (page / 64) ≡ true
  pub holds : AllHold ≡ zone_check digest_of new (page / 64) (word_places page block)

-- the same of any path in the zone
pub record IsOpenedZone (gives : List SlotUse → ℕ → Type 0) (digest_of : List ℕ → List ℕ) (page : ℕ) (places : List Place) (old new : CtlData) : Type 0 where
  pub between : CtlData
  pub mounts : IsCall gives (mounted_for digest_of (page / 64)) old (Value tt) between
  pub now : new ≡ used between (page / 64)
  pub mounted : is_mounted new.mounted (page / 64) ≡ true
  pub holds : AllHold ≡ zone_check digest_of new (page / 64) places

-- the mounting was refused, or the path after it
pub record IsRefusedThen (gives : List SlotUse → ℕ → Type 0) (digest_of : List ℕ → List ℕ) (page : ℕ) (places : List Place) (old : CtlData) (broken : Broken) (new : CtlData) : Type 0 where
  pub between : CtlData
  pub mounts : IsCall gives (mounted_for digest_of (page / 64)) old (Value tt) between
  pub now : new ≡ used between (page / 64)
  pub is : checked_of (Err broken) ≡ zone_check digest_of new (page / 64) places

abbrev pub IsRefused : (List SlotUse → ℕ → Type 0) → (List ℕ → List ℕ) → ℕ → List Place → CtlData → Broken → CtlData → Type 0
IsRefused gives digest_of page places old broken new =
    IsCall gives (mounted_for digest_of (page / 64)) old (outcome_of {A = Unit {0}} (Err broken)) new ⊎ IsRefusedThen gives digest_of page places old broken new

-- a taken path, as plain data
abbrev pub word_of_taken : {D : _} → Taken D → TakenWord
word_of_taken t = record { page = t.page; block = t.block_no; parts = parts_of t }

-- what a call answers that takes a path
abbrev pub asked_outcome : {D : _} → Result (Taken D) Broken → Outcome TakenWord
asked_outcome (Ok t) = Value (word_of_taken t)
asked_outcome (Err (broken.Fault place)) = Fault place
asked_outcome (Err (broken.Collision c)) = Collision c.place c.held.items c.written.items
