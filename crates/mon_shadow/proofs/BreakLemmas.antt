-- A page that is copied, from what became of its three accesses.
use Rattle.std.proofs.Common.{ℕ, ◌≡◌, List, Option, Some, Err, refl, ap, subst, ◌∙◌}
use Rattle.pl_base.specs.declared.access.Mode.TheVariants.{User}
use Rattle.pl_base.specs.HartSet.{space_of_number}
use Rattle.pl_base.specs.declared.number.EncNo.{EncNo}
use Rattle.pl_base.specs.declared.perms.Perms.{Perms}
use Rattle.mem_slots.specs.declared.slot_use.SlotUse.{SlotUse}
use Rattle.mem_ctl.specs.declared.broken.Broken.{Broken}
use Rattle.mem_ctl.specs.declared.broken.Broken.TheVariants as broken_is
use Rattle.mem_ctl.specs.Calls.{get_page_of, put_page_of, write_part_of}
use Rattle.mem_ctl.specs.Data.{CtlData, Going, Outcome, Value, After, and_then}
use Rattle.mem_ctl.specs.Pages.{got_outcome}
use Rattle.mem_ctl.specs.Results.{IsCall, outcome_of}
use Rattle.mem_ctl.specs.Threading.{Threads}
use Rattle.mem_ctl.proofs.ThreadLemmas.{Threads-get, Threads-put, Threads-then, Threads-write, calls_join}
use Rattle.mon_host.proofs.EventLemmas.{broke}
use Rattle.mon_fence.specs.declared.fences.Fence.{Fence}
use Rattle.mon_fence.specs.Fences.{posted}
use Rattle.mon_enclave.specs.declared.enclave.Enclave.{Enclave}
use Rattle.mon_enclave.specs.Records.{enclave_at, next_spare, with_enclave, with_own_page}
use Rattle.mon_tables.specs.Tables.{number_slot}
use Rattle.mon_tables.specs.Words.{leaf_word}
use Rattle.mon_shadow.specs.Breaking.{IsPageBroken, if_put, page_broken, page_copied, page_number_at}
use Rattle.mon_tables.specs.Space.{vpn_of_page}

got_err : (bytes : List ℕ) (b : Broken) → got_outcome bytes (Err b) ≡ outcome_of (Err b)
got_err bytes (broken_is.Fault place) = refl
got_err bytes (broken_is.Collision c) = refl

-- the rule that names the slot to evict is the same for all three, by equations
module _ {F : Type 0} (gives_by : F → List SlotUse → ℕ → Type 0) (rule : F) (d : List ℕ → List ℕ) (tables e index shared spare : ℕ) (perms : Perms) (x y : CtlData) where
  abbrev gives : List SlotUse → ℕ → Type 0
  gives = gives_by rule

  leaf_set : Going → After (Unit {0})
  leaf_set k = write_part_of d (number_slot tables e index).0 (number_slot tables e index).1 8 (leaf_word spare perms User) k

  put_then : List ℕ → Going → After (Unit {0})
  put_then bytes h = and_then (put_page_of d spare bytes h) (λ done k. leaf_set k)

  abbrev Copied : Outcome (Unit {0}) → CtlData → Type 0
  Copied o z = IsCall gives (page_copied d tables e index shared spare perms) x o z

  -- the read is refused
  pub read_broke : (bytes : List ℕ) (b : Broken) → IsCall gives (get_page_of d shared) x (got_outcome bytes (Err b)) y → Copied (outcome_of (Err b)) y
  unfolding page_copied put_then leaf_set
  read_broke bytes b read = broke gives (get_page_of d shared) put_then x y b (subst (λ o. IsCall gives (get_page_of d shared) x o y) (got_err bytes b) read)

  module _ (bytes : List ℕ) (read : IsCall gives (get_page_of d shared) x (Value bytes) y) (put_rule : F) (same_put : put_rule ≡ rule) (z : CtlData) where
    Threads-put_then : (bytes : List ℕ) → Threads (put_then bytes)
    unfolding put_then leaf_set
    Threads-put_then bytes =
        Threads-then (put_page_of d spare bytes) (λ done k. leaf_set k) (Threads-put d spare bytes)
        (λ _. Threads-write d (number_slot tables e index).0 (number_slot tables e index).1 8 (leaf_word spare perms User))

    joined : (o : Outcome (Unit {0})) (w : CtlData) → IsCall gives (put_then bytes) y o w → Copied o w
    unfolding page_copied put_then leaf_set
    joined o w then = calls_join gives (get_page_of d shared) put_then (Threads-get d shared) Threads-put_then x y bytes o w read then

    put_by : (o : Outcome (Unit {0})) → IsCall (gives_by put_rule) (put_page_of d spare bytes) y o z → IsCall gives (put_page_of d spare bytes) y o z
    put_by o put = subst (λ f. IsCall (gives_by f) (put_page_of d spare bytes) y o z) same_put put

    -- the write of the page is refused
    pub put_broke : (b : Broken) → IsCall (gives_by put_rule) (put_page_of d spare bytes) y (outcome_of (Err b)) z → Copied (outcome_of (Err b)) z
    unfolding put_then
    put_broke b put = joined (outcome_of (Err b)) z (broke gives (put_page_of d spare bytes) (λ done k. leaf_set k) y z b (put_by (outcome_of (Err b)) put))

    -- the page is written, and the leaf's write came out so
    pub leaf_came : (u : Unit {0}) (leaf_rule : F) → leaf_rule ≡ rule → (slot : ℕ × ℕ) (word : ℕ) → slot ≡ number_slot tables e index → word ≡ leaf_word spare perms User → (o : Outcome (Unit {0})) (w : CtlData)
        → IsCall (gives_by put_rule) (put_page_of d spare bytes) y (Value u) z → IsCall (gives_by leaf_rule) (write_part_of d slot.0 slot.1 8 word) z o w → Copied o w
    unfolding put_then leaf_set
    leaf_came u leaf_rule same_leaf slot word slot_is word_is o w put leaf =
        let at : IsCall (gives_by leaf_rule) (write_part_of d slot.0 slot.1 8 (leaf_word spare perms User)) z o w = subst (λ n. IsCall (gives_by leaf_rule) (write_part_of d slot.0 slot.1 8 n) z o w) word_is leaf in
        let there : IsCall (gives_by leaf_rule) leaf_set z o w = subst (λ (s : ℕ × ℕ). IsCall (gives_by leaf_rule) (write_part_of d s.0 s.1 8 (leaf_word spare perms User)) z o w) slot_is at in
        joined o w (
        calls_join gives (put_page_of d spare bytes) (λ done k. leaf_set k) (Threads-put d spare bytes)
        (λ _. Threads-write d (number_slot tables e index).0 (number_slot tables e index).1 8 (leaf_word spare perms User)) y z u o w (put_by (Value u) put)
        (subst (λ f. IsCall (gives_by f) leaf_set z o w) same_leaf there))

-- ---- the event

-- a refusal leaves what was before
pub err_leaves : {S : Type 0} (b : Broken) (after before : S) → before ≡ if_put (outcome_of (Err b)) after before
err_leaves (broken_is.Fault place) after before = refl
err_leaves (broken_is.Collision c) after before = refl

pub broken_from : (gives : List SlotUse → ℕ → Type 0) (d : List ℕ → List ℕ) (tables h : ℕ) (e : EncNo) (index : ℕ) (perms : Perms) (enclaves : List Enclave) (fences : List (Option Fence)) (x : CtlData)
    (shared spare : ℕ) → shared ≡ page_number_at (enclave_at enclaves e.0).pages index → spare ≡ next_spare (enclave_at enclaves e.0)
    → (o : Outcome (Unit {0})) (y : CtlData) (records : List Enclave) (fences_now : List (Option Fence)) → IsCall gives (page_copied d tables e.0 index shared spare perms) x o y
    → records ≡ if_put o (with_enclave enclaves e.0 (with_own_page (enclave_at enclaves e.0) index)) enclaves
    → fences_now ≡ if_put o (posted fences h (space_of_number e) (Some (vpn_of_page index))) fences
    → IsPageBroken gives (page_broken d tables h e index perms enclaves fences) x o y records fences_now
unfolding page_broken
broken_from gives d tables h e index perms enclaves fences x shared spare shared_is spare_is o y records fences_now call records_are fences_are =
    let at : IsCall gives (page_copied d tables e.0 index (page_number_at (enclave_at enclaves e.0).pages index) spare perms) x o y = subst (λ p. IsCall gives (page_copied d tables e.0 index p spare perms) x o y) shared_is call in
    let copy : IsCall gives (page_copied d tables e.0 index (page_number_at (enclave_at enclaves e.0).pages index) (next_spare (enclave_at enclaves e.0)) perms) x o y
    = subst (λ p. IsCall gives (page_copied d tables e.0 index (page_number_at (enclave_at enclaves e.0).pages index) p perms) x o y) spare_is at in
    record {
      positions = copy.positions;
      given = copy.given;
      is = copy.is;
      now = copy.now;
      records_are = records_are ∙ ap (λ ended. if_put ended (with_enclave enclaves e.0 (with_own_page (enclave_at enclaves e.0) index)) enclaves) copy.is;
      fences_are = fences_are ∙ ap (λ ended. if_put ended (posted fences h (space_of_number e) (Some (vpn_of_page index))) fences) copy.is;
    }
