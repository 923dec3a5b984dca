-- Refusals before the read, and when an event is busy.
use Rattle.std.proofs.Common.{ℕ, ◌≡◌, Bool, true, false, not, List, [], ◌∷◌, Option, Some, None, refl, ap, ◌∙◌}
use Rattle.std.specs.Prelude.{◌↔◌, Result, Ok, Err}
use Rattle.std.proofs.lemmas.List.Folds.{Any-from_list_any, list_any-from_Any}
use Rattle.pl_base.specs.Address.{vpn_of}
use Rattle.pl_base.specs.Refusals.{refuse, first_refusal}
use Rattle.pl_base.specs.declared.address.Va.{Va}
use Rattle.pl_base.specs.declared.refusal.No.{No}
use Rattle.pl_base.specs.declared.refusal.No.TheVariants.{BadAddress, Busy}
use Rattle.mem_ctl.specs.Calls.{read_word_of, write_part_of}
use Rattle.mem_ctl.specs.Data.{Going, Outcome, Value, Fault, Collision, Again, After, answer, go_on}
use Rattle.mon_fence.specs.declared.fences.Fence.{Fence}
use Rattle.mon_fence.specs.Fences.{covers}
use Rattle.mon_tables.specs.Tables.{can_be_mapped}
use Rattle.mon_host.specs.Laws.{IsCovered, is_refused_at_once}
use Rattle.mon_host.specs.Leaves.{early_refusal, event_by, host_space, is_being_removed, step_unless, word_replaced, written_unless}

-- ---- the two early causes

early_none : (can removed : Bool) → first_refusal (refuse (not can) BadAddress ∷ refuse removed Busy ∷ []) ≡ None → can ≡ true
early_none true removed none = refl
early_none false removed none = cc

-- an address that isn't refused at once can be mapped
pub can_be_mapped-early : (tables : ℕ) (fences : List (Option Fence)) (va : Va) → early_refusal tables fences va ≡ None → can_be_mapped tables va ≡ true
can_be_mapped-early tables fences va none = early_none (can_be_mapped tables va) (is_being_removed fences va) none

early_busy : (can removed : Bool) → first_refusal (refuse (not can) BadAddress ∷ refuse removed Busy ∷ []) ≡ Some Busy → (can ≡ true) × (removed ≡ true)
early_busy true true busy = (refl, refl)
early_busy true false busy = cc
early_busy false removed busy = cc

busy_early : (can removed : Bool) → can ≡ true → removed ≡ true → first_refusal (refuse (not can) BadAddress ∷ refuse removed Busy ∷ []) ≡ Some Busy
busy_early true true can removed = refl
busy_early true false can removed = cc
busy_early false removed can is = cc

-- ---- a replacement isn't busy

module _ (d : List ℕ → List ℕ) {A : Type 0} (slot : ℕ × ℕ) (refusal : ℕ → Option No) (word : ℕ) (value : ℕ → A) (other : (old : ℕ) → refusal old ≡ Some Busy → ⊥) where
  write_other : (a : A) (o : Outcome (Unit {0})) (k : Going) → (go_on o k (λ _ m. answer {A = Result A No} (Ok a) m)).outcome ≡ Value (Err Busy) → ⊥
  write_other a (Value u) k is = cc
  write_other a (Fault place) k is = cc
  write_other a (Collision place held written) k is = cc
  write_other a (Again taken root) k is = cc

  word_other : (old : ℕ) (cause : Option No) (h : Going) → refusal old ≡ cause → (written_unless d cause slot word (value old) h).outcome ≡ Value (Err Busy) → ⊥
  word_other old (Some cause) h refused is = other old (refused ∙ (let same : Some cause ≡ Some Busy = cc in same))
  word_other old None h refused is = let write : After (Unit {0}) = write_part_of d slot.0 slot.1 8 word h in write_other (value old) write.outcome write.after is

  read_other : (o : Outcome ℕ) (h : Going) → (go_on o h (λ old k. written_unless d (refusal old) slot word (value old) k)).outcome ≡ Value (Err Busy) → ⊥
  read_other (Value old) h is = word_other old (refusal old) h refl is
  read_other (Fault place) h is = cc
  read_other (Collision place held written) h is = cc
  read_other (Again taken root) h is = cc

  replaced_other : (g : Going) → (word_replaced d slot refusal word value g).outcome ≡ Value (Err Busy) → ⊥
  unfolding word_replaced
  replaced_other g is = let read : After ℕ = read_word_of d slot.0 slot.1 g in read_other read.outcome read.after is

  step_busy : (early : Option No) (g : Going) → (step_unless early (word_replaced d slot refusal word value) g).outcome ≡ Value (Err Busy) → early ≡ Some Busy
  step_busy (Some cause) g is = let same : Some cause ≡ Some Busy = cc in same
  step_busy None g is = absurd (replaced_other g is)

  -- an event is busy exactly where the address can be mapped, and some fence is of it
  pub event_busy : (tables : ℕ) (fences : List (Option Fence)) (va : Va) (g : Going)
      → ((step_unless (early_refusal tables fences va) (word_replaced d slot refusal word value) g).outcome ≡ Value (Err Busy)) ↔ ((can_be_mapped tables va ≡ true) × IsCovered fences va)
  event_busy tables fences va g = (
    λ is.
        let both = early_busy (can_be_mapped tables va) (is_being_removed fences va) (step_busy (early_refusal tables fences va) g is) in
        (both.0, Any-from_list_any (covers host_space (vpn_of va)) fences both.1),
    λ covered.
        let early : early_refusal tables fences va ≡ Some Busy =
        busy_early (can_be_mapped tables va) (is_being_removed fences va) covered.0 (list_any-from_Any (covers host_space (vpn_of va)) fences covered.1) in
        ap (λ e. (step_unless e (word_replaced d slot refusal word value) g).outcome) early,
  )

-- an early refusal changes nothing
pub event_refused_at_once : {A : Type 0} {S : Type 0} (early : Option No) (step : Going → After (Result A No)) (done before : S) (g : Going) (cause : No) → early ≡ Some cause
    → event_by (step_unless early step g) done before ≡ is_refused_at_once cause g before
event_refused_at_once early step done before g cause refused = ap (λ e. event_by (step_unless e step g) done before) refused
