-- A path that is asked for.
use Rattle.std.proofs.Common.{◌≡◌, ℕ, ◌/◌, List, refl, ap, ◌∙◌, sym}
use Rattle.std.specs.Prelude.{Err}
use Rattle.mem_slots.specs.declared.slot_use.SlotUse.{SlotUse}
use Rattle.mem_tree.specs.declared.taken.Taken.{Taken}
use Rattle.mem_tree.specs.Words.{parts_of, word_path}
use Rattle.mem_ctl.specs.declared.broken.Broken.{Broken}
use Rattle.mem_ctl.specs.declared.broken.Broken.TheVariants as broken
use Rattle.mem_ctl.specs.Calls.{TakenWord, ask_of, slot_root, word_taken}
use Rattle.mem_ctl.specs.Data.{CtlData, Value}
use Rattle.mem_ctl.specs.Mounting.{mounted_for, taken}
use Rattle.mem_ctl.specs.Opened.{asked_outcome, word_of_taken}
use Rattle.mem_ctl.specs.Results.{IsCall, outcome_of}
use Rattle.mem_ctl.proofs.CallLemmas.{then_goes, then_stops}

pub asked_broken : (D : Type 0) (b : Broken) → outcome_of {A = TakenWord} (Err b) ≡ asked_outcome {D = D} (Err b)
asked_broken D (broken.Fault p) = refl
asked_broken D (broken.Collision k) = refl

module _ (gives : List SlotUse → ℕ → Type 0) (d : List ℕ → List ℕ) (page offset : ℕ) (x : CtlData) where
  pub ask_stops : (b : Broken) (y : CtlData) → IsCall gives (mounted_for d (page / 64)) x (outcome_of {A = Unit {0}} (Err b)) y → IsCall gives (ask_of d page offset) x (outcome_of (Err b)) y
  unfolding ask_of
  ask_stops b y m = then_stops gives (mounted_for d (page / 64)) _ x b y m

  pub ask_gives : {D : Type 0} (y : CtlData) (t : Taken D) → IsCall gives (mounted_for d (page / 64)) x (Value tt) y → t.page ≡ page → t.block_no ≡ offset / 64
      → parts_of t ≡ word_path (slot_root y (page / 64)) (taken y) page (offset / 64) → IsCall gives (ask_of d page offset) x (Value (word_of_taken t)) y
  unfolding ask_of
  ask_gives {D} y t m own_page own_block parts =
      let is : word_of_taken t ≡ word_taken y page (offset / 64) = λ i. record { page = own_page i; block = own_block i; parts = parts i } in
      then_goes gives (mounted_for d (page / 64)) _ x tt y (Value (word_of_taken t)) y m
      (λ g same. record {
        is = ap Value (is ∙ ap (λ (w : CtlData). word_taken w page (offset / 64)) (sym same));
        now = sym same;
        shown = refl;
      })
