-- Calls that are an access: they stop at its mounting, are refused by its check, or give its value.
use Rattle.std.proofs.Common.{◌≡◌, ℕ, ◌/◌, List, subst, ap, ◌∙◌, sym, refl, ⊎_elim}
use Rattle.std.specs.Prelude.{Err}
use Rattle.pl_base.specs.declared.place.Place.{Place}
use Rattle.mem_slots.specs.declared.slot_use.SlotUse.{SlotUse}
use Rattle.mem_tree.specs.Checks.{Holds as AllHold}
use Rattle.mem_ctl.specs.declared.broken.Broken.{Broken}
use Rattle.mem_ctl.specs.Calls.{accessed, zone_check}
use Rattle.mem_ctl.specs.Data.{CtlData, Value, answer}
use Rattle.mem_ctl.specs.Mounting.{count_use, mounted_for, used}
use Rattle.mem_ctl.specs.Opened.{IsRefused, IsRefusedThen}
use Rattle.mem_ctl.specs.Results.{IsCall, checked_of, outcome_of}
use Rattle.mem_ctl.proofs.CallLemmas.{if_holds-goes, if_holds-stops, then_goes, then_stops}

module _ (gives : List SlotUse → ℕ → Type 0) (d : List ℕ → List ℕ) {A : Type 0} (page : ℕ) (places : List Place) (value : CtlData → A) (change : CtlData → CtlData) (x : CtlData) where
  access_stops : (b : Broken) (y : CtlData) → IsCall gives (mounted_for d (page / 64)) x (outcome_of {A = Unit {0}} (Err b)) y → IsCall gives (accessed d page places value change) x (outcome_of (Err b)) y
  access_stops b y m = then_stops gives (mounted_for d (page / 64)) _ x b y m

  checked_refused : (b : Broken) (y : CtlData) → IsCall gives (mounted_for d (page / 64)) x (Value tt) y → checked_of (Err b) ≡ zone_check d (used y (page / 64)) (page / 64) places
      → IsCall gives (accessed d page places value change) x (outcome_of (Err b)) (used y (page / 64))
  checked_refused b y m is =
      then_goes gives (mounted_for d (page / 64)) _ x tt y (outcome_of (Err b)) (used y (page / 64)) m
      (λ g same.
      let e = if_holds-stops (zone_check d (count_use (page / 64) g).ctl (page / 64) places) b (count_use (page / 64) g) _ (is ∙ ap (λ (w : CtlData). zone_check d (used w (page / 64)) (page / 64) places) (sym same)) in
      record { is = e.is; now = ap (λ (w : CtlData). used w (page / 64)) (sym same) ∙ e.now; shown = e.shown })

  access_gives : (y : CtlData) → IsCall gives (mounted_for d (page / 64)) x (Value tt) y → AllHold ≡ zone_check d (used y (page / 64)) (page / 64) places
      → IsCall gives (accessed d page places value change) x (Value (value (used y (page / 64)))) (change (used y (page / 64)))
  access_gives y m is =
      then_goes gives (mounted_for d (page / 64)) _ x tt y (Value (value (used y (page / 64)))) (change (used y (page / 64))) m
      (λ g same.
      let e = if_holds-goes (zone_check d (count_use (page / 64) g).ctl (page / 64) places) (count_use (page / 64) g) (answer (value (count_use (page / 64) g).ctl) (record (count_use (page / 64) g) { ctl = change (count_use (page / 64) g).ctl }))
      (Value (value (used y (page / 64)))) (change (used y (page / 64)))
      (is ∙ ap (λ (w : CtlData). zone_check d (used w (page / 64)) (page / 64) places) (sym same))
      (record { is = ap (λ (w : CtlData). Value (value (used w (page / 64)))) (sym same); now = ap (λ (w : CtlData). change (used w (page / 64))) (sym same); shown = refl }) in
      record { is = e.is; now = e.now; shown = e.shown })

  -- the same, as the code has them: the zone was opened and the path holds, or why it is refused
  pub access_opened : (between new : CtlData) → IsCall gives (mounted_for d (page / 64)) x (Value tt) between → new ≡ used between (page / 64) → AllHold ≡ zone_check d new (page / 64) places
      → IsCall gives (accessed d page places value change) x (Value (value new)) (change new)
  access_opened between new m now holds =
      subst (λ (y : CtlData). IsCall gives (accessed d page places value change) x (Value (value y)) (change y)) (sym now)
      (access_gives between m (holds ∙ ap (λ (w : CtlData). zone_check d w (page / 64) places) now))

  pub access_refused : (b : Broken) (new : CtlData) → IsRefused gives d page places x b new → IsCall gives (accessed d page places value change) x (outcome_of (Err b)) new
  access_refused b new refused =
      ⊎_elim
      (access_stops b new)
      (λ (h : IsRefusedThen gives d page places x b new).
      subst (IsCall gives (accessed d page places value change) x (outcome_of (Err b))) (sym h.now)
      (checked_refused b h.between h.mounts (h.is ∙ ap (λ (w : CtlData). zone_check d w (page / 64) places) h.now)))
      refused
