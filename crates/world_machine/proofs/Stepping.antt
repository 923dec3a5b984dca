-- A step from a world that is reached gives one; turns in a row.
use Rattle.std.proofs.Common.{◌≡◌, ℕ, suc, List, [], ◌∷◌, ◌++◌, refl, sym, ap, ◌∙◌, subst}
use Rattle.pl_base.specs.declared.actor.Actor.{Actor}
use Rattle.mem_slots.specs.declared.slot_use.SlotUse.{SlotUse}
use Rattle.mem_ctl.specs.Results.{AreGiven}
use Rattle.world_machine.specs.Reached.{Reached, opening_world}
use Rattle.world_machine.specs.Runs.{Finishes, Plays, round_of, rounds_of}
use Rattle.world_machine.specs.Steps.{AllFit, AnyAnswer, Fits, Ran, Step, StepOf, replay_from, stepped}
use Rattle.world_machine.specs.Worlds.{WorldData}
use Rattle.world_machine.proofs.SetupStays.{step_setup}

module _ (digest_of : List ℕ → List ℕ) where
  -- ---- one more step

  any_given : (gives : List SlotUse → ℕ → Type 0) (shown : List (List SlotUse)) (positions : List ℕ) → AreGiven gives shown positions → AreGiven AnyAnswer shown positions
  any_given gives [] [] given = tt
  any_given gives [] (p ∷ ps) given = given
  any_given gives (slots ∷ shown) [] given = given
  any_given gives (slots ∷ shown) (p ∷ ps) given = (tt, given.1, any_given gives shown ps given.2)

  any_fits : (gives : List SlotUse → ℕ → Type 0) (w : WorldData) (step : Step) → Fits digest_of gives w step → Fits digest_of AnyAnswer w step
  any_fits gives w step fits = record { actor = fits.actor; positions = any_given gives _ step.positions fits.positions }

  replay-snoc : (w : WorldData) (steps : List Step) (step : Step) → replay_from digest_of w (steps ++ step ∷ []) ≡ stepped digest_of (replay_from digest_of w steps) step
  replay-snoc w [] step = refl
  replay-snoc w (s ∷ steps) step = replay-snoc (stepped digest_of w s) steps step

  fit-snoc : (w : WorldData) (steps : List Step) (step : Step) → AllFit digest_of w steps → Fits digest_of AnyAnswer (replay_from digest_of w steps) step → AllFit digest_of w (steps ++ step ∷ [])
  fit-snoc w [] step all fits = (fits, tt)
  fit-snoc w (s ∷ steps) step all fits = (all.0, fit-snoc (stepped digest_of w s) steps step all.1 fits)

  -- a step from a world that is reached gives one that is
  pub reached_step : (gives : List SlotUse → ℕ → Type 0) (old new : WorldData) (actor : Actor) → Reached digest_of old → StepOf digest_of gives old actor new → Reached digest_of new
  reached_step gives old new actor reached s =
      let step : Step = record { actor = actor; positions = s.positions } in
      let same : new.setup ≡ old.setup = step_setup digest_of gives old new actor s in
      let fits : Fits digest_of AnyAnswer (replay_from digest_of (opening_world digest_of old.setup) reached.steps) step
      = subst (λ w. Fits digest_of AnyAnswer w step) reached.is (any_fits gives old step s.fits) in
      record {
        setup = subst Rattle.world_machine.specs.Reached.CanRun (sym same) reached.setup;
        steps = reached.steps ++ step ∷ [];
        is = s.is ∙ ap (λ w. stepped digest_of w step) reached.is ∙ sym (replay-snoc (opening_world digest_of old.setup) reached.steps step)
            ∙ ap (λ setup. replay_from digest_of (opening_world digest_of setup) (reached.steps ++ step ∷ [])) (sym same);
        fit = subst (λ setup. AllFit digest_of (opening_world digest_of setup) (reached.steps ++ step ∷ [])) (sym same)
            (fit-snoc (opening_world digest_of old.setup) reached.steps step reached.fit fits);
      }

  -- ---- turns in a row

  module _ (gives : List SlotUse → ℕ → Type 0) where
    pub Ran-snoc : (old mid new : WorldData) (actors : List Actor) (actor : Actor) → Ran digest_of gives old actors mid → StepOf digest_of gives mid actor new → Ran digest_of gives old (actors ++ actor ∷ []) new
    Ran-snoc old mid new [] actor r s = (new, subst (λ w. StepOf digest_of gives w actor new) r s, refl)
    Ran-snoc old mid new (a ∷ actors) actor r s = (r.0, r.1, Ran-snoc r.0 mid new actors actor r.2 s)

    pub Ran-append : (old mid new : WorldData) (actors more : List Actor) → Ran digest_of gives old actors mid → Ran digest_of gives mid more new → Ran digest_of gives old (actors ++ more) new
    Ran-append old mid new [] more r s = subst (λ w. Ran digest_of gives w more new) r s
    Ran-append old mid new (a ∷ actors) more r s = (r.0, r.1, Ran-append r.0 mid new actors more r.2 s)

    pub Ran-setup : (old new : WorldData) (actors : List Actor) → Ran digest_of gives old actors new → new.setup ≡ old.setup
    Ran-setup old new [] r = ap (λ (w : WorldData). w.setup) r
    Ran-setup old new (a ∷ actors) r = Ran-setup r.0 new actors r.2 ∙ step_setup digest_of gives old r.0 a r.1

    pub Ran-reached : (old new : WorldData) (actors : List Actor) → Reached digest_of old → Ran digest_of gives old actors new → Reached digest_of new
    Ran-reached old new [] reached r = subst (Reached digest_of) (sym r) reached
    Ran-reached old new (a ∷ actors) reached r = Ran-reached r.0 new actors (reached_step gives old r.0 a reached r.1) r.2

    -- one more round
    pub rounds_more : (old mid new : WorldData) (rounds : ℕ) → Ran digest_of gives old (rounds_of old.setup rounds) mid → Ran digest_of gives mid (round_of mid.setup) new
        → Ran digest_of gives old (rounds_of old.setup (suc rounds)) new
    rounds_more old mid new rounds r s = Ran-append old mid new (rounds_of old.setup rounds) (round_of old.setup) r
        (subst (λ p. Ran digest_of gives mid (round_of p) new) (Ran-setup old mid (rounds_of old.setup rounds) r) s)

    -- the turns of the order, and then whole rounds
    pub plays : (old mid new : WorldData) (end : _) → Ran digest_of gives old old.setup.order mid → Finishes digest_of gives mid new end → Plays digest_of gives old new end
    plays old mid new end r f = record {
      rounds = f.rounds;
      ran = Ran-append old mid new old.setup.order (rounds_of old.setup f.rounds) r
          (subst (λ p. Ran digest_of gives mid (rounds_of p f.rounds) new) (Ran-setup old mid old.setup.order r) f.ran);
      over = f.over;
    }
