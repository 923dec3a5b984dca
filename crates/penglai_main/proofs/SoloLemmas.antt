-- What is known of the world that a run ends with, and what its status says.
use Rattle.std.proofs.Common.{◌≡◌, ℕ, ◌+◌, ◌<◌, ◌≢◌, List, [], ◌∷◌, ◌++◌, length, take, get_or, Option, Some, None, Result, Ok, Err, refl, sym, ap, ◌∙◌, subst}
use Rattle.std.specs.Prelude.{OnErr, OnOk}
use Rattle.std.specs.Io.KnownBytes.{Appends}
use Rattle.std.proofs.lemmas.List.{take_more}
use Rattle.pl_base.specs.declared.actor.Actor.{Actor}
use Rattle.pl_base.specs.declared.fault.Failed.{Failed as Fails}
use Rattle.pl_history.specs.declared.setup.SetupParts.{SetupParts}
use Rattle.pl_io.specs.Bytes.{AppendsPrefix}
use Rattle.pl_io.specs.Causes.{Rose}
use Rattle.pl_io.specs.Puts.{Puts}
use Rattle.world_machine.specs.declared.turned.Finished.{Finished}
use Rattle.world_machine.specs.declared.turned.Finished.TheVariants as finished
use Rattle.world_machine.specs.Endings.{EndsBy, IsUndisturbed}
use Rattle.world_machine.specs.Reached.{Reached, opening_world}
use Rattle.world_machine.specs.Runs.{Plays, rounds_of}
use Rattle.world_machine.specs.Steps.{Ran, StepOf}
use Rattle.world_machine.specs.Worlds.{CollisionData, WorldData}
use Rattle.world_machine.proofs.Endings.{ends_by}
use Rattle.world_machine.proofs.Kept.{reached_kept}
use Rattle.world_machine.proofs.RemovedMappings.{removed_stay_unused}
use Rattle.world_machine.proofs.Stepping.{Ran-reached, Ran-setup, Ran-snoc}
use Rattle.world_machine.proofs.Undisturbed.{undisturbed}
use Rattle.penglai_main.specs.declared.solo.Printed.{Printed}
use Rattle.penglai_main.specs.declared.status.Status.{Status}
use Rattle.penglai_main.specs.declared.status.Status.TheVariants as status_is
use Rattle.penglai_main.specs.Ends.{Ends}
use Rattle.penglai_main.specs.Play.{Gives, IsRunOf, PlayedTo, RunEnds, run_text}
use Rattle.penglai_main.specs.Top.{status_of}

pub opening_setup : (digest_of : List ℕ → List ℕ) (setup : SetupParts) → (opening_world digest_of setup).setup ≡ setup
unfolding opening_world
opening_setup digest_of setup = refl

some_is_kept : (o : Option CollisionData) (c : CollisionData) → o ≡ Some c → o ≡ None → ⊥
some_is_kept None c some none = cc
some_is_kept (Some other) c some none = cc

module _ (digest_of : List ℕ → List ℕ) (law : (m : List ℕ) → length (digest_of m) ≡ 32) (gives : Gives) where
  -- where no collision is kept, the run doesn't end by one
  not_by_collision : (w : WorldData) (end : Finished) → EndsBy digest_of end w → IsUndisturbed w → end ≢ finished.Collision
  not_by_collision w finished.Done ends is same = cc
  not_by_collision w finished.Collision ends is same = some_is_kept w.collision ends.collision ends.kept is.none
  not_by_collision w finished.Stuck ends is same = cc

  pub is_run : (old w : WorldData) (end : Finished) → old ≡ opening_world digest_of old.setup → Reached digest_of old → Plays digest_of gives old w end → IsRunOf digest_of gives old.setup end w
  is_run old w end opening reached plays =
      let actors : List Actor = old.setup.order ++ rounds_of old.setup plays.rounds in
      let now : Reached digest_of w = Ran-reached digest_of gives old w actors reached plays.ran in
      record {
        setup_is = Ran-setup digest_of gives old w actors plays.ran;
        reached = now;
        kept = reached_kept digest_of law w now;
        plays = subst (λ v. Plays digest_of gives v w end) opening plays;
        ends = ends_by digest_of w (reached_kept digest_of law w now) end plays.over;
        unused = removed_stay_unused w.setup w.history.bytes w.history.entries (reached_kept digest_of law w now).legal;
        undisturbed = λ still.
            let kept = reached_kept digest_of law w now in
            let is = undisturbed digest_of w kept still in
            (is.faultless, not_by_collision w end (ends_by digest_of w kept end plays.over) is);
      }

module _ (digest_of : List ℕ → List ℕ) (gives : Gives) (setup : SetupParts) (printed : Printed) (w : WorldData) where
  written : (end : Finished) (sink : Ends) → IsRunOf digest_of gives setup end w → Appends sink.old sink.new (run_text printed w end) → PlayedTo digest_of gives setup printed w sink (status_of end)
  written finished.Done sink is all = (is, all)
  written finished.Collision sink is all = (is, all)
  written finished.Stuck sink is all = (is, all)

  module _ (end : Finished) (a b : Option (List ℕ)) (f g : ℕ) (r : Result (Unit {0}) Fails) (is : IsRunOf digest_of gives setup end w) (puts : Puts a b f g (run_text printed w end) r) where
    pub played_whole : (x : Unit {0}) (status : Status) → r ≡ Ok x → status ≡ status_of end → PlayedTo digest_of gives setup printed w (record { old = a; new = b; before = f; now = g }) status
    played_whole x status ok of_end =
        subst (PlayedTo digest_of gives setup printed w (record { old = a; new = b; before = f; now = g })) (sym of_end)
        (written end (record { old = a; new = b; before = f; now = g }) is (subst (λ (s : Result (Unit {0}) Fails). OnOk s (Appends a b (run_text printed w end))) ok puts.whole))

    pub played_part : (e : Fails) → r ≡ Err e → PlayedTo digest_of gives setup printed w (record { old = a; new = b; before = f; now = g }) status_is.WriteFault
    played_part e err = (
      subst (λ (s : Result (Unit {0}) Fails). OnErr s (Rose f g)) err puts.cause.failed,
      (end, is, subst (λ (s : Result (Unit {0}) Fails). OnErr s (AppendsPrefix a b (run_text printed w end))) err puts.part),
    )

pub run_ends : (digest_of : List ℕ → List ℕ) (gives : Gives) (setup : SetupParts) (printed : Printed) (w : WorldData) (sink : Ends) (status : Status) → PlayedTo digest_of gives setup printed w sink status → RunEnds digest_of gives setup printed sink status
run_ends digest_of gives setup printed w sink status_is.Done k = (w, k)
run_ends digest_of gives setup printed w sink status_is.Collision k = (w, k)
run_ends digest_of gives setup printed w sink status_is.Stuck k = (w, k)
run_ends digest_of gives setup printed w sink status_is.WriteFault k = (w, k)
run_ends digest_of gives setup printed w sink status_is.BadWords k = absurd k
run_ends digest_of gives setup printed w sink status_is.ReadFault k = absurd k
run_ends digest_of gives setup printed w sink (status_is.BadSetup rule item cause) k = absurd k
run_ends digest_of gives setup printed w sink status_is.NoMemory k = absurd k

-- one more turn of the order
pub turn_more : (digest_of : List ℕ → List ℕ) (gives : Gives) (old mid new : WorldData) (order seen : List Actor) (at : ℕ) (actor d : Actor) → seen ≡ order → at < length order → actor ≡ get_or seen at d
    → Ran digest_of gives old (take at order) mid → StepOf digest_of gives mid actor new → Ran digest_of gives old (take (at + 1) order) new
turn_more digest_of gives old mid new order seen at actor d same below is ran step =
    subst (λ actors. Ran digest_of gives old actors new)
    (sym (take_more order at d below ∙ ap (λ a. take at order ++ a ∷ []) (sym (is ∙ ap (λ xs. get_or xs at d) same))))
    (Ran-snoc digest_of gives old mid new (take at order) actor ran step)
