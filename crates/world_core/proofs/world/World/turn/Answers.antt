use Rattle.std.proofs.Common.{◌≡◌, subst, sym}
use Rattle.std.specs.Prelude.{IsTrue}
use Rattle.std.specs.Fn.{FnReturnsAt}
use Rattle.pl_history.specs.Rules.{is_actor}
use Rattle.world_machine.specs.Adding.{AnswersAtMostOne, moves_after}
use Rattle.world_machine.specs.Standing.{Kept}
use Rattle.world_machine.proofs.Bounds.{monitor_retired}
use Rattle.world_machine.proofs.Kept.{reached_kept}
use Rattle.world_machine.proofs.OneAnswer.{step_answers, step_counts}
use Rattle.world_machine.proofs.Stepping.{reached_step}
use Rattle.world_core.proofs.ConditionLemmas.{can_actor}
use Rattle.world_core.proofs.world.World.turn.Goals as goal

pub turn-requires-clause-can : goal.turn-requires-clause-can
turn-requires-clause-can g c =
    let d = g.D.Digester.digest_of in
    let w = c.self.inside.machine.0 in
    let kept : Kept d w = reached_kept d g.met.D.Digester.digest_length w c.self.invariant in
    can_actor d w kept (monitor_retired d w kept) c.args.actor (subst (λ v. IsTrue (is_actor v.0.setup.harts c.args.actor)) (sym c.self.view_is) c.requires.actor)

pub invariant_of-self : goal.invariant_of-self
invariant_of-self g c = reached_step g.D.Digester.digest_of (FnReturnsAt g.F.Fn c.self.inside.machine.1) c.self.inside.machine.0 c.turn.new.machine.0 c.args.actor c.self.invariant c.turn.ensures.step

pub returns-clause-answer : goal.returns-clause-answer
returns-clause-answer g c =
    let w = c.self.inside.machine.0 in
    let answers = step_answers g.D.Digester.digest_of (FnReturnsAt g.F.Fn c.self.inside.machine.1) w c.args.actor c.turn.new.machine.0 c.turn.ensures.step in
    subst (λ v. AnswersAtMostOne v.0 c.args.actor c.turn.new.machine.0) c.self.view_is answers

pub returns-clause-moves : goal.returns-clause-moves
returns-clause-moves g c =
    let w = c.self.inside.machine.0 in
    let counts = step_counts g.D.Digester.digest_of (FnReturnsAt g.F.Fn c.self.inside.machine.1) w c.args.actor c.turn.new.machine.0 c.turn.ensures.step c.turn.result c.turn.ensures.turned in
    subst (λ v. c.turn.new.machine.0.moves ≡ moves_after c.turn.result v.0.moves) c.self.view_is counts
