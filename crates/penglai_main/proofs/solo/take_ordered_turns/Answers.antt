use Rattle.std.specs.List.{list_all}
use Rattle.std.specs.Prelude.{slice_get}
use Rattle.std.proofs.lemmas.Bool.{and_parts}
use Rattle.std.proofs.Common.{◌≡◌, leb, Some, length, take, ap, sym, ◌∙◌, subst, arith}
use Rattle.std.specs.Fn.{FnReturnsAt}
use Rattle.std.proofs.lemmas.Option.{get_or_from_slice_get}
use Rattle.pl_history.specs.declared.setup.SetupParts.{SetupParts}
use Rattle.pl_history.specs.Rules.{IsSetup, is_actor}
use Rattle.world_machine.specs.Steps.{StepOf}
use Rattle.world_machine.proofs.SetupFacts.{each_holds}
use Rattle.world_machine.proofs.Stepping.{Ran-setup}
use Rattle.penglai_main.proofs.SoloLemmas.{turn_more}
use Rattle.penglai_main.proofs.solo.take_ordered_turns.Goals as goal

pub actor_at-actor-requires : goal.actor_at-actor-requires
actor_at-actor-requires g c =
    let old = c.args.world.now.0 in
    let mid = c.loop-turn.world.0 in
    let same : mid.setup ≡ old.setup = Ran-setup g.D.Digester.digest_of (FnReturnsAt g.F.Fn c.args.world.now.1) old mid (take c.loop-turn.turn old.setup.order) c.loop-turn.invariant.0 in
    let order : c.as_slice.result.now ≡ old.setup.order = c.as_slice.ensures ∙ ap (λ (p : SetupParts). p.order) (c.parts-in-loop-turn.ensures.parts ∙ c.setup-in-loop-turn.ensures ∙ same) in
    let first : c.as_slice-turns.result.now ≡ old.setup.order = c.as_slice-turns.ensures ∙ ap (λ (p : SetupParts). p.order) (c.parts.ensures.parts ∙ c.setup.ensures) in
    let a : length c.as_slice.result.now ≡ length old.setup.order = ap length order in
    let b : length c.as_slice-turns.result.now ≡ length old.setup.order = ap length first in
    omega (arith, c.loop-turn-test.true, a, b)

pub loop-turn-preserved : goal.loop-turn-preserved
loop-turn-preserved g c =
    let d = g.D.Digester.digest_of in
    let old = c.args.world.now.0 in
    let mid = c.loop-turn.world.0 in
    let same : mid.setup ≡ old.setup = Ran-setup d (FnReturnsAt g.F.Fn c.args.world.now.1) old mid (take c.loop-turn.turn old.setup.order) c.loop-turn.invariant.0 in
    let order : c.as_slice.result.now ≡ old.setup.order = c.as_slice.ensures ∙ ap (λ (p : SetupParts). p.order) (c.parts-in-loop-turn.ensures.parts ∙ c.setup-in-loop-turn.ensures ∙ same) in
    let first : c.as_slice-turns.result.now ≡ old.setup.order = c.as_slice-turns.ensures ∙ ap (λ (p : SetupParts). p.order) (c.parts.ensures.parts ∙ c.setup.ensures) in
    let b : length c.as_slice-turns.result.now ≡ length old.setup.order = ap length first in (
      turn_more d (FnReturnsAt g.F.Fn c.args.world.now.1) old mid c.turn.new.self.0 old.setup.order c.as_slice.result.now c.loop-turn.turn c.actor_at-actor.result c.actor_at-actor.result order (omega (arith, c.loop-turn-test.true, b)) (sym (get_or_from_slice_get c.as_slice.result.now c.loop-turn.turn c.actor_at-actor.result c.actor_at-actor.result c.actor_at-actor.ensures)) c.loop-turn.invariant.0
          (subst (λ rule. StepOf d (FnReturnsAt g.F.Fn rule) mid c.actor_at-actor.result c.turn.new.self.0) c.loop-turn.invariant.1 c.turn.ensures.step),
      c.turn.ensures.choice ∙ c.loop-turn.invariant.1,
    )

pub turn-requires-clause-actor : goal.turn-requires-clause-actor
turn-requires-clause-actor g c =
    let mid = c.loop-turn.world.0 in
    let rules : IsSetup mid.setup = subst IsSetup c.setup-in-loop-turn.ensures c.parts-in-loop-turn.ensures.rules in
    let seen : c.as_slice.result.now ≡ mid.setup.order = c.as_slice.ensures ∙ ap (λ (p : SetupParts). p.order) (c.parts-in-loop-turn.ensures.parts ∙ c.setup-in-loop-turn.ensures) in
    each_holds (is_actor mid.setup.harts) mid.setup.order c.loop-turn.turn c.actor_at-actor.result
    (and_parts (leb (length mid.setup.order) 100000) (list_all (is_actor mid.setup.harts) mid.setup.order) rules.order).1
    (subst (λ xs. slice_get xs c.loop-turn.turn ≡ Some c.actor_at-actor.result) seen c.actor_at-actor.ensures)
