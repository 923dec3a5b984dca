use Rattle.std.proofs.Common.{◌≡◌, ◌<◌, ap, ◌∙◌, subst, arith}
use Rattle.std.specs.Fn.{FnReturnsAt}
use Rattle.std.proofs.lemmas.Bool.Decides.{nat_tests}
use Rattle.pl_base.specs.declared.actor.Actor.TheVariants.{Ack}
use Rattle.pl_history.specs.declared.setup.SetupParts.{SetupParts}
use Rattle.world_machine.specs.Runs.{acknowledgements}
use Rattle.world_machine.specs.Steps.{StepOf}
use Rattle.world_machine.proofs.Stepping.{Ran-setup}
use Rattle.world_core.proofs.RoundLemmas.{acknowledgement_more}
use Rattle.world_core.proofs.world.World.turn_acknowledgements.Goals as goal

pub turn-requires-clause-actor : goal.turn-requires-clause-actor
turn-requires-clause-actor g c =
    let old = c.args.self.now.0 in
    let mid = c.loop-hart.self.0 in
    let same : mid.setup ≡ old.setup = Ran-setup g.D.Digester.digest_of (FnReturnsAt g.F.Fn c.args.self.now.1) old mid (acknowledgements c.loop-hart.hart) c.loop-hart.invariant.0 in
    let harts : mid.setup.harts ≡ old.setup.harts = ap (λ (p : SetupParts). p.harts) same in
    let is : c.parts.result.now.harts ≡ old.setup.harts = ap (λ (p : SetupParts). p.harts) (c.parts.ensures.parts ∙ c.setup.ensures) in
    let below : c.loop-hart.hart < old.setup.harts = omega (arith, c.loop-hart-test.true, is) in
    grind (arith, nat_tests)

pub loop-hart-preserved : goal.loop-hart-preserved
loop-hart-preserved g c =
    let d = g.D.Digester.digest_of in
    let old = c.args.self.now.0 in
    let mid = c.loop-hart.self.0 in
    let same : c.loop-hart.self.1 ≡ c.args.self.now.1 = c.loop-hart.invariant.1 in
    let step : StepOf d (FnReturnsAt g.F.Fn c.args.self.now.1) mid (Ack (record { 0 = c.loop-hart.hart })) c.turn.new.self.0
    = subst (λ rule. StepOf d (FnReturnsAt g.F.Fn rule) mid (Ack (record { 0 = c.loop-hart.hart })) c.turn.new.self.0) same c.turn.ensures.step in
    (acknowledgement_more d (FnReturnsAt g.F.Fn c.args.self.now.1) old mid c.turn.new.self.0 c.loop-hart.hart c.loop-hart.invariant.0 step, c.turn.ensures.choice ∙ same)
