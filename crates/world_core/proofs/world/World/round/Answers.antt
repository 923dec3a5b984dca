use Rattle.std.proofs.Common.{◌≡◌, [], ◌∷◌, ◌++◌, ◌∙◌, subst}
use Rattle.std.specs.Fn.{FnReturnsAt}
use Rattle.pl_base.specs.declared.actor.Actor.TheVariants.{Attacker}
use Rattle.world_machine.specs.Runs.{acknowledgements, hart_turns}
use Rattle.world_machine.specs.Steps.{Ran, StepOf}
use Rattle.world_machine.proofs.Rounds.{rounds_lessen}
use Rattle.world_machine.proofs.Stepping.{Ran-append, Ran-setup, Ran-snoc}
use Rattle.world_core.proofs.world.World.round.Goals as goal

pub returns-clause-ran : goal.returns-clause-ran
returns-clause-ran g c =
    let d = g.D.Digester.digest_of in
    let old = c.args.self.now.0 in
    let first = c.turn_harts.new.self.0 in
    let second = c.turn_acknowledgements.new.self.0 in
    let last = c.turn.new.self.0 in
    let gives = FnReturnsAt g.F.Fn c.args.self.now.1 in
    let harts : Ran d gives old (hart_turns old.setup.harts) first = c.turn_harts.ensures.ran in
    let setup : first.setup ≡ old.setup = Ran-setup d gives old first (hart_turns old.setup.harts) harts in
    let acks : Ran d gives first (acknowledgements old.setup.harts) second
    = subst (λ p. Ran d gives first (acknowledgements p.harts) second) setup
    (subst (λ rule. Ran d (FnReturnsAt g.F.Fn rule) first (acknowledgements first.setup.harts) second) c.turn_harts.ensures.choice c.turn_acknowledgements.ensures.ran) in
    let step : StepOf d gives second Attacker last
    = subst (λ rule. StepOf d (FnReturnsAt g.F.Fn rule) second Attacker last) (c.turn_acknowledgements.ensures.choice ∙ c.turn_harts.ensures.choice) c.turn.ensures.step in
    Ran-append d gives old first last (hart_turns old.setup.harts) (acknowledgements old.setup.harts ++ Attacker ∷ []) harts
    (Ran-snoc d gives first second last (acknowledgements old.setup.harts) Attacker acks step)

pub returns-clause-less : goal.returns-clause-less
returns-clause-less g c over =
    rounds_lessen g.D.Digester.digest_of g.met.D.Digester.digest_length (FnReturnsAt g.F.Fn c.args.self.now.1) c.args.self.now.0 c.turn.new.self.0 c.stands.ensures.reached over (returns-clause-ran g c)
