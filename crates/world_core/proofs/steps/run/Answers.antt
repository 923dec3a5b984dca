use Rattle.std.proofs.Common.{sym, subst}
use Rattle.std.specs.Fn.{FnReturnsAt}
use Rattle.world_core.specs.Steps.{run_turn}
use Rattle.world_events.specs.Turns.{IsTurn}
use Rattle.world_machine.specs.declared.under.Under.{Under}
use Rattle.world_core.proofs.steps.run.Goals as goal

pub returns-in-Breaking-clause-turn : goal.returns-in-Breaking-clause-turn
returns-in-Breaking-clause-turn g c =
    let w = c.args.machine.now in
    subst (λ (under : Under). IsTurn (FnReturnsAt g.F.Fn w.1) (λ positions. run_turn g.D.Digester.digest_of w.0 c.args.hart.0 positions c.args.e.0 c.args.budget c.args.first under) c.breaking_turn.result w.0 c.breaking_turn.new.self.0)
    (sym c.in-Breaking.is) c.breaking_turn.ensures.turn
