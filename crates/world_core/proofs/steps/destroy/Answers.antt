use Rattle.std.proofs.Common.{sym, subst}
use Rattle.std.specs.Fn.{FnReturnsAt}
use Rattle.world_core.specs.Steps.{destroy_so_far}
use Rattle.world_events.specs.Turns.{IsTurn}
use Rattle.world_machine.specs.declared.under.Under.{Under}
use Rattle.world_core.proofs.steps.destroy.Goals as goal

pub returns-in-Destroying-clause-turn : goal.returns-in-Destroying-clause-turn
returns-in-Destroying-clause-turn g c =
    let w = c.args.machine.now in
    subst (λ (under : Under). IsTurn (FnReturnsAt g.F.Fn w.1) (λ positions. destroy_so_far w.0 c.args.hart.0 c.args.e under) c.destroy_turn.result w.0 c.destroy_turn.new.self.0) (sym c.in-Destroying.is)
    c.destroy_turn.ensures.turn
