use Rattle.std.proofs.Common.{sym, subst}
use Rattle.std.specs.Fn.{FnReturnsAt}
use Rattle.world_core.specs.Steps.{unmap_so_far}
use Rattle.world_events.specs.Turns.{IsTurn}
use Rattle.world_machine.specs.declared.under.Under.{Under}
use Rattle.world_core.proofs.steps.unmap_line.Goals as goal

pub returns-in-Removing-clause-turn : goal.returns-in-Removing-clause-turn
returns-in-Removing-clause-turn g c =
    let w = c.args.machine.now in
    subst (λ (under : Under). IsTurn (FnReturnsAt g.F.Fn w.1) (λ positions. unmap_so_far g.D.Digester.digest_of w.0 c.args.hart.0 positions c.args.va under) c.unmap_turn.result w.0 c.unmap_turn.new.self.0) (sym c.in-Removing.is)
    c.unmap_turn.ensures.turn
