use Rattle.std.proofs.Common.{sym, subst}
use Rattle.std.specs.Fn.{FnReturnsAt}
use Rattle.world_events.specs.declared.dues.Attack.{Attack}
use Rattle.world_core.specs.Turns.{attack_turn}
use Rattle.world_events.specs.Turns.{IsTurn}
use Rattle.world_core.proofs.turns.attack_by.Goals as goal

pub returns-in-After-clause-turn : goal.returns-in-After-clause-turn
returns-in-After-clause-turn g c =
    let w = c.args.machine.now in
    subst (λ (line : Attack). IsTurn (FnReturnsAt g.F.Fn w.1) (λ positions. attack_turn w.0 line) c.attacker_wait.result w.0 c.attacker_wait.new.machine.0) (sym c.in-After.is) c.attacker_wait.ensures.turn
