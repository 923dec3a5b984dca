use Rattle.std.proofs.Common.{sym, subst}
use Rattle.std.specs.Fn.{FnReturnsAt}
use Rattle.pl_base.specs.declared.actor.Actor.{Actor}
use Rattle.world_events.specs.Turns.{IsTurn}
use Rattle.world_machine.specs.Steps.{actor_turn}
use Rattle.world_core.proofs.turns.actor_turn.Goals as goal

pub returns-in-Attacker-clause-turn : goal.returns-in-Attacker-clause-turn
returns-in-Attacker-clause-turn g c =
    let w = c.args.machine.now in
    subst (λ (a : Actor). IsTurn (FnReturnsAt g.F.Fn w.1) (actor_turn g.D.Digester.digest_of w.0 a) c.attacker_turn.result w.0 c.attacker_turn.new.machine.0) (sym c.in-Attacker.is) c.attacker_turn.ensures.turn

pub returns-in-Ack-clause-turn : goal.returns-in-Ack-clause-turn
returns-in-Ack-clause-turn g c =
    let w = c.args.machine.now in
    subst (λ (a : Actor). IsTurn (FnReturnsAt g.F.Fn w.1) (actor_turn g.D.Digester.digest_of w.0 a) c.ack_turn.result w.0 c.ack_turn.new.self.0) (sym c.in-Ack.is) c.ack_turn.ensures.turn
