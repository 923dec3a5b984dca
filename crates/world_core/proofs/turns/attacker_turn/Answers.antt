use Rattle.std.proofs.Common.{ap, ◌∙◌}
use Rattle.std.specs.Fn.{FnReturnsAt}
use Rattle.world_core.specs.Turns.{attack_turn}
use Rattle.world_machine.specs.Steps.{attacker_turn}
use Rattle.world_machine.specs.Worlds.{attacker_line}
use Rattle.world_core.proofs.TurnLemmas.{attack_turn-line, turn_same}
use Rattle.world_core.proofs.turns.attacker_turn.Goals as goal

pub returns-clause-turn : goal.returns-clause-turn
returns-clause-turn g c =
    let w = c.args.machine.now in
    let d = g.D.Digester.digest_of in
    turn_same (FnReturnsAt g.F.Fn w.1) (λ positions. attack_turn w.0 c.attack_due-line.result) (λ positions. attacker_turn d w.0 (attacker_line w.0)) c.attack_by.result w.0 c.attack_by.new.machine.0
    (λ positions. ap (attack_turn w.0) c.attack_due-line.ensures ∙ attack_turn-line d w.0 (attacker_line w.0)) c.attack_by.ensures.turn
