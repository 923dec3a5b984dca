use Rattle.std.proofs.Common.{ap, ◌∙◌}
use Rattle.std.specs.Fn.{FnReturnsAt}
use Rattle.world_events.specs.declared.dues.Due.{Due}
use Rattle.world_events.specs.Conditions.{pages_due}
use Rattle.world_core.specs.Steps.{due_turn}
use Rattle.world_machine.specs.declared.under.Under.{Under}
use Rattle.world_machine.specs.Steps.{hart_turn}
use Rattle.world_machine.specs.Worlds.{hart_line, under_at}
use Rattle.world_core.proofs.TurnLemmas.{due_turn-hart, turn_same}
use Rattle.world_core.proofs.turns.hart_turn.Goals as goal

pub returns-clause-turn : goal.returns-clause-turn
returns-clause-turn g c =
    let w = c.args.machine.now in
    let d = g.D.Digester.digest_of in
    let hart = c.args.hart.0 in
    let line = hart_line w.0 hart in
    let due = c.due-due in
    let under = c.under_way-under in
    turn_same (FnReturnsAt g.F.Fn w.1) (λ positions. due_turn d w.0 hart positions (pages_due w.0 hart) due.result under.result) (λ positions. hart_turn d w.0 hart positions line) c.make.result w.0 c.make.new.machine.0
    (λ positions.
    ap (λ (u : Under). due_turn d w.0 hart positions (pages_due w.0 hart) due.result u) under.ensures
    ∙ ap (λ (x : Due). due_turn d w.0 hart positions (pages_due w.0 hart) x (under_at w.0.under hart)) due.ensures ∙ due_turn-hart d w.0 hart positions line)
    c.make.ensures.turn
