use Rattle.std.proofs.Common.{List, length, sum_by, ap, ◌∙◌, arith}
use Rattle.pl_history.specs.declared.line.Line.{Line}
use Rattle.pl_history.specs.declared.setup.SetupParts.{SetupParts}
use Rattle.world_attack.proofs.RoomLemmas.{room_at_start}
use Rattle.world_attack.proofs.room.room_for.Goals as goal

pub returns-clause-enough : goal.returns-clause-enough
returns-clause-enough c = λ h entries bytes.
    let lines = c.line_count.ensures ∙ ap (λ (scripts : List (List Line)). sum_by length scripts) (c.as_slice.ensures ∙ ap (λ (s : SetupParts). s.lines) c.parts-parts.ensures.parts) in
    let attacker = ap (λ (s : SetupParts). length s.attacker) c.parts-parts.ensures.parts in
    room_at_start c.args.setup.now h c.parts-parts.ensures.rules (omega (arith, lines, attacker, entries)) (omega (arith, attacker, bytes))
