-- The lines of harts without the pages that they name, and those of the attacker without their bytes.
use Rattle.std.specs.Prelude.{true, false, Option, Some, None}
use Rattle.pl_history.specs.declared.line.AttackLine.{AttackLine}
use Rattle.pl_history.specs.declared.line.AttackLine.TheVariants as attack
use Rattle.pl_history.specs.declared.line.Line.{Line}
use Rattle.pl_history.specs.declared.line.Line.TheVariants as line_is
use Rattle.world_events.specs.declared.dues.Attack.{Attack}
use Rattle.world_events.specs.declared.dues.Attack.TheVariants as attack_is
use Rattle.world_events.specs.declared.dues.Due.{Due}
use Rattle.world_events.specs.declared.dues.Due.TheVariants as due_is

abbrev pub due_of : Option Line → Due
due_of (Some (line_is.Load va)) = due_is.Load va
due_of (Some (line_is.Store va word)) = due_is.Store va word
due_of (Some (line_is.Map va page perms)) = due_is.Map va page perms
due_of (Some (line_is.Unmap va)) = due_is.Unmap va
due_of (Some (line_is.Create e image pages)) = due_is.Create e image false
due_of (Some (line_is.Shadow e image pages)) = due_is.Create e image true
due_of (Some (line_is.Fork s e pages)) = due_is.Fork s e
due_of (Some (line_is.Grant e page)) = due_is.Grant e page
due_of (Some (line_is.Run e budget)) = due_is.Run e budget true
due_of (Some (line_is.Resume e budget)) = due_is.Run e budget false
due_of (Some (line_is.Send e word)) = due_is.Send e word
due_of (Some (line_is.Take e)) = due_is.Take e
due_of (Some (line_is.Destroy e)) = due_is.Destroy e
due_of (Some (line_is.Drop s)) = due_is.Drop s
due_of (Some (line_is.After actor count)) = due_is.After actor count
due_of line = due_is.Nothing

abbrev pub attack_of : Option AttackLine → Attack
attack_of None = attack_is.Nothing
attack_of (Some (attack.After actor count)) = attack_is.After actor count
attack_of (Some line) = attack_is.Line
