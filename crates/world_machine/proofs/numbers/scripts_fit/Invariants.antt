use Rattle.std.proofs.Common.{take}
use Rattle.world_machine.specs.LineNumbers.{ScriptsFit}
use Rattle.world_machine.proofs.numbers.scripts_fit.Given as goal

abbrev pub invariant-loop-lines : goal.invariant-loop-lines
invariant-loop-lines l = ScriptsFit (take l.lines-index l.scripts)
