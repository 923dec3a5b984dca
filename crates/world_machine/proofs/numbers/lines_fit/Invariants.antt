use Rattle.std.proofs.Common.{take}
use Rattle.world_machine.specs.LineNumbers.{LinesFit}
use Rattle.world_machine.proofs.numbers.lines_fit.Given as goal

abbrev pub invariant-loop-line : goal.invariant-loop-line
invariant-loop-line l = LinesFit (take l.line-index l.lines)
