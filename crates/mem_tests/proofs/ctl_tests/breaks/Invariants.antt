use Rattle.mem_slots.specs.Choices.{NamesPosition}
use Rattle.mem_tests.proofs.ctl_tests.breaks.Given as goal

abbrev pub invariant-loop-i : goal.invariant-loop-i
invariant-loop-i g l = NamesPosition g.F.Fn l.bench
