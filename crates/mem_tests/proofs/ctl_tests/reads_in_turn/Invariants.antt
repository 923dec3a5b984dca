use Rattle.mem_slots.specs.Choices.{NamesPosition}
use Rattle.mem_tests.proofs.ctl_tests.reads_in_turn.Given as goal

abbrev pub invariant-loop-page : goal.invariant-loop-page
invariant-loop-page g l = NamesPosition g.F.Fn l.bench
