use Rattle.std.proofs.Common.{◌≡◌}
use Rattle.mem_slots.specs.Choices.{NamesPosition}
use Rattle.mon_host.specs.Unmapping.{HaveHostLeaves}
use Rattle.mon_tests.proofs.host_tests.answers.Given as goal

abbrev pub invariant-loop-va : goal.invariant-loop-va
invariant-loop-va g l = (l.ctl.0.zones ≡ 1) × HaveHostLeaves 1 l.ctl.0 × NamesPosition g.F.Fn l.ctl.1
