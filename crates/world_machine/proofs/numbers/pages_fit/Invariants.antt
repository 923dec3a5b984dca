use Rattle.std.proofs.Common.{take}
use Rattle.world_machine.specs.ByteBounds.{ArePageBytes}
use Rattle.world_machine.proofs.numbers.pages_fit.Given as goal

abbrev pub invariant-loop-page : goal.invariant-loop-page
invariant-loop-page l = ArePageBytes (take l.page-index l.pages)
