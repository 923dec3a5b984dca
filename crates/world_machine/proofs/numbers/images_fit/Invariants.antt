use Rattle.std.proofs.Common.{take}
use Rattle.world_machine.specs.ByteBounds.{AreImageBytes}
use Rattle.world_machine.proofs.numbers.images_fit.Given as goal

abbrev pub invariant-loop-image : goal.invariant-loop-image
invariant-loop-image l = AreImageBytes (take l.image-index l.images)
