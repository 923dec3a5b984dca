use Rattle.std.proofs.Common.{[]}
use Rattle.toml.specs.View.{view}
use Rattle.world_setup.specs.Images.{image_of}
use Rattle.world_setup.proofs.Steps.{pushed_more}
use Rattle.world_setup.proofs.images.gather_images.Goals as goal

pub loop-item-preserved : goal.loop-item-preserved
loop-item-preserved c =
    pushed_more (λ v. image_of (view v)) c.args.items.now c.loop-item.item-index c.item-item.result [] c.loop-item.images.items _ c.loop-item-test.true c.item-item.is c.loop-item.invariant c.in_ok-push_image.ensures
