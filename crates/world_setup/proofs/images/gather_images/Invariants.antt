use Rattle.std.proofs.Common.{◌≡◌, take}
use Rattle.std.specs.List.{filter_map}
use Rattle.toml.specs.View.{view}
use Rattle.world_setup.specs.Images.{image_of}
use Rattle.world_setup.proofs.images.gather_images.Given as goal

abbrev pub invariant-loop-item : goal.invariant-loop-item
invariant-loop-item l = l.images.items ≡ filter_map (λ v. image_of (view v)) (take l.item-index l.items)
