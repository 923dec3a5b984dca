use Rattle.std.proofs.Common.{◌≡◌, ◌++◌, map, drop, option_map}
use Rattle.toml.specs.View.{view}
use Rattle.world_setup.specs.Images.{image_pages_of}
use Rattle.world_setup.proofs.images.image_pages_of.Given as goal

abbrev pub invariant-loop-item : goal.invariant-loop-item
invariant-loop-item l = option_map (λ rest. l.pages.items ++ rest) (image_pages_of (map view (drop l.item-index l.items))) ≡ image_pages_of (map view l.items)
