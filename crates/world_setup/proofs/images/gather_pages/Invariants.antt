use Rattle.std.proofs.Common.{◌≡◌, map, take}
use Rattle.std.specs.List.{flat_map}
use Rattle.toml.specs.View.{view}
use Rattle.world_setup.specs.Keys.{pages_in}
use Rattle.world_setup.proofs.images.gather_pages.Given as goal

abbrev pub invariant-loop-image : goal.invariant-loop-image
invariant-loop-image l = map (λ r. view r.now) l.all.items ≡ flat_map (λ v. pages_in (view v)) (take l.image-index l.images)
