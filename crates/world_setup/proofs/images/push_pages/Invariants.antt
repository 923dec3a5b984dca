use Rattle.std.proofs.Common.{◌≡◌, ◌++◌, map, take}
use Rattle.toml.specs.View.{view}
use Rattle.world_setup.proofs.images.push_pages.Given as goal

abbrev pub invariant-loop-page : goal.invariant-loop-page
invariant-loop-page l = map (λ r. view r.now) l.all.items ≡ map (λ r. view r.now) l.fn.all.items ++ map view (take l.page-index l.page-items)
