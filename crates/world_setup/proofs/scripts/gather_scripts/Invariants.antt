use Rattle.std.proofs.Common.{◌≡◌, map, take}
use Rattle.toml.specs.View.{view}
use Rattle.world_setup.specs.Scripts.{hart_lines}
use Rattle.world_setup.proofs.scripts.gather_scripts.Given as goal

abbrev pub invariant-loop-hart : goal.invariant-loop-hart
invariant-loop-hart l = l.all.items ≡ map (λ v. hart_lines (view v)) (take l.hart-index l.harts)
