use Rattle.std.proofs.Common.{◌≡◌, map, take}
use Rattle.std.specs.List.{flat_map}
use Rattle.toml.specs.View.{view}
use Rattle.world_setup.specs.Scripts.{hart_texts}
use Rattle.world_setup.proofs.scripts.gather_texts.Given as goal

abbrev pub invariant-loop-hart : goal.invariant-loop-hart
invariant-loop-hart l = map (λ t. t.now) l.all.items ≡ flat_map (λ v. hart_texts (view v)) (take l.hart-index l.harts)
