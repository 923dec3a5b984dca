use Rattle.std.proofs.Common.{◌≡◌, map}
use Rattle.std.specs.List.{range_with_len}
use Rattle.world_setup.specs.Generating.{hart_script}
use Rattle.world_setup.proofs.generating.scripts_of.Given as goal

abbrev pub invariant-loop-hart : goal.invariant-loop-hart
invariant-loop-hart l = l.scripts.items ≡ map (hart_script l.n) (range_with_len 0 l.hart)
