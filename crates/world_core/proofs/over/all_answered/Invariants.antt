use Rattle.std.proofs.Common.{◌≡◌, ◌+◌, ◌-◌}
use Rattle.std.specs.List.{list_all, range_with_len}
use Rattle.world_core.specs.Over.{is_done}
use Rattle.world_core.proofs.over.all_answered.Given as goal

abbrev pub invariant-loop-actor : goal.invariant-loop-actor
invariant-loop-actor g l =
    list_all (is_done l.machine.0) (range_with_len 0 (l.machine.0.setup.harts + 1))
    ≡ list_all (is_done l.machine.0) (range_with_len l.actor (l.machine.0.setup.harts + 1 - l.actor))
