use Rattle.std.proofs.Common.{◌≡◌, ◌-◌}
use Rattle.std.specs.List.{list_all, range_with_len}
use Rattle.world_core.specs.Over.{ack_still}
use Rattle.world_core.proofs.over.acks_still.Given as goal

abbrev pub invariant-loop-hart : goal.invariant-loop-hart
invariant-loop-hart g l =
    list_all (ack_still g.D.Digester.digest_of l.machine.0) (range_with_len 0 l.machine.0.setup.harts)
    ≡ list_all (ack_still g.D.Digester.digest_of l.machine.0) (range_with_len l.hart (l.machine.0.setup.harts - l.hart))
