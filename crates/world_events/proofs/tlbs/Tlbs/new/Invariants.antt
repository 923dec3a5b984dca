use Rattle.std.proofs.Common.{◌≡◌, [], replicate}
use Rattle.world_events.proofs.tlbs.Tlbs.new.Given as goal

abbrev pub invariant-loop : goal.invariant-loop
invariant-loop l = l.tlbs.items ≡ replicate l.counter []
