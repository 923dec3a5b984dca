use Rattle.std.proofs.Common.{◌≡◌, replicate, None}
use Rattle.mon_fence.proofs.fences.Fences.new.Given as goal

abbrev pub invariant-loop : goal.invariant-loop
invariant-loop l = l.fences.items ≡ replicate l.counter None
