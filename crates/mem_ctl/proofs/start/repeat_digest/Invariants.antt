use Rattle.std.proofs.Common.{◌≡◌, ℕ, ◌<◌, length}
use Rattle.pl_digest.specs.Trees.{piece}
use Rattle.mem_ctl.proofs.start.repeat_digest.Given as goal

abbrev pub invariant-loop-k : goal.invariant-loop-k
invariant-loop-k l = record { done : (j : ℕ) → j < l.k → piece 32 j l.digests ≡ l.digest; size : length l.digests ≡ 2048 }
