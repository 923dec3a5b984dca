use Rattle.std.proofs.Common.{◌≡◌, ℕ}
use Rattle.std.specs.Fn.{FnReturnsAt}
use Rattle.world_machine.specs.Runs.{remaining, rounds_of}
use Rattle.world_machine.specs.Steps.{Ran}
use Rattle.world_core.proofs.world.World.finish.Given as goal

-- whole rounds so far, and the rule stays
abbrev pub invariant-loop-end : goal.invariant-loop-end
invariant-loop-end g l =
    ((rounds : ℕ) × Ran g.D.Digester.digest_of (FnReturnsAt g.F.Fn l.fn.self.1) l.fn.self.0 (rounds_of l.fn.self.0.setup rounds) l.self.0) × (l.self.1 ≡ l.fn.self.1)

-- fewer events are left after each round
abbrev pub decreases-loop-end : goal.decreases-loop-end
decreases-loop-end g l = remaining l.self.0
