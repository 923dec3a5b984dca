use Rattle.std.proofs.Common.{◌≡◌}
use Rattle.std.specs.Fn.{FnReturnsAt}
use Rattle.world_machine.specs.Runs.{acknowledgements}
use Rattle.world_machine.specs.Steps.{Ran}
use Rattle.world_core.proofs.world.World.turn_acknowledgements.Given as goal

-- the turns so far, and the rule stays
abbrev pub invariant-loop-hart : goal.invariant-loop-hart
invariant-loop-hart g l =
    Ran g.D.Digester.digest_of (FnReturnsAt g.F.Fn l.fn.self.1) l.fn.self.0 (acknowledgements l.hart) l.self.0 × (l.self.1 ≡ l.fn.self.1)
