use Rattle.std.proofs.Common.{◌≡◌, take}
use Rattle.std.specs.Fn.{FnReturnsAt}
use Rattle.world_machine.specs.Steps.{Ran}
use Rattle.penglai_main.proofs.solo.take_ordered_turns.Given as goal

-- the turns so far, and the rule stays
abbrev pub invariant-loop-turn : goal.invariant-loop-turn
invariant-loop-turn g l =
    Ran g.D.Digester.digest_of (FnReturnsAt g.F.Fn l.fn.world.1) l.fn.world.0 (take l.turn l.fn.world.0.setup.order) l.world.0 × (l.world.1 ≡ l.fn.world.1)
