use Rattle.std.proofs.Common.{◌≡◌, ◌*◌, ◌++◌}
use Rattle.world_setup.specs.Generating.{joined, number_of, state_after, number_round}
use Rattle.world_setup.proofs.generating.push_round.Given as goal

abbrev pub invariant-loop-i : goal.invariant-loop-i
invariant-loop-i l =
    (l.lines.items ≡ l.fn.lines.items ++ joined (λ i. number_round l.round (number_of l.hart i) (state_after l.fn.words.state (8 * i))) l.i) × (l.words.state ≡ state_after l.fn.words.state (8 * l.i))
