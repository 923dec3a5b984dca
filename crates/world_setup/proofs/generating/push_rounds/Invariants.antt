use Rattle.std.proofs.Common.{◌≡◌, ◌*◌, ◌++◌}
use Rattle.world_setup.specs.Generating.{joined, round_lines, state_after}
use Rattle.world_setup.proofs.generating.push_rounds.Given as goal

abbrev pub invariant-loop-round : goal.invariant-loop-round
invariant-loop-round l =
    (l.lines.items ≡ l.fn.lines.items ++ joined (λ round. round_lines l.hart round (state_after l.fn.words.state (32 * round))) l.round) × (l.words.state ≡ state_after l.fn.words.state (32 * l.round))
