use Rattle.std.proofs.Common.{◌≡◌, ◌*◌, ◌++◌, ap, ◌∙◌, arith}
use Rattle.world_setup.specs.Generating.{joined, round_lines, rounds_lines, state_after}
use Rattle.world_setup.proofs.GeneratedLines.{joined_none, joined_more, later_state, state_after-none}
use Rattle.world_setup.proofs.generating.push_rounds.Goals as goal

pub loop-round-init : goal.loop-round-init
loop-round-init c = (joined_none (λ round. round_lines c.args.hart round (state_after c.args.words.now.state (32 * round))) c.args.lines.now.items, state_after-none c.args.words.now.state)

pub loop-round-preserved : goal.loop-round-preserved
loop-round-preserved c = (
  joined_more (λ round. round_lines c.args.hart round (state_after c.args.words.now.state (32 * round))) c.args.lines.now.items _ _ c.loop-round.round c.loop-round.invariant.0
      (c.in_ok-push_round.ensures.lines ∙ ap (λ s. c.loop-round.lines.items ++ round_lines c.args.hart c.loop-round.round s) c.loop-round.invariant.1),
  later_state c.args.words.now.state c.loop-round.words.state _ (32 * c.loop-round.round) 32 _ c.loop-round.invariant.1 c.in_ok-push_round.ensures.words (omega arith),
)

pub returns : goal.returns
unfolding rounds_lines
returns c =
    let end : c.loop-round.round ≡ 25 = omega arith in
    c.loop-round.invariant.0 ∙ ap (λ k. c.args.lines.now.items ++ joined (λ round. round_lines c.args.hart round (state_after c.args.words.now.state (32 * round))) k) end
