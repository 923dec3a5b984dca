use Rattle.std.proofs.Common.{◌≡◌, ◌*◌, ◌++◌, ap, ◌∙◌, arith}
use Rattle.pl_base.specs.declared.number.EncNo.{EncNo}
use Rattle.world_setup.specs.Generating.{joined, number_of, round_lines, state_after, number_round}
use Rattle.world_setup.proofs.GeneratedLines.{joined_none, joined_more, later_state, state_after-none}
use Rattle.world_setup.proofs.generating.push_round.Goals as goal

pub loop-i-init : goal.loop-i-init
loop-i-init c =
    (joined_none (λ i. number_round c.args.round (number_of c.args.hart i) (state_after c.args.words.now.state (8 * i))) c.args.lines.now.items, state_after-none c.args.words.now.state)

pub loop-i-preserved : goal.loop-i-preserved
loop-i-preserved c = (
  joined_more (λ i. number_round c.args.round (number_of c.args.hart i) (state_after c.args.words.now.state (8 * i))) c.args.lines.now.items _ _ c.loop-i.i c.loop-i.invariant.0
      (c.in_ok-push_number_round.ensures.lines ∙ ap (λ (e : EncNo). c.loop-i.lines.items ++ number_round c.args.round e c.loop-i.words.state) c.number_of.ensures
      ∙ ap (λ s. c.loop-i.lines.items ++ number_round c.args.round (number_of c.args.hart c.loop-i.i) s) c.loop-i.invariant.1),
  later_state c.args.words.now.state c.loop-i.words.state _ (8 * c.loop-i.i) 8 _ c.loop-i.invariant.1 c.in_ok-push_number_round.ensures.words (omega arith),
)

pub returns-clause-lines : goal.returns-clause-lines
unfolding round_lines
returns-clause-lines c =
    let end : c.loop-i.i ≡ 4 = omega arith in
    c.loop-i.invariant.0 ∙ ap (λ k. c.args.lines.now.items ++ joined (λ i. number_round c.args.round (number_of c.args.hart i) (state_after c.args.words.now.state (8 * i))) k) end
