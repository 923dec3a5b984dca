use Rattle.std.proofs.Common.{◌≡◌, ◌+◌, ◌/◌, ◌^◌, [], ◌∷◌, ◌++◌, ap, ◌∙◌}
use Rattle.pl_history.specs.declared.line.Line.TheVariants.{Send}
use Rattle.world_setup.specs.Generating.{state_after, word_from}
use Rattle.world_setup.proofs.GeneratedLines.{joined_none, joined_more, next_later, state_after-none}
use Rattle.world_setup.proofs.generating.push_sends.Goals as goal

pub loop-init : goal.loop-init
loop-init c = (joined_none (λ k. Send c.args.e (word_from c.args.words.now.state k) ∷ []) c.args.lines.now.items, state_after-none c.args.words.now.state)

pub loop-preserved : goal.loop-preserved
loop-preserved c =
    let later : c.draw-word.new.self.state ≡ state_after c.args.words.now.state (c.loop.counter + 1) = next_later c.args.words.now.state c.loop.words.state _ c.loop.counter c.loop.invariant.1 c.draw-word.ensures.state in
    let word : c.draw-word.result ≡ word_from c.args.words.now.state c.loop.counter = c.draw-word.ensures.word ∙ ap (λ s. s / 2 ^ 32) later in (
      joined_more (λ k. Send c.args.e (word_from c.args.words.now.state k) ∷ []) c.args.lines.now.items _ _ c.loop.counter c.loop.invariant.0
          (c.in_ok-push.ensures.items ∙ ap (λ w. c.loop.lines.items ++ Send c.args.e w ∷ []) word),
      later,
    )
