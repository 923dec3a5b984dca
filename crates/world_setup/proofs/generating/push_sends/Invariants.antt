use Rattle.std.proofs.Common.{◌≡◌, ◌++◌, [], ◌∷◌}
use Rattle.pl_history.specs.declared.line.Line.TheVariants.{Send}
use Rattle.world_setup.specs.Generating.{joined, state_after, word_from}
use Rattle.world_setup.proofs.generating.push_sends.Given as goal

abbrev pub invariant-loop : goal.invariant-loop
invariant-loop l =
    (l.lines.items ≡ l.fn.lines.items ++ joined (λ k. Send l.e (word_from l.fn.words.state k) ∷ []) l.counter) × (l.words.state ≡ state_after l.fn.words.state l.counter)
