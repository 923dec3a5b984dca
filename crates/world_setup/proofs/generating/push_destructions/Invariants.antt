use Rattle.std.proofs.Common.{◌≡◌, ◌++◌, [], ◌∷◌}
use Rattle.pl_history.specs.declared.line.Line.TheVariants.{Destroy}
use Rattle.world_setup.specs.Generating.{joined, number_of}
use Rattle.world_setup.proofs.generating.push_destructions.Given as goal

abbrev pub invariant-loop-i : goal.invariant-loop-i
invariant-loop-i l = l.lines.items ≡ l.fn.lines.items ++ joined (λ i. Destroy (number_of l.hart i) ∷ []) l.i
