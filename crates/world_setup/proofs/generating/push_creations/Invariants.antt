use Rattle.std.proofs.Common.{◌≡◌, ◌++◌, [], ◌∷◌}
use Rattle.world_setup.specs.Generating.{creation, joined, number_of}
use Rattle.world_setup.proofs.generating.push_creations.Given as goal

abbrev pub invariant-loop-i : goal.invariant-loop-i
invariant-loop-i l = l.lines.items ≡ l.fn.lines.items ++ joined (λ i. creation (number_of l.hart i) ∷ []) l.i
