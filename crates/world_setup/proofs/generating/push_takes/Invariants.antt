use Rattle.std.proofs.Common.{◌≡◌, ◌++◌, [], ◌∷◌}
use Rattle.pl_history.specs.declared.line.Line.TheVariants.{Take}
use Rattle.world_setup.specs.Generating.{joined}
use Rattle.world_setup.proofs.generating.push_takes.Given as goal

abbrev pub invariant-loop : goal.invariant-loop
invariant-loop l = l.lines.items ≡ l.fn.lines.items ++ joined (λ k. Take l.e ∷ []) l.counter
