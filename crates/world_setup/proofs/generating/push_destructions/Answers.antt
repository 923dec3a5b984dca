use Rattle.std.proofs.Common.{[], ◌∷◌, ◌++◌, ap, ◌∙◌}
use Rattle.pl_history.specs.declared.line.Line.TheVariants.{Destroy}
use Rattle.world_setup.specs.Generating.{number_of}
use Rattle.world_setup.proofs.GeneratedLines.{joined_none, joined_more}
use Rattle.world_setup.proofs.generating.push_destructions.Goals as goal

pub loop-i-init : goal.loop-i-init
loop-i-init c = joined_none (λ i. Destroy (number_of c.args.hart i) ∷ []) c.args.lines.now.items

pub loop-i-preserved : goal.loop-i-preserved
loop-i-preserved c =
    joined_more (λ i. Destroy (number_of c.args.hart i) ∷ []) c.args.lines.now.items _ _ c.loop-i.i c.loop-i.invariant
    (c.in_ok-push.ensures.items ∙ ap (λ e. c.loop-i.lines.items ++ Destroy e ∷ []) c.number_of-e.ensures)
