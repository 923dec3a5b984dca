use Rattle.std.proofs.Common.{[], ◌∷◌, ◌++◌, ap, ◌∙◌}
use Rattle.pl_history.specs.declared.line.Line.{Line}
use Rattle.world_setup.specs.Generating.{creation, number_of}
use Rattle.world_setup.proofs.GeneratedLines.{joined_none, joined_more}
use Rattle.world_setup.proofs.generating.push_creations.Goals as goal

pub loop-i-init : goal.loop-i-init
loop-i-init c = joined_none (λ i. creation (number_of c.args.hart i) ∷ []) c.args.lines.now.items

pub loop-i-preserved : goal.loop-i-preserved
loop-i-preserved c =
    joined_more (λ i. creation (number_of c.args.hart i) ∷ []) c.args.lines.now.items _ _ c.loop-i.i c.loop-i.invariant
    (c.in_ok-push.ensures.items ∙ ap (λ (line : Line). c.loop-i.lines.items ++ line ∷ []) (c.in_ok-creation.ensures ∙ ap creation c.number_of.ensures))
