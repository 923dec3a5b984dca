use Rattle.std.proofs.Common.{[], ◌∷◌}
use Rattle.pl_history.specs.declared.line.Line.TheVariants.{Take}
use Rattle.world_setup.proofs.GeneratedLines.{joined_none, joined_more}
use Rattle.world_setup.proofs.generating.push_takes.Goals as goal

pub loop-init : goal.loop-init
loop-init c = joined_none (λ k. Take c.args.e ∷ []) c.args.lines.now.items

pub loop-preserved : goal.loop-preserved
loop-preserved c = joined_more (λ k. Take c.args.e ∷ []) c.args.lines.now.items _ _ c.loop.counter c.loop.invariant c.in_ok-push.ensures.items
