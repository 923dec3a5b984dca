use Rattle.std.proofs.Common.{map}
use Rattle.toml.specs.Data.{as_str}
use Rattle.toml.specs.View.{view}
use Rattle.world_setup.proofs.Steps.{pushed_more}
use Rattle.world_setup.proofs.scripts.push_items.Goals as goal

pub loop-item-preserved : goal.loop-item-preserved
loop-item-preserved c =
    pushed_more (λ v. as_str (view v)) c.args.items.now c.loop-item.item-index c.item-item.result (map (λ t. t.now) c.args.all.now.items)
    (map (λ t. t.now) c.loop-item.all.items) _ c.loop-item-test.true c.item-item.is c.loop-item.invariant c.in_ok-push_text.ensures
