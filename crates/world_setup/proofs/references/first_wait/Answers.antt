use Rattle.std.proofs.Common.{sym, ◌∙◌, arith}
use Rattle.pl_history.specs.Rules.{waits_known}
use Rattle.world_setup.proofs.ReferenceSteps.{passes}
use Rattle.world_setup.proofs.references.first_wait.Goals as goal

pub loop-lines-preserved : goal.loop-lines-preserved
loop-lines-preserved c =
    let now = passes (waits_known c.args.counts.now) _ c.loop-lines.hart c.loop-lines.before c.loop-lines.lines-index c.len-before.result c.args.scripts.now c.lines-item.result
    c.as_slice.result.now c.loop-lines.invariant.few c.loop-lines.invariant.same c.loop-lines-test.true c.lines-item.is c.as_slice.ensures (sym c.wait_at.ensures ∙ c.in_default.is) c.len-before.ensures in
    record { few = now.few; here = omega (arith, c.loop-lines.invariant.here); same = now.same }
