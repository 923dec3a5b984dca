use Rattle.std.proofs.Common.{sym, ◌∙◌}
use Rattle.pl_history.specs.Rules.{names_known}
use Rattle.world_setup.proofs.ReferenceSteps.{passes}
use Rattle.world_setup.proofs.references.first_unknown.Goals as goal

pub loop-lines-preserved : goal.loop-lines-preserved
loop-lines-preserved c =
    let now = passes (λ hart. names_known c.args.enclaves c.args.images) _ c.loop-lines.lines-index c.loop-lines.before c.loop-lines.lines-index c.len-before.result c.args.scripts.now c.lines-item.result
    c.as_slice.result.now c.loop-lines.invariant.few c.loop-lines.invariant.same c.loop-lines-test.true c.lines-item.is c.as_slice.ensures (sym c.unknown_at.ensures ∙ c.in_default.is) c.len-before.ensures in
    record { few = now.few; same = now.same }
