use Rattle.std.proofs.Common.{sym, ◌∙◌}
use Rattle.pl_io.proofs.PutsLemmas.{puts_stopped}
use Rattle.world_core.specs.Report.{zone_text}
use Rattle.world_core.proofs.report.put_zones.Goals as goal

pub returns-then-is_err : goal.returns-then-is_err
returns-then-is_err g c =
    puts_stopped (λ s. zone_text s.zone) _ _ _ _ _ _ c.args.mounted.now c.loop-slot.slot-index _ tt (record {}) c.put_zone.result c.loop-slot-test.true c.loop-slot.invariant c.put_zone.ensures
    (sym c.is_err.ensures.value ∙ c.if-is_err.true)
