use Rattle.pl_io.proofs.PutsLemmas.{puts_then}
use Rattle.world_core.proofs.report.put_zone_line.Goals as goal

pub returns : goal.returns
returns g c = puts_then _ _ _ _ _ _ _ _ tt _ c.in_ok-put_zones.ensures c.put_text.ensures
