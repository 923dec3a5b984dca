use Rattle.pl_io.proofs.PutsLemmas.{puts_then}
use Rattle.world_core.proofs.report.put_collision.Goals as goal

pub returns : goal.returns
returns g c = rw (← c.as_slice.ensures.value, ← c.as_slice-2.ensures.value) (puts_then _ _ _ _ _ _ _ _ tt _ c.in_ok-put_place.ensures c.put_pieces.ensures)
