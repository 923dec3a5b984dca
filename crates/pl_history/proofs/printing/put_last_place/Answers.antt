use Rattle.pl_io.proofs.PutsLemmas.{puts_then}
use Rattle.pl_history.proofs.printing.put_last_place.Goals as goal

pub returns : goal.returns
returns g c = puts_then _ _ _ _ _ _ _ _ tt _ c.in_ok-put_place.ensures c.put_text.ensures
