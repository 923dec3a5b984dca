-- What the history has as kept, as the abstract monitor sees it.
use Rattle.pl_history.specs.Attacking.{Placed}
use Rattle.world_attack.specs.declared.kept.Kept.{Kept}

abbrev pub placed : Kept → Placed
placed kept = record { address = kept.pa; bytes = kept.bytes.now }
