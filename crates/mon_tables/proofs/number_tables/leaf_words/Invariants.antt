use Rattle.std.proofs.Common.{◌≡◌}
use Rattle.mon_tables.proofs.LeafWords.{leaves_written}
use Rattle.mon_tables.proofs.number_tables.leaf_words.Given as goal

abbrev pub invariant-loop-i : goal.invariant-loop-i
invariant-loop-i l = l.words ≡ leaves_written l.leaves l.i
