use Rattle.std.proofs.Common.{◌≡◌}
use Rattle.mon_tables.specs.Tables.{start_words}
use Rattle.mon_tables.proofs.host_tables.start_words.Given as goal

abbrev pub invariant-loop-i : goal.invariant-loop-i
invariant-loop-i l = l.words.items ≡ start_words l.i
