use Rattle.mon_shadow.proofs.CopyLemmas.{copies_tell}
use Rattle.mon_shadow.proofs.CopyTables.{copies_set_leaf}
use Rattle.mon_shadow.proofs.break_laws.breaks_tell.Goals as goal

pub returns-clause-copies : goal.returns-clause-copies
returns-clause-copies c = copies_tell

pub returns-clause-tables : goal.returns-clause-tables
returns-clause-tables c = copies_set_leaf c.number_tables_walk.ensures.set
