use Rattle.mon_tables.proofs.LeafSets.{sets_leaf}
use Rattle.mon_tables.proofs.NumberWalks.{number_tables}
use Rattle.mon_tables.proofs.laws.number_tables_walk.Goals as goal

pub returns-clause-walk : goal.returns-clause-walk
returns-clause-walk c = number_tables

pub returns-clause-set : goal.returns-clause-set
returns-clause-set c = sets_leaf
