use Rattle.mon_life.proofs.TableLemmas.{tables_walk}
use Rattle.mon_life.proofs.laws.steps_put_tables.Goals as goal

pub returns : goal.returns
returns c = tables_walk c.number_tables_walk.ensures.walk
