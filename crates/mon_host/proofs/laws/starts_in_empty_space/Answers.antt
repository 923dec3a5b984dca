use Rattle.mon_host.proofs.StartLemmas.{starts_in_empty_space}
use Rattle.mon_host.proofs.laws.starts_in_empty_space.Goals as goal

pub returns : goal.returns
returns c = starts_in_empty_space c.host_tables_walk.ensures.start
