use Rattle.mon_tables.proofs.HostWalks.{host_walks, sets, clears, pages_have_numbers}
use Rattle.mon_tables.proofs.Mappings.{spaces_stay}
use Rattle.mon_tables.proofs.StartWords.{starts_empty}
use Rattle.mon_tables.proofs.laws.host_tables_walk.Goals as goal

pub returns-clause-walk : goal.returns-clause-walk
returns-clause-walk c = λ tables words space few all stand vpn inside mode kind. host_walks tables words space few all stand vpn inside mode kind

pub returns-clause-start : goal.returns-clause-start
returns-clause-start c = starts_empty

pub returns-clause-set : goal.returns-clause-set
returns-clause-set c = sets

pub returns-clause-clear : goal.returns-clause-clear
returns-clause-clear c = clears

pub returns-clause-spaces : goal.returns-clause-spaces
returns-clause-spaces c = spaces_stay

pub returns-clause-pages : goal.returns-clause-pages
returns-clause-pages c = pages_have_numbers
