use Rattle.mon_shadow.proofs.SharingLemmas.{forked_holds, forks_share}
use Rattle.mon_shadow.proofs.laws.forks_share_pages.Goals as goal

pub returns-clause-shared : goal.returns-clause-shared
returns-clause-shared c = forks_share

pub returns-clause-holds : goal.returns-clause-holds
returns-clause-holds c = forked_holds
