use Rattle.mon_life.proofs.DestroyLaws.{numbers_are_given_back}
use Rattle.mon_life.proofs.HeldLemmas.{built_holds}
use Rattle.mon_life.proofs.laws.numbers_are_given_back.Goals as goal

pub returns-clause-back : goal.returns-clause-back
returns-clause-back c = numbers_are_given_back

pub returns-clause-holds : goal.returns-clause-holds
returns-clause-holds c = built_holds
