use Rattle.mon_life.proofs.BegunLemmas.{begun_is_making, others_are_refused}
use Rattle.mon_life.proofs.laws.creates_are_refused.Goals as goal

pub returns-clause-refused : goal.returns-clause-refused
returns-clause-refused c = others_are_refused

pub returns-clause-making : goal.returns-clause-making
returns-clause-making c = begun_is_making
