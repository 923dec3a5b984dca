use Rattle.mon_shadow.proofs.DropLemmas.{drops_are_refused}
use Rattle.mon_shadow.proofs.ForkLemmas.{forks_are_refused}
use Rattle.mon_shadow.proofs.GrantLemmas.{grants_are_refused}
use Rattle.mon_shadow.proofs.laws.forks_are_refused.Goals as goal

pub returns-clause-fork : goal.returns-clause-fork
returns-clause-fork c = forks_are_refused

pub returns-clause-grant : goal.returns-clause-grant
returns-clause-grant c = grants_are_refused

pub returns-clause-drop : goal.returns-clause-drop
returns-clause-drop c = drops_are_refused
