use Rattle.mon_shadow.proofs.DropLemmas.{shadows_are_given_back}
use Rattle.mon_shadow.proofs.laws.shadows_are_given_back.Goals as goal

pub returns : goal.returns
returns c = shadows_are_given_back
