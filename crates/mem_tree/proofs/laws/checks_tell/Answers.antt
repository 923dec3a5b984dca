use Rattle.mem_tree.proofs.Differences.{checks_tell, differences_collide}
use Rattle.mem_tree.proofs.laws.checks_tell.Goals as goal

pub returns-clause-differences_collide : goal.returns-clause-differences_collide
returns-clause-differences_collide c = differences_collide

pub returns-clause-checks_tell : goal.returns-clause-checks_tell
returns-clause-checks_tell c = checks_tell
