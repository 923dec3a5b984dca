use Rattle.pl_base.proofs.HartSets.{has_hart-below}
use Rattle.pl_base.proofs.number.HartSet.below.Goals as goal

pub returns-clause-members : goal.returns-clause-members
returns-clause-members c = λ k. has_hart-below c.args.harts k c.requires
