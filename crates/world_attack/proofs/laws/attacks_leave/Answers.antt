use Rattle.world_attack.proofs.WriteLemmas.{writes_leave, keeps_leave}
use Rattle.world_attack.proofs.laws.attacks_leave.Goals as goal

pub returns-clause-writes : goal.returns-clause-writes
returns-clause-writes c = writes_leave

pub returns-clause-keeps : goal.returns-clause-keeps
returns-clause-keeps c = keeps_leave
