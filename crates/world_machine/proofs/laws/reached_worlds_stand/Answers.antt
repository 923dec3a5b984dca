use Rattle.world_machine.proofs.Kept.{reached_kept}
use Rattle.world_machine.proofs.laws.reached_worlds_stand.Goals as goal

pub returns : goal.returns
returns c = reached_kept
