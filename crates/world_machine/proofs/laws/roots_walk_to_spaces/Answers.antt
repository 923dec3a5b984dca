use Rattle.world_machine.proofs.AccessPages.{roots_walk}
use Rattle.world_machine.proofs.Kept.{reached_kept}
use Rattle.world_machine.proofs.laws.roots_walk_to_spaces.Goals as goal

pub returns : goal.returns
returns c digest_of law w reached = roots_walk digest_of w (reached_kept digest_of law w reached)
