use Rattle.world_machine.proofs.AccessPages.{accesses_keep_to_pages}
use Rattle.world_machine.proofs.Kept.{reached_kept}
use Rattle.world_machine.proofs.laws.accesses_reach_own_pages.Goals as goal

pub returns : goal.returns
returns c digest_of law w reached = accesses_keep_to_pages digest_of w (reached_kept digest_of law w reached)
