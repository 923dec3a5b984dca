use Rattle.world_machine.proofs.Kept.{reached_kept}
use Rattle.world_machine.proofs.LessTurns.{steps_lessen}
use Rattle.world_machine.proofs.laws.moves_lessen.Goals as goal

pub returns : goal.returns
returns c digest_of law w reached step = steps_lessen digest_of w step (reached_kept digest_of law w reached)
