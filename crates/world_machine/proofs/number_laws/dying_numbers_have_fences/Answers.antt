use Rattle.world_machine.proofs.DyingFences.{dying_fenced}
use Rattle.world_machine.proofs.Kept.{reached_kept}
use Rattle.world_machine.proofs.number_laws.dying_numbers_have_fences.Goals as goal

pub returns : goal.returns
returns c digest_of law w reached = dying_fenced digest_of w (reached_kept digest_of law w reached)
