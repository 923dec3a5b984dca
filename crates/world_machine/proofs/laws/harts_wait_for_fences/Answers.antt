use Rattle.world_machine.proofs.Kept.{reached_kept}
use Rattle.world_machine.proofs.Waiting.{waits_for_fence}
use Rattle.world_machine.proofs.laws.harts_wait_for_fences.Goals as goal

pub returns : goal.returns
returns c = λ digest_of law w reached none h positions harts. waits_for_fence digest_of w (reached_kept digest_of law w reached) none h positions harts
