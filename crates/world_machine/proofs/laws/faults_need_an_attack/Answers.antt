use Rattle.world_machine.proofs.Kept.{reached_kept}
use Rattle.world_machine.proofs.Undisturbed.{undisturbed}
use Rattle.world_machine.proofs.laws.faults_need_an_attack.Goals as goal

pub returns : goal.returns
returns c = λ digest_of law w reached still. undisturbed digest_of w (reached_kept digest_of law w reached) still
