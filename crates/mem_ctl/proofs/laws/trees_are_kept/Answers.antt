use Rattle.mem_ctl.proofs.KeptLaws.{trees_are_kept}
use Rattle.mem_ctl.proofs.laws.trees_are_kept.Goals as goal

pub returns : goal.returns
returns c = λ digest_of sized. trees_are_kept digest_of sized
