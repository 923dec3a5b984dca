use Rattle.mem_ctl.proofs.TellLaws.{calls_tell}
use Rattle.mem_ctl.proofs.laws.calls_tell.Goals as goal

pub returns : goal.returns
returns c = λ digest_of sized. calls_tell digest_of sized
