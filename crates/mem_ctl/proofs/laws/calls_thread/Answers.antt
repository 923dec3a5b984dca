use Rattle.mem_ctl.proofs.ThreadLemmas.{calls_thread}
use Rattle.mem_ctl.proofs.laws.calls_thread.Goals as goal

pub returns : goal.returns
returns c = calls_thread
