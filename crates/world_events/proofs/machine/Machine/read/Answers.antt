use Rattle.std.proofs.Common.{subst}
use Rattle.std.specs.Fn.{FnReturnsAt}
use Rattle.mem_ctl.specs.Calls.{read_word_of}
use Rattle.mem_ctl.specs.Results.{IsCall, outcome_of}
use Rattle.world_events.proofs.machine.Machine.read.Goals as goal

pub returns-clause-call : goal.returns-clause-call
returns-clause-call g c =
    subst (λ v. IsCall (FnReturnsAt g.F.Fn v.1) (read_word_of g.D.Digester.digest_of c.args.page c.args.offset) v.0.ctl (outcome_of c.read_word.result) c.read_word.new.self.0) c.self.view_is
    c.read_word.ensures.call
