use Rattle.std.proofs.Common.{subst}
use Rattle.std.specs.Fn.{FnReturnsAt}
use Rattle.mem_ctl.specs.Calls.{write_part_of}
use Rattle.mem_ctl.specs.Results.{IsCall, outcome_of}
use Rattle.world_events.proofs.machine.Machine.write.Goals as goal

pub returns-clause-call : goal.returns-clause-call
returns-clause-call g c =
    subst (λ v. IsCall (FnReturnsAt g.F.Fn v.1) (write_part_of g.D.Digester.digest_of c.args.page c.args.offset c.args.width c.args.value) v.0.ctl (outcome_of c.write_part.result) c.write_part.new.self.0) c.self.view_is
    c.write_part.ensures.call
