use Rattle.std.proofs.Common.{ap}
use Rattle.std.specs.Fn.{FnReturnsAt}
use Rattle.mem_ctl.specs.Stops.{step_answer}
use Rattle.world_events.proofs.EventLemmas.{put_event}
use Rattle.world_events.proofs.machine.Machine.put_next.Goals as goal

pub returns-clause-event : goal.returns-clause-event
returns-clause-event g c =
    put_event (FnReturnsAt g.F.Fn c.args.self.now.1) g.D.Digester.digest_of c.args.self.now.0 c.put_page-last.new.self.0 c.put.new.self.0 c.args.hart.0 c.args.e.0 c.args.image c.args.shadow c.args.done
    (step_answer c.put_page-last.result) c.put_page-last.ensures.step (ap (λ v. v.0) c.put_page-last.ensures.rest) (ap (λ v. v.0) c.put.ensures)
