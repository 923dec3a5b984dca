use Rattle.std.proofs.Common.{ap}
use Rattle.std.specs.Fn.{FnReturnsAt}
use Rattle.mem_ctl.specs.Stops.{step_answer}
use Rattle.world_events.proofs.EventLemmas.{unmap_event}
use Rattle.world_events.proofs.machine.Machine.begin_unmap.Goals as goal

pub returns-clause-event : goal.returns-clause-event
returns-clause-event g c =
    unmap_event (FnReturnsAt g.F.Fn c.args.self.now.1) g.D.Digester.digest_of c.args.self.now.0 c.clear_leaf-begun.new.self.0 c.unmapped.new.self.0 c.args.hart.0 c.args.va
    (step_answer c.clear_leaf-begun.result) c.clear_leaf-begun.ensures.event (ap (λ v. v.0) c.clear_leaf-begun.ensures.rest) (ap (λ v. v.0) c.unmapped.ensures)
