use Rattle.std.proofs.Common.{ap}
use Rattle.std.specs.Fn.{FnReturnsAt}
use Rattle.mem_ctl.specs.Stops.{step_answer}
use Rattle.world_events.proofs.EventLemmas.{map_event}
use Rattle.world_events.proofs.machine.Machine.map.Goals as goal

pub returns-clause-event : goal.returns-clause-event
returns-clause-event g c =
    map_event (FnReturnsAt g.F.Fn c.args.self.now.1) g.D.Digester.digest_of c.args.self.now.0 c.set_leaf-done.new.self.0 c.mapped.new.self.0 c.args.hart.0 c.args.va c.args.page c.args.perms
    (step_answer c.set_leaf-done.result) c.set_leaf-done.ensures.event (ap (λ v. v.0) c.set_leaf-done.ensures.rest) (ap (λ v. v.0) c.mapped.ensures)
