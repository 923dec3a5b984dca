use Rattle.std.proofs.Common.{subst}
use Rattle.std.specs.Fn.{FnReturnsAt}
use Rattle.mem_ctl.specs.Stops.{step_answer}
use Rattle.mon_host.specs.Leaves.{IsHostEvent}
use Rattle.mon_host.specs.Unmapping.{unmap_begun}
use Rattle.pl_history.specs.declared.setup.SetupParts.{SetupParts}
use Rattle.world_events.proofs.machine.Machine.clear_leaf.Goals as goal

pub returns-clause-event : goal.returns-clause-event
returns-clause-event g c =
    let i = c.self.inside in
    let new = c.unmap_begin.new in
    let begun = unmap_begun g.D.Digester.digest_of in
    let answered = step_answer c.unmap_begin.result in
    subst (λ v. IsHostEvent (FnReturnsAt g.F.Fn v.1) (begun v.0.setup.tables v.0.fences c.args.hart.0 c.args.va) v.0.ctl answered new.ctl.0 new.fences) c.self.view_is
    (subst (λ (s : SetupParts). IsHostEvent (FnReturnsAt g.F.Fn i.ctl.1) (begun s.tables i.fences c.args.hart.0 c.args.va) i.ctl.0 answered new.ctl.0 new.fences) c.parts.ensures.parts
    c.unmap_begin.ensures.event)
