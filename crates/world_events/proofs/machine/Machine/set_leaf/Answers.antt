use Rattle.std.proofs.Common.{subst}
use Rattle.std.specs.Fn.{FnReturnsAt}
use Rattle.mem_ctl.specs.Stops.{step_answer}
use Rattle.mon_host.specs.Leaves.{IsHostEvent}
use Rattle.mon_host.specs.Mapping.{map_of}
use Rattle.pl_history.specs.declared.setup.SetupParts.{SetupParts}
use Rattle.world_events.proofs.machine.Machine.set_leaf.Goals as goal

pub returns-clause-event : goal.returns-clause-event
returns-clause-event g c =
    let i = c.self.inside in
    let new = c.map.new in
    let done = map_of g.D.Digester.digest_of in
    let answered = step_answer c.map.result in
    subst (λ v. IsHostEvent (FnReturnsAt g.F.Fn v.1) (done v.0.setup.tables v.0.fences v.0.owners c.args.va c.args.page c.args.perms) v.0.ctl answered new.ctl.0 new.owners) c.self.view_is
    (subst (λ (s : SetupParts). IsHostEvent (FnReturnsAt g.F.Fn i.ctl.1) (done s.tables i.fences i.owners c.args.va c.args.page c.args.perms) i.ctl.0 answered new.ctl.0 new.owners) c.parts.ensures.parts
    c.map.ensures.event)
