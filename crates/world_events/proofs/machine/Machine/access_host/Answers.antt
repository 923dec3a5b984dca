use Rattle.std.proofs.Common.{[], ap, sym, ◌∙◌}
use Rattle.std.specs.Fn.{FnReturnsAt}
use Rattle.rv_hart.specs.declared.seeking.Sought.TheVariants as sought_is
use Rattle.world_events.specs.HostAccessing.{access_now}
use Rattle.world_machine.specs.HostAccessing.{host_faults, host_learns, host_request, reaches_host}
use Rattle.world_machine.specs.Translating.{Request, reads_table, sought_in}
use Rattle.world_events.proofs.EventLemmas.{translated_event}
use Rattle.world_events.proofs.machine.Machine.access_host.Goals as goal

pub returns-in-At-clause-event : goal.returns-in-At-clause-event
returns-in-At-clause-event g c =
    let w = c.args.self.now in
    let hart = c.args.hart.0 in
    let access = access_now c.args.access in
    let request : Request = host_request w.0 hart c.args.va access in
    translated_event (FnReturnsAt g.F.Fn w.1) (sought_is.At c.in-At.pa) (sought_in w.0 request c.args.walk)
    (λ positions. reads_table g.D.Digester.digest_of w.0 request positions c.args.walk (host_learns hart) (host_faults hart)) (λ positions. reaches_host w.0 hart access) c.reach_host.new.self.0
    (sym c.in-At.is ∙ c.sought.ensures.sought ∙ ap (λ (x : Request). sought_in w.0 x c.args.walk) c.host_request-request.ensures)
    (record { positions = []; given = tt; is = ap (λ v. v.0) c.reach_host.ensures })
