use Rattle.std.proofs.Common.{ap}
use Rattle.std.specs.Fn.{FnReturnsAt}
use Rattle.mem_ctl.specs.Results.{outcome_of}
use Rattle.world_events.specs.Translating.{request_now, table_goes}
use Rattle.world_machine.specs.HostAccessing.{host_faults, host_learns}
use Rattle.world_events.proofs.EventLemmas.{read_event}
use Rattle.world_events.proofs.machine.Machine.read_host_table.Goals as goal

pub returns-clause-event : goal.returns-clause-event
returns-clause-event g c =
    let hart = c.args.request.hart.0 in
    read_event (FnReturnsAt g.F.Fn c.args.self.now.1) g.D.Digester.digest_of c.args.pa c.page_at.result c.offset_at.result (table_goes (host_learns hart) (request_now c.args.request) c.args.walk) (host_faults hart)
    c.args.self.now.0 c.read-word.new.self.0 c.host_word.new.self.0 (outcome_of c.read-word.result) c.page_at.ensures c.offset_at.ensures c.read-word.ensures.call (ap (λ v. v.0) c.read-word.ensures.rest) (ap (λ v. v.0) c.host_word.ensures)
