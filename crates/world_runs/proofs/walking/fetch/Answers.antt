use Rattle.std.proofs.Common.{option_map, sym, ap, ◌∙◌, subst}
use Rattle.std.specs.Fn.{FnReturnsAt}
use Rattle.pl_base.specs.declared.access.Kind.TheVariants as kind
use Rattle.rv_alone.specs.declared.step.Context.{Context}
use Rattle.rv_hart.specs.declared.seeking.Sought.TheVariants as sought_is
use Rattle.rv_hart.specs.declared.walks.Micro.TheVariants.{Fetching}
use Rattle.world_events.specs.Events.{IsEvent}
use Rattle.world_events.specs.Running.{run_now, runner}
use Rattle.world_machine.specs.Running.{RunNow, faults, fetched_in, run_learns, run_request, run_translates}
use Rattle.world_machine.specs.Translating.{Request, page_at, reads_table, sought_in}
use Rattle.world_events.proofs.EventLemmas.{translated_event}
use Rattle.world_runs.proofs.walking.fetch.Goals as goal

pub returns-in-Table-clause-event : goal.returns-in-Table-clause-event
returns-in-Table-clause-event g c =
    let w = c.args.machine.now in
    let d = g.D.Digester.digest_of in
    let run : RunNow = run_now c.args.run in
    let r = runner w.0 run in
    let walk = c.args.walk in
    let new = c.read_run_table.new.machine.0 in
    let request : Context → Request = λ x. run_request w.0 run x.pc kind.Fetch in
    subst (λ (x : Context). IsEvent (FnReturnsAt g.F.Fn w.1) (λ positions. run_translates d w.0 run r positions Fetching walk x.pc kind.Fetch (fetched_in d w.0 run r positions)) new) c.context-pc.ensures
    (translated_event (FnReturnsAt g.F.Fn w.1) (sought_is.Table c.in-Table.pa c.in-Table.level) (sought_in w.0 (request c.context-pc.result) walk)
    (λ positions. reads_table d w.0 (request c.context-pc.result) positions walk (run_learns run Fetching c.context-pc.result.pc kind.Fetch) (faults run r))
    (λ positions pa. fetched_in d w.0 run r positions (option_map page_at pa)) new
    (sym c.in-Table.is ∙ c.sought.ensures.sought ∙ ap (λ (x : Request). sought_in w.0 x walk) c.run_request-request.ensures)
    c.read_run_table.ensures.event)
