use Rattle.std.proofs.Common.{ℕ, ap}
use Rattle.std.specs.Fn.{FnReturnsAt}
use Rattle.mem_ctl.specs.Results.{outcome_of}
use Rattle.world_events.specs.Running.{run_now}
use Rattle.world_runs.specs.Running.{micro_with, run_faults}
use Rattle.world_events.specs.Translating.{table_goes}
use Rattle.world_machine.specs.Running.{RunNow, run_learns, run_request}
use Rattle.world_machine.specs.Worlds.{WorldData}
use Rattle.world_events.proofs.EventLemmas.{read_event}
use Rattle.world_runs.proofs.walking.read_run_table.Goals as goal

pub returns-clause-event : goal.returns-clause-event
returns-clause-event g c =
    let run : RunNow = run_now c.args.run in
    let goes : WorldData → ℕ → WorldData = λ left word. table_goes (run_learns run (micro_with c.args.purpose) c.args.va c.args.kind) (run_request left run c.args.va c.args.kind) c.args.walk left word in
    read_event (FnReturnsAt g.F.Fn c.args.machine.now.1) g.D.Digester.digest_of c.args.pa c.page_at.result c.offset_at.result goes (run_faults run)
    c.args.machine.now.0 c.read-word.new.self.0 c.run_word.new.machine.0 (outcome_of c.read-word.result) c.page_at.ensures c.offset_at.ensures c.read-word.ensures.call (ap (λ v. v.0) c.read-word.ensures.rest) (ap (λ v. v.0) c.run_word.ensures)
