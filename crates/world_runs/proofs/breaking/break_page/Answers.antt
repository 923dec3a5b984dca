use Rattle.std.proofs.Common.{ap}
use Rattle.std.specs.Fn.{FnReturnsAt}
use Rattle.mem_ctl.specs.Results.{outcome_of}
use Rattle.world_events.specs.Running.{run_now}
use Rattle.world_runs.proofs.BreakLemmas.{break_event, broke_leaves}
use Rattle.world_runs.proofs.breaking.break_page.Goals as goal

pub broke-requires-clause-can : goal.broke-requires-clause-can
broke-requires-clause-can g c =
    broke_leaves c.args.machine.now.0 c.copy_page-done.new.self.0 (run_now c.args.run) c.copy_page-done.result c.requires.can.breaks.leave (ap (λ v. v.0) c.copy_page-done.ensures.rest) c.copy_page-done.ensures.records

pub returns-clause-event : goal.returns-clause-event
returns-clause-event g c =
    break_event (FnReturnsAt g.F.Fn c.args.machine.now.1) g.D.Digester.digest_of c.args.machine.now.0 c.copy_page-done.new.self.0 c.broke.new.machine.0 (run_now c.args.run) c.args.index
    (outcome_of c.copy_page-done.result) c.copy_page-done.ensures.event (ap (λ v. v.0) c.copy_page-done.ensures.rest) (ap (λ v. v.0) c.broke.ensures)
