use Rattle.std.proofs.Common.{sym, ◌∙◌}
use Rattle.world_events.specs.Running.{run_now}
use Rattle.world_runs.proofs.BreakLemmas.{can_break_at}
use Rattle.world_runs.proofs.breaking.page_fault.Goals as goal

pub break_or_leave-requires-clause-can : goal.break_or_leave-requires-clause-can
break_or_leave-requires-clause-can g c =
    can_break_at c.args.machine.now.0 (run_now c.args.run) c.args.kind c.args.address c.in-Some.index c.requires.can (sym c.to_break.ensures ∙ c.in-Some.is)
