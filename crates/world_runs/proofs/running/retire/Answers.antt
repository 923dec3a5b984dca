use Rattle.std.proofs.Common.{ap, ◌∙◌, sym, ◌+◌}
use Rattle.mon_enclave.specs.Records.{enclave_at}
use Rattle.pl_base.specs.declared.state.Why.TheVariants as why_is
use Rattle.world_events.specs.Running.{run_now}
use Rattle.world_machine.specs.Running.{retired_with}
use Rattle.world_machine.specs.Worlds.{WorldData}
use Rattle.world_runs.proofs.RecordLemmas.{leaves_after, retires-last}
use Rattle.world_runs.proofs.running.retire.Goals as goal

pub returns-then-count-run : goal.returns-then-count-run
returns-then-count-run g c =
    let w = c.args.machine.now in
    let run = run_now c.args.run in
    let r = retired_with (enclave_at w.0.enclaves run.e) c.args.context in
    leaves_after w c.set_context.new.self c.leave.new.self run r c.requires.leave.number c.set_context.ensures (run.count + 1) why_is.Budget c.leave.ensures
    ∙ ap (λ (x : WorldData). (x, w.1)) (sym (retires-last w.0 run r c.if-count-run.true))
