use Rattle.std.proofs.Common.{ap, ◌∙◌, ◌+◌}
use Rattle.mon_enclave.specs.Records.{enclave_at}
use Rattle.pl_base.specs.declared.state.Why.TheVariants as why_is
use Rattle.rv_alone.specs.declared.step.Context.{Context}
use Rattle.world_events.specs.Running.{run_now}
use Rattle.world_machine.specs.Running.{leaves, retired_with}
use Rattle.world_runs.proofs.RecordLemmas.{leaves_after}
use Rattle.world_runs.proofs.acting.exit.Goals as goal

pub returns : goal.returns
returns g c =
    let w = c.args.machine.now in
    let run = run_now c.args.run in
    let r = enclave_at w.0.enclaves run.e in
    leaves_after w c.set_context.new.self c.leave.new.self run (retired_with r c.context-context.result) c.requires.leave.number c.set_context.ensures (run.count + 1) (why_is.Ended c.args.code) c.leave.ensures
    ∙ ap (λ (x : Context). (leaves w.0 run (retired_with r x) (run.count + 1) (why_is.Ended c.args.code), w.1)) c.context-context.ensures
