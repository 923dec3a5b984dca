use Rattle.std.proofs.Common.{ap, ◌∙◌, ◌++◌, [], ◌∷◌, if◌then◌else◌}
use Rattle.pl_base.specs.declared.state.Why.TheVariants as why_is
use Rattle.mon_enclave.specs.Records.{enclave_at}
use Rattle.rv_alone.specs.declared.step.Context.{Context}
use Rattle.rv_alone.specs.Effect.{advanced}
use Rattle.world_events.specs.Running.{run_now}
use Rattle.world_machine.specs.Running.{leaves, retired_with, retires}
use Rattle.world_runs.proofs.RecordLemmas.{retires_after}
use Rattle.world_runs.proofs.acting.send_out.Goals as goal

pub returns-then-put_out : goal.returns-then-put_out
returns-then-put_out g c =
    let w = c.args.machine.now in
    let run = run_now c.args.run in
    let r = enclave_at w.0.enclaves run.e in
    let known = c.if-put_out.ensures {u = tt} in
    let sent = record r { out = r.out ++ c.args.word ∷ [] } in
    retires_after w c.put_out.new.self c.retire.new.machine run sent c.requires.leave.number known.sent c.passed.result c.retire.ensures
    ∙ ap (λ (x : Context). (retires w.0 run (retired_with sent x), w.1)) (c.passed.ensures ∙ ap advanced c.context-context.ensures)
    ∙ ap (λ b. (if b then retires w.0 run (retired_with sent (advanced r.context)) else leaves w.0 run r run.count why_is.OutFull, w.1)) known.room
