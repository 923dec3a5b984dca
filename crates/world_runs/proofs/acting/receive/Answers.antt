use Rattle.std.proofs.Common.{ℕ, ap, ◌∙◌, ◌≡◌, ◌%◌, ◌^◌, ◌+◌, Option, false, arith}
use Rattle.mon_enclave.specs.Records.{enclave_at}
use Rattle.rv_alone.specs.declared.step.Context.{Context}
use Rattle.rv_alone.specs.Effect.{advanced, loaded, with_register}
use Rattle.world_events.specs.Running.{run_now}
use Rattle.world_machine.specs.Running.{receives, retired_with, retires}
use Rattle.world_runs.proofs.RecordLemmas.{retires_after}
use Rattle.world_runs.proofs.acting.receive.Goals as goal

pub returns-in-Some : goal.returns-in-Some
returns-in-Some g c =
    let w = c.args.machine.now in
    let run = run_now c.args.run in
    let r = enclave_at w.0.enclaves run.e in
    let known = c.in-Some.ensures {u = tt} in
    let word : ℕ = c.in-Some.word in
    let whole : word % 2 ^ 64 ≡ word = omega arith in
    let context : c.loaded.result ≡ advanced (with_register r.context 10 word) =
    c.loaded.ensures ∙ ap (λ (x : Context). loaded x 10 8 false word) c.context-context.ensures ∙ ap (λ (k : ℕ). advanced (with_register r.context 10 k)) whole in
    retires_after w c.next_word.new.self c.retire.new.machine run (record r { received = r.received + 1 }) c.requires.leave.number known.some c.loaded.result c.retire.ensures
    ∙ ap (λ (x : Context). (retires w.0 run (record (retired_with r x) { received = r.received + 1 }), w.1)) context
    ∙ ap (λ (o : Option ℕ). (receives w.0 run r o, w.1)) known.word
