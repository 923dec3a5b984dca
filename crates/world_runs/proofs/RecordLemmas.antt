-- A record that is written twice: the last write counts.
use Rattle.std.proofs.Common.{◌≡◌, ℕ, ◌+◌, ◌<◌, ◌==◌, List, length, ap, ◌∙◌, if◌then◌else◌, true, arith}
use Rattle.std.proofs.lemmas.Bool.Decides.{nat_tests}
use Rattle.std.proofs.lemmas.List.{set-set}
use Rattle.pl_base.specs.declared.state.Why.{Why}
use Rattle.pl_base.specs.declared.state.Why.TheVariants as why_is
use Rattle.pl_base.specs.States.{state_left}
use Rattle.rv_alone.specs.declared.step.Context.{Context}
use Rattle.mon_enclave.specs.declared.enclave.Enclave.{Enclave}
use Rattle.mon_enclave.specs.Records.{enclave_at}
use Rattle.mon_enclave.proofs.RecordLists.{record_there}
use Rattle.pl_history.specs.declared.answer.Answer.TheVariants as answer_is
use Rattle.world_events.specs.Conditions.{with_record}
use Rattle.world_machine.specs.Answering.{answers}
use Rattle.world_machine.specs.Running.{RunNow, fetches_next, leaves, retired_with, retires}
use Rattle.world_machine.specs.Worlds.{WorldData}

module _ (w : WorldData) (run : RunNow) (r : Enclave) where
  pub leaves-again : (now : Enclave) (count : ℕ) (why : Why) → leaves (with_record w run.e r) run now count why ≡ leaves w run now count why
  leaves-again now count why =
      ap (λ (all : List Enclave). answers (record w { enclaves = all }) run.hart (answer_is.Left count why)) (set-set w.enclaves run.e r (record now { state = state_left why; shown = length now.out }))

  pub retires-again : (now : Enclave) → retires (with_record w run.e r) run now ≡ retires w run now
  retires-again now =
      ap (λ (x : WorldData). if run.count + 1 == run.budget then x else fetches_next (with_record (with_record w run.e r) run.e now) run (run.count + 1)) (leaves-again now (run.count + 1) why_is.Budget)
      ∙ ap (λ (all : List Enclave). if run.count + 1 == run.budget then leaves w run now (run.count + 1) why_is.Budget else fetches_next (record w { enclaves = all }) run (run.count + 1))
      (set-set w.enclaves run.e r now)

-- the budget is spent
pub retires-last : (w : WorldData) (run : RunNow) (now : Enclave) → run.count + 1 ≡ run.budget → retires w run now ≡ leaves w run now (run.count + 1) why_is.Budget
retires-last w run now last =
    let test : (run.count + 1 == run.budget) ≡ true = grind (arith, nat_tests) in
    ap (λ b. if b then leaves w run now (run.count + 1) why_is.Budget else fetches_next (with_record w run.e now) run (run.count + 1)) test

-- ---- a record is written, and then the run goes on with it

module _ {F : Type 0} (old mid new : WorldData × F) (run : RunNow) (r : Enclave) (number : run.e < length old.0.enclaves) (written : mid ≡ (with_record old.0 run.e r, old.1)) where
  record_written : enclave_at mid.0.enclaves run.e ≡ r
  record_written = ap (λ (v : WorldData × F). enclave_at v.0.enclaves run.e) written ∙ record_there old.0.enclaves run.e r number

  pub leaves_after : (count : ℕ) (why : Why) → new ≡ (leaves mid.0 run (enclave_at mid.0.enclaves run.e) count why, mid.1) → new ≡ (leaves old.0 run r count why, old.1)
  leaves_after count why is =
      is ∙ ap (λ (x : Enclave). (leaves mid.0 run x count why, mid.1)) record_written ∙ ap (λ (v : WorldData × F). (leaves v.0 run r count why, v.1)) written
      ∙ ap (λ (x : WorldData). (x, old.1)) (leaves-again old.0 run r r count why)

  pub retires_after : (context : Context) → new ≡ (retires mid.0 run (retired_with (enclave_at mid.0.enclaves run.e) context), mid.1) → new ≡ (retires old.0 run (retired_with r context), old.1)
  retires_after context is =
      is ∙ ap (λ (x : Enclave). (retires mid.0 run (retired_with x context), mid.1)) record_written ∙ ap (λ (v : WorldData × F). (retires v.0 run (retired_with r context), v.1)) written
      ∙ ap (λ (x : WorldData). (x, old.1)) (retires-again old.0 run r (retired_with r context))
