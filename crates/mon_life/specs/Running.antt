-- The first event of `run` and `resume`: why it is refused, or the enclave is on.
use Rattle.std.specs.Prelude.{ℕ, Bool, if◌then◌else◌, List, Option, Some, None}
use Rattle.pl_base.specs.declared.number.HartNo.{HartNo}
use Rattle.pl_base.specs.declared.refusal.No.{No}
use Rattle.pl_base.specs.declared.state.State.{State}
use Rattle.pl_base.specs.declared.state.State.TheVariants.{On}
use Rattle.pl_base.specs.States.{is_fresh, is_paused, run_refusal}
use Rattle.mon_enclave.specs.declared.enclave.Enclave.{Enclave}
use Rattle.mon_enclave.specs.Records.{enclave_at, with_enclave}

-- the state that lets the line through: for the first run the enclave is fresh, for a later one paused
abbrev pub may_run : Bool → State → Bool
may_run first state = if first then is_fresh state else is_paused state

abbrev pub run_refusal_of : List Enclave → ℕ → Bool → Option No
run_refusal_of enclaves e first = run_refusal (may_run first) (enclave_at enclaves e).state

-- number e is on, on this hart
abbrev pub entered : List Enclave → HartNo → ℕ → List Enclave
entered enclaves hart_now e = with_enclave enclaves e (record (enclave_at enclaves e) { state = On; hart = hart_now })

-- the refusal, where there is one, and the records after it
pub record RunBegun : Type 0 where
  pub refusal : Option No
  pub enclaves : List Enclave

-- a refused line changes nothing
abbrev pub entered_unless : Option No → List Enclave → List Enclave → RunBegun
entered_unless (Some cause) enclaves now = record { refusal = Some cause; enclaves = enclaves }
entered_unless None enclaves now = record { refusal = None; enclaves = now }

unfoldable pub run_begun : List Enclave → HartNo → ℕ → Bool → RunBegun
run_begun enclaves hart_now e first = entered_unless (run_refusal_of enclaves e first) enclaves (entered enclaves hart_now e)
