-- Which states of an enclave number let a line through, and the state in which a run leaves it.
use Rattle.std.specs.Prelude.{Bool, true, false, not, [], ◌∷◌, Option}
use Rattle.pl_base.specs.Refusals.{refuse, first_refusal}
use Rattle.pl_base.specs.declared.refusal.No.{No}
use Rattle.pl_base.specs.declared.refusal.No.TheVariants.{NoEnclave, WrongState}
use Rattle.pl_base.specs.declared.state.State.{State}
use Rattle.pl_base.specs.declared.state.State.TheVariants as state_is
use Rattle.pl_base.specs.declared.state.Why.{Why}
use Rattle.pl_base.specs.declared.state.Why.TheVariants.{Ended, Trapped, Fault}

abbrev pub is_free : State → Bool
is_free state_is.Free = true
is_free _ = false

abbrev pub is_fresh : State → Bool
is_fresh state_is.Fresh = true
is_fresh _ = false

abbrev pub is_paused : State → Bool
is_paused state_is.Paused = true
is_paused _ = false

-- sealed: forks may share its pages
abbrev pub is_sealed : State → Bool
is_sealed state_is.Sealed = true
is_sealed _ = false

-- dying: it is being given back
abbrev pub is_dying : State → Bool
is_dying state_is.Dying = true
is_dying _ = false

-- on, building or dying: a line has the number under way
abbrev pub is_under_way : State → Bool
is_under_way state_is.On = true
is_under_way state_is.Building = true
is_under_way state_is.Dying = true
is_under_way _ = false

-- free or sealed: there is no enclave to run
abbrev pub is_absent : State → Bool
is_absent state_is.Free = true
is_absent state_is.Sealed = true
is_absent _ = false

-- free, sealed, building or dying: no word goes in or out
abbrev pub is_wordless : State → Bool
is_wordless state_is.Free = true
is_wordless state_is.Sealed = true
is_wordless state_is.Building = true
is_wordless state_is.Dying = true
is_wordless _ = false

-- the state in which a run leaves its enclave
abbrev pub state_left : Why → State
state_left (Ended code) = state_is.Ended
state_left (Trapped cause value) = state_is.Trapped
state_left (Fault place) = state_is.Faulted
state_left _ = state_is.Paused

-- why a number can't be run: there is no enclave, or its state isn't the one that the line needs
abbrev pub run_refusal : (State → Bool) → State → Option No
run_refusal may_run state = first_refusal (refuse (is_absent state) NoEnclave ∷ refuse (not (may_run state)) (WrongState state) ∷ [])

-- why an enclave can't be given a spare or be given back: there is none, or a line has it under way
abbrev pub idle_refusal : State → Option No
idle_refusal state = first_refusal (refuse (is_absent state) NoEnclave ∷ refuse (is_under_way state) (WrongState state) ∷ [])
