-- Running enclaves and their words, tried on small states.
use Rattle.std.proofs.Common.{◌≡◌, ℕ, unwrap_or, true, false, List, [], ◌∷◌, map, replicate, Option, Some, None, refl, lit≤}
use Rattle.rv_alone.specs.Alone as alone_is
use Rattle.rv_alone.specs.Table as table
use Rattle.rv_alone.specs.Alone.{Outcome, trap, wait, full, next, alone}
use Rattle.rv_alone.specs.Flat.{Image, Flat, on, ended, start_of}
use Rattle.pl_base.specs.declared.place.Place.{Place}
use Rattle.pl_base.specs.declared.place.Place.TheVariants.{Block}
use Rattle.pl_base.specs.declared.refusal.No.{No}
use Rattle.pl_base.specs.declared.refusal.No.TheVariants as no_is
use Rattle.pl_base.specs.declared.state.State.{State}
use Rattle.pl_base.specs.declared.state.State.TheVariants as state_is
use Rattle.pl_base.specs.declared.state.Why.TheVariants as why_is
use Rattle.pl_base.specs.States.{is_fresh, is_paused}
use Rattle.pl_history.specs.declared.answer.Answer.TheVariants as answer_is
use Rattle.pl_history.specs.declared.line.Line.TheVariants.{Resume}
use Rattle.pl_history.specs.Legal.{AllowedAnswer, after_answer}
use Rattle.pl_history.specs.Monitor.{Number, free_number, flat_image, with_number}
use Rattle.pl_base.specs.States.{run_refusal}
use Rattle.pl_history.specs.Running.{needs_page, obstacle, EndsBy, MayLeave}
use Rattle.pl_history.specs.Words.{send_refusal, take_refusal}
use Rattle.pl_history.proofs.CaseStates.{enc, exits_42, three_pages, quiet, state}

-- ---- refusals

abbrev all_states : List State
all_states = state_is.Free ∷ state_is.Building ∷ state_is.Fresh ∷ state_is.On ∷ state_is.Paused ∷ state_is.Ended ∷ state_is.Trapped ∷ state_is.Faulted ∷ state_is.Dying ∷ state_is.Sealed ∷ []

abbrev in_state : State → Option No
in_state s = Some (no_is.WrongState s)

runs : map (run_refusal is_fresh) all_states
    ≡ (Some no_is.NoEnclave ∷ in_state state_is.Building ∷ None ∷ in_state state_is.On ∷ in_state state_is.Paused ∷ in_state state_is.Ended ∷ in_state state_is.Trapped ∷ in_state state_is.Faulted
    ∷ in_state state_is.Dying ∷ Some no_is.NoEnclave ∷ [])
runs = refl

resumes : map (run_refusal is_paused) (state_is.Fresh ∷ state_is.Paused ∷ []) ≡ (in_state state_is.Fresh ∷ None ∷ [])
resumes = refl

-- ---- the ends of a run

-- not forked; stores to no page; to one that it has written; with a spare left; with none
needs : (needs_page None [] [] (Some 1) ∷ needs_page (Some 0) [] [] None ∷ needs_page (Some 0) (31 ∷ []) (1 ∷ []) (Some 1) ∷ needs_page (Some 0) (31 ∷ []) [] (Some 1) ∷ needs_page (Some 0) (31 ∷ []) (2 ∷ []) (Some 1) ∷ [])
    ≡ (false ∷ false ∷ false ∷ false ∷ true ∷ [])
needs = refl

abbrev after : Outcome
after = next (start_of (flat_image exits_42))

obstacles : (obstacle false (trap 8 9) ∷ obstacle true wait ∷ obstacle false full ∷ obstacle true after ∷ obstacle false after ∷ [])
    ≡ (Some (why_is.Trapped 8 9) ∷ Some why_is.Waiting ∷ Some why_is.OutFull ∷ Some why_is.NeedPage ∷ None ∷ [])
obstacles = refl

-- no place is licensed
abbrev never : Place → Type 0
never place = ⊥

abbrev always : Place → Type 0
always place = Unit {0}

-- ended before budget, budget before the next instruction
ends : EndsBy (ended 42) true (Some why_is.Waiting) never (why_is.Ended 42)
ends = refl

spent : EndsBy on true (Some why_is.Waiting) always why_is.Budget
spent = refl

waits : EndsBy on false (Some why_is.Waiting) never why_is.Waiting
waits = refl

faults : EndsBy on false (Some why_is.Waiting) always (why_is.Fault (Block 30 0))
faults = tt

unlicensed : EndsBy on false (Some why_is.Waiting) never (why_is.Fault (Block 30 0)) → ⊥
unlicensed end = end

-- no fault at a spent budget
budget_first : EndsBy on true None always (why_is.Fault (Block 30 0)) → ⊥
budget_first end = cc

goes_on : EndsBy on false None always why_is.Budget → ⊥
goes_on end = cc

-- three instructions that exit with 42, in one run and in two
abbrev exits : Image
exits = flat_image exits_42

abbrev came_to : ℕ → Flat
came_to n = unwrap_or (alone exits [] n) (start_of exits)

whole : MayLeave exits never free_number 10 3 (why_is.Ended 42)
unfolding alone_is.alone alone_is.written_pages table.instruction_of
whole = (lit≤ tt, (came_to 3, refl, refl))

first_part : MayLeave exits never free_number 2 2 why_is.Budget
unfolding alone_is.alone alone_is.written_pages table.instruction_of
first_part = (lit≤ tt, (came_to 2, refl, refl))

second_part : MayLeave exits never (record free_number { retired = 2 }) 10 1 (why_is.Ended 42)
unfolding alone_is.alone alone_is.written_pages table.instruction_of
second_part = (lit≤ tt, (came_to 3, refl, refl))

-- an image that is entered at its second page, which has no X, traps at once; with a budget of 0 it would leave before
abbrev flat : Image
flat = record (flat_image three_pages) { entry = 0x11000 }

traps : MayLeave flat never free_number 10 0 (why_is.Trapped 12 0x11000)
unfolding alone_is.alone alone_is.written_pages
traps = (lit≤ tt, (start_of flat, refl, refl))

out_of_budget : MayLeave flat never free_number 0 0 why_is.Budget
unfolding alone_is.alone alone_is.written_pages
out_of_budget = (lit≤ tt, (start_of flat, refl, refl))

-- the state that a run leaves, and the count
left : (after_answer (with_number state 2 (record free_number { state = state_is.On; retired = 2 })) 0 (Resume (enc 2) 5) (answer_is.Left 4 (why_is.Fault (Block 30 0)))).number 2
    ≡ record free_number { state = state_is.Faulted; retired = 6 }
left = refl

entered : (after_answer state 1 (Resume (enc 2) 5) answer_is.Begun).number 2 ≡ record (state.number 2) { state = state_is.On; hart = 1 }
entered = refl

-- a run has no `no 5`, and no fault before it has begun
no_refusal : AllowedAnswer quiet state (Resume (enc 2) 5) true (answer_is.No (no_is.Fault (Block 30 0))) → ⊥
no_refusal allowed = allowed

not_begun : AllowedAnswer quiet state (Resume (enc 2) 5) false (answer_is.Left 0 (why_is.Fault (Block 30 0))) → ⊥
not_begun allowed = allowed

-- ---- words

abbrev with_state : State → Number
with_state s = record free_number { state = s }

sends : map (λ s. send_refusal (with_state s)) all_states
    ≡ (Some no_is.NoEnclave ∷ Some no_is.NoEnclave ∷ None ∷ None ∷ None ∷ None ∷ None ∷ None ∷ Some no_is.NoEnclave ∷ Some no_is.NoEnclave ∷ [])
sends = refl

takes : map (λ s. take_refusal quiet (with_state s)) (state_is.Dying ∷ state_is.Fresh ∷ []) ≡ (Some no_is.NoEnclave ∷ Some no_is.Empty ∷ [])
unfolding alone_is.alone
takes = refl

full_of_words : map (λ s. send_refusal (record free_number { state = s; sent = replicate 4096 1 })) (state_is.Sealed ∷ state_is.On ∷ []) ≡ (Some no_is.NoEnclave ∷ Some no_is.Full ∷ [])
full_of_words = refl
