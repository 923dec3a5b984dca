-- Giving back an enclave's pages, and a shadow's: `destroy` and `drop`.
use Rattle.std.specs.Prelude.{ℕ, ◌==◌, Bool, false, not, if◌then◌else◌, [], ◌∷◌, find, Option, Some, None, option_map}
use Rattle.std.specs.List.{range_with_len}
use Rattle.pl_base.specs.Bytes.{zero_page}
use Rattle.pl_base.specs.Pages.{is_among}
use Rattle.pl_base.specs.Refusals.{refuse, first_refusal}
use Rattle.pl_base.specs.States.{idle_refusal, is_sealed}
use Rattle.pl_base.specs.declared.refusal.No.{No}
use Rattle.pl_base.specs.declared.refusal.No.TheVariants.{NoEnclave, InUse}
use Rattle.pl_base.specs.declared.state.State.TheVariants.{Dying}
use Rattle.pl_history.specs.declared.answer.Answer.{Answer}
use Rattle.pl_history.specs.declared.answer.Answer.TheVariants as answer_is
use Rattle.pl_history.specs.declared.setup.SetupParts.{SetupParts}
use Rattle.pl_history.specs.Answering.{AtOnce, Begins, EndsDone}
use Rattle.pl_history.specs.Monitor.{host, Monitor, freed, pages_taken, with_number, with_owner}

-- ---- the answers

abbrev pub is_parent : ℕ → Option ℕ → Bool
is_parent e None = false
is_parent e (Some parent) = parent == e

-- the lowest number that was forked from a number
abbrev pub first_child : SetupParts → Monitor → ℕ → Option ℕ
first_child setup s e = find (λ child. is_parent e (s.number child).parent) (range_with_len 0 setup.enclaves)

-- why a shadow can't be given back: it isn't sealed, or a number that was forked from it isn't given back
abbrev pub drop_refusal : SetupParts → Monitor → ℕ → Option No
drop_refusal setup s e = first_refusal (
    refuse (not (is_sealed (s.number e).state)) NoEnclave
    ∷ option_map (λ child. InUse (record { 0 = child })) (first_child setup s e)
    ∷ [])

abbrev pub AllowedDestroy : Monitor → ℕ → Bool → Answer → Type 0
AllowedDestroy s e = Begins (idle_refusal (s.number e).state) EndsDone

abbrev pub AllowedDrop : SetupParts → Monitor → ℕ → Bool → Answer → Type 0
AllowedDrop setup s e = AtOnce (drop_refusal setup s e) (Some answer_is.Ok)

-- ---- what they change

abbrev pub dying : Monitor → ℕ → Monitor
dying s e = with_number s e (record (s.number e) { state = Dying; live = false })

-- all pages that the number took are zeroed pages of the host, and the number is free
abbrev pub given_back : Monitor → ℕ → Monitor
given_back s e =
    let pages = pages_taken (s.number e) in
    let free = with_owner (with_number s e (freed (s.number e))) pages host in
    record free { bytes = λ page. if is_among pages page then zero_page else s.bytes page }
