-- Running enclaves: `run` and `resume`, and when a run may leave its enclave, and why.
use Rattle.std.specs.Prelude.{◌≡◌, ℕ, ◌+◌, ◌≤◌, ◌==◌, ◌&&◌, Bool, true, false, not, List, length, Option, Some, None}
use Rattle.pl_base.specs.declared.place.Place.{Place}
use Rattle.pl_base.specs.declared.state.State.{State}
use Rattle.pl_base.specs.declared.state.State.TheVariants.{On}
use Rattle.pl_base.specs.declared.state.Why.{Why}
use Rattle.pl_base.specs.declared.state.Why.TheVariants.{Ended, Budget, Waiting, OutFull, NeedPage, Trapped, Fault}
use Rattle.pl_base.specs.Pages.{is_among}
use Rattle.pl_base.specs.States.{run_refusal, state_left}
use Rattle.rv_alone.specs.Flat.{Image, Flat, Status, on, ended}
use Rattle.rv_alone.specs.Alone.{Outcome, trap, wait, full, next, one, alone, page_written, written_pages}
use Rattle.pl_history.specs.declared.answer.Answer.{Answer}
use Rattle.pl_history.specs.declared.answer.Answer.TheVariants as answer_is
use Rattle.pl_history.specs.declared.line.Line.{Line}
use Rattle.pl_history.specs.declared.setup.SetupParts.{SetupParts}
use Rattle.pl_history.specs.Answering.{Begins}
use Rattle.pl_history.specs.Licence.{Licensed}
use Rattle.pl_history.specs.Monitor.{Number, Monitor, image_at, with_number}

-- ---- why a run leaves

-- a forked number needs a page: its next instruction stores to a page of its image that it hasn't written, and it has written as many
-- as spares were ever given to it
abbrev pub needs_page : Option ℕ → List ℕ → List ℕ → Option ℕ → Bool
needs_page (Some parent) spares written (Some page) = not (is_among written page) && length written == length spares
needs_page _ spares written page = false

-- why an enclave can't go on by what its next instruction comes to, where it can't, by whether it needs a page for that
abbrev pub obstacle : Bool → Outcome → Option Why
obstacle needs (trap cause value) = Some (Trapped cause value)
obstacle needs wait = Some Waiting
obstacle needs full = Some OutFull
obstacle true (next a) = Some NeedPage
obstacle false (next a) = None

-- An enclave that has ended leaves so, then one whose budget is spent; else it leaves by a fault of a licensed place, or by what keeps
-- it from going on.
abbrev pub EndsBy : Status → Bool → Option Why → (Place → Type 0) → Why → Type 0
EndsBy (ended code) spent stopped MayFault why = why ≡ Ended code
EndsBy on true stopped MayFault why = why ≡ Budget
EndsBy on false stopped MayFault (Fault place) = MayFault place
EndsBy on false stopped MayFault why = stopped ≡ Some why

-- what keeps a number from going on, of its image run alone for so many instructions
abbrev pub obstacle_of : Image → Number → ℕ → Flat → Option Why
obstacle_of image n retired a =
    obstacle (needs_page n.parent n.spares (written_pages image n.sent retired) (page_written a.status a)) (one a n.sent)

-- A number of this image may leave its run so many instructions after the last one left, for this reason: as the image run alone, with
-- the words sent to it, for all instructions since it was made.
abbrev pub MayLeave : Image → (Place → Type 0) → Number → ℕ → ℕ → Why → Type 0
MayLeave image MayFault n budget count why =
    (count ≤ budget)
    × ((a : Flat) × (alone image n.sent (n.retired + count) ≡ Some a)
    × EndsBy a.status (count == budget) (obstacle_of image n (n.retired + count) a) MayFault why)

-- ---- the answers

-- a begun line leaves its enclave
abbrev pub Leaves : SetupParts → (Place → Type 0) → Number → ℕ → Answer → Type 0
Leaves setup MayFault n budget (answer_is.Left count why) =
    (image : Image) × (image_at setup n.image ≡ Some image) × MayLeave image MayFault n budget count why
Leaves setup MayFault n budget now = ⊥

abbrev pub AllowedRun : SetupParts → Monitor → Line → (State → Bool) → ℕ → ℕ → Bool → Answer → Type 0
AllowedRun setup s line may_run e budget = Begins (run_refusal may_run (s.number e).state) (Leaves setup (Licensed setup s line) (s.number e) budget)

-- ---- what they change

abbrev pub entered : Monitor → ℕ → ℕ → Monitor
entered s hart e = with_number s e (record (s.number e) { state = On; hart = hart })

abbrev pub left : Monitor → ℕ → ℕ → Why → Monitor
left s e count why = with_number s e (record (s.number e) { state = state_left why; retired = (s.number e).retired + count })
