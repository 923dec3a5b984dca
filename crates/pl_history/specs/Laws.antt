-- What holds of histories as a whole.
use Rattle.std.specs.Prelude.{◌≡◌, ℕ, ◌+◌, ◌==◌, true, false, if◌then◌else◌, List, [], ◌∷◌, ◌++◌, Some}
use Rattle.std.specs.List.{All}
use Rattle.pl_history.specs.declared.answer.Answer.{Answer}
use Rattle.pl_history.specs.declared.answer.Answer.TheVariants as answer_is
use Rattle.pl_history.specs.declared.answer.Entry.{Entry}
use Rattle.pl_history.specs.declared.setup.SetupParts.{SetupParts}
use Rattle.pl_history.specs.History.{NamesPart}
use Rattle.pl_history.specs.Legal.{ActorLine, line_at, Allowed, after, legal_state, Legal}
use Rattle.pl_history.specs.Monitor.{Monitor, Progress}
use Rattle.pl_history.specs.Unattacked.{IsFaultless, IsUnattacked}

-- a legal history stays legal where one more entry is allowed in the state that it gives
abbrev pub OneMoreIsLegal : Type 0
OneMoreIsLegal = (setup : SetupParts) (bytes : List ℕ) (entries : List Entry) (entry : Entry) → Legal setup bytes entries
    → Allowed setup bytes (legal_state setup bytes entries) entries entry → Legal setup bytes (entries ++ entry ∷ [])

-- the state that it gives then is the one after that entry
abbrev pub OneMoreGives : Type 0
OneMoreGives = (setup : SetupParts) (bytes : List ℕ) (entries : List Entry) (entry : Entry)
    → legal_state setup bytes (entries ++ entry ∷ []) ≡ after setup bytes (legal_state setup bytes entries) entry

-- bytes that are added leave a history legal whose entries name parts of those before
abbrev pub MoreBytesLeaveLegal : Type 0
MoreBytesLeaveLegal = (setup : SetupParts) (bytes more : List ℕ) (entries : List Entry) → All (NamesPart bytes) entries
    → Legal setup bytes entries → Legal setup (bytes ++ more) entries

-- and they leave the state that it gives
abbrev pub MoreBytesLeaveState : Type 0
MoreBytesLeaveState = (setup : SetupParts) (bytes more : List ℕ) (entries : List Entry) → All (NamesPart bytes) entries
    → legal_state setup (bytes ++ more) entries ≡ legal_state setup bytes entries

-- ---- how far the actors are

-- how far an actor is after an answer
abbrev pub moved : Progress → Answer → Progress
moved p answer_is.Begun = record p { begun = true }
moved p now = record { answered = p.answered + 1; begun = false }

-- an entry moves its actor on, and no other
abbrev pub AnswersMoveOneActor : Type 0
AnswersMoveOneActor = (setup : SetupParts) (bytes : List ℕ) (s : Monitor) (entry : Entry) (line : ActorLine) → line_at setup entry.actor entry.line ≡ Some line → (other : ℕ)
    → (after setup bytes s entry).progress other ≡ (if other == entry.actor then moved (s.progress entry.actor) entry.answer else s.progress other)

-- a line that has begun doesn't begin again, and no line of the attacker begins
pub record LinesBeginOnce : Type 0 where
  pub once : (setup : SetupParts) (bytes : List ℕ) (s : Monitor) (before : List Entry) (entry : Entry) → Allowed setup bytes s before entry
      → (s.progress entry.actor).begun ≡ true → entry.answer ≡ answer_is.Begun → ⊥
  pub never : (setup : SetupParts) (bytes : List ℕ) (s : Monitor) (before : List Entry) (entry : Entry) → Allowed setup bytes s before entry
      → entry.actor ≡ setup.harts → entry.answer ≡ answer_is.Begun → ⊥

-- ---- without attacks

-- where no answer is `wrote 1`, no answer is a fault, and no attack is remembered
pub record UnattackedIsFaultless : Type 0 where
  pub faultless : (setup : SetupParts) (bytes : List ℕ) (entries : List Entry) → Legal setup bytes entries → IsUnattacked entries → IsFaultless entries
  pub unattacked : (setup : SetupParts) (bytes : List ℕ) (entries : List Entry) → Legal setup bytes entries → IsUnattacked entries → (legal_state setup bytes entries).attacks ≡ []
