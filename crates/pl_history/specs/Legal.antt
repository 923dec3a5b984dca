-- Legal histories: each answer is one that the abstract monitor allows, in the state that those before it give.
use Rattle.std.specs.Prelude.{◌≡◌, ℕ, ◌==◌, Bool, if◌then◌else◌, List, [], ◌∷◌, ◌++◌, slice_get, Option, Some, option_map}
use Rattle.std.specs.Option.{option_map_or}
use Rattle.pl_base.specs.States.{is_fresh, is_paused}
use Rattle.pl_history.specs.declared.line.Line.{Line}
use Rattle.pl_history.specs.declared.line.Line.TheVariants.{Load, Store, Map, Unmap, Create, Shadow, Fork, Grant, Run, Resume, Send, Take, Destroy, Drop, After}
use Rattle.pl_history.specs.declared.line.AttackLine.{AttackLine}
use Rattle.pl_history.specs.declared.line.AttackLine.TheVariants as attack
use Rattle.pl_history.specs.declared.answer.Answer.{Answer}
use Rattle.pl_history.specs.declared.answer.Entry.{Entry}
use Rattle.pl_history.specs.declared.setup.SetupParts.{SetupParts}
use Rattle.pl_history.specs.Answering.{Changes, unchanged, change_by, progressed}
use Rattle.pl_history.specs.Attacking.{latest_kept, AllowedWrote, AllowedKept, written}
use Rattle.pl_history.specs.GivingBack.{AllowedDestroy, AllowedDrop, dying, given_back}
use Rattle.pl_history.specs.History.{named_part}
use Rattle.pl_history.specs.HostAccess.{AllowedLoad, AllowedStore, host_stored}
use Rattle.pl_history.specs.HostMaps.{AllowedMap, AllowedUnmap, mapped, removing, removed}
use Rattle.pl_history.specs.Making.{AllowedCreate, AllowedFork, AllowedGrant, building, forking, made, sealed, made_faulted, granted}
use Rattle.pl_history.specs.Monitor.{Monitor, opening, script_of, line_count}
use Rattle.pl_history.specs.Running.{AllowedRun, entered, left}
use Rattle.pl_history.specs.Waiting.{AllowedAfter}
use Rattle.pl_history.specs.Words.{AllowedSend, AllowedTake, sent, took}

-- ---- lines by actor

pub data ActorLine : Type 0 where
  of_hart : Line → ActorLine
  of_attacker : AttackLine → ActorLine

-- a line of a hart's script, or of the attacker's, who is the actor after the last hart
abbrev pub line_at : SetupParts → ℕ → ℕ → Option ActorLine
line_at setup actor at =
    if actor == setup.harts then option_map of_attacker (slice_get setup.attacker at) else option_map of_hart (slice_get (script_of setup actor) at)

-- ---- which answers are allowed

-- the answers that a hart's line may have, not begun yet or begun
abbrev pub AllowedAnswer : SetupParts → Monitor → Line → Bool → Answer → Type 0
AllowedAnswer setup s (Load va) = AllowedLoad setup s va
AllowedAnswer setup s (Store va word) = AllowedStore setup s va word
AllowedAnswer setup s (Map va page perms) = AllowedMap setup s va page perms
AllowedAnswer setup s (Unmap va) = AllowedUnmap setup s va
AllowedAnswer setup s (Create e image pages) = AllowedCreate setup s (Create e image pages) e.0 image pages
AllowedAnswer setup s (Shadow e image pages) = AllowedCreate setup s (Shadow e image pages) e.0 image pages
AllowedAnswer setup s (Fork shadow e pages) = AllowedFork setup s (Fork shadow e pages) shadow.0 e.0 pages
AllowedAnswer setup s (Grant e page) = AllowedGrant setup s e.0 page
AllowedAnswer setup s (Run e budget) = AllowedRun setup s (Run e budget) is_fresh e.0 budget
AllowedAnswer setup s (Resume e budget) = AllowedRun setup s (Resume e budget) is_paused e.0 budget
AllowedAnswer setup s (Send e word) = AllowedSend (s.number e.0)
AllowedAnswer setup s (Take e) = AllowedTake setup (s.number e.0)
AllowedAnswer setup s (Destroy e) = AllowedDestroy s e.0
AllowedAnswer setup s (Drop e) = AllowedDrop setup s e.0
AllowedAnswer setup s (After actor count) = AllowedAfter s actor count

-- the answers that an attacker's line may have after these entries; `part` are the bytes that the answer names
abbrev pub AllowedAttack : SetupParts → List ℕ → Monitor → List Entry → List ℕ → AttackLine → Bool → Answer → Type 0
AllowedAttack setup bytes s before part (attack.Write pa new) = AllowedWrote s (Some (record { address = pa; bytes = new })) part
AllowedAttack setup bytes s before part (attack.Keep name pa len) = AllowedKept s pa len part
AllowedAttack setup bytes s before part (attack.Back name) = AllowedWrote s (latest_kept setup bytes name before) part
AllowedAttack setup bytes s before part (attack.After actor count) = AllowedAfter s actor count

abbrev pub AllowedLine : SetupParts → List ℕ → Monitor → List Entry → ActorLine → Bool → Answer → Type 0
AllowedLine setup bytes s before (of_hart line) begun now = AllowedAnswer setup s line begun now
AllowedLine setup bytes s before (of_attacker line) begun now = AllowedAttack setup bytes s before (named_part bytes now) line begun now

-- an entry, after those before it, answers the actor's first line that isn't answered
abbrev pub Allowed : SetupParts → List ℕ → Monitor → List Entry → Entry → Type 0
Allowed setup bytes s before entry =
    let progress = s.progress entry.actor in
    (entry.line ≡ progress.answered)
    × ((line : ActorLine) × (line_at setup entry.actor entry.line ≡ Some line) × AllowedLine setup bytes s before line progress.begun entry.answer)

-- ---- what they change

-- What the answers to a hart's line change. A refusal changes nothing, but that one after Begun stops the making of a number.
abbrev pub changes : Monitor → ℕ → Line → Bool → Changes
changes s hart (Load va) begun = unchanged s
changes s hart (Store va word) begun = record (unchanged s) { ok = host_stored s va word }
changes s hart (Map va page perms) begun = record (unchanged s) { ok = mapped s va page perms }
changes s hart (Unmap va) begun = record (unchanged s) { begun = removing s hart va; ok = removed s hart }
changes s hart (Create e image pages) begun =
    record (unchanged s) { begun = building s e.0 image pages; ok = made s e.0; no = if begun then made_faulted s e.0 else s }
changes s hart (Shadow e image pages) begun =
    record (unchanged s) { begun = building s e.0 image pages; ok = sealed s e.0; no = if begun then made_faulted s e.0 else s }
changes s hart (Fork shadow e pages) begun =
    record (unchanged s) { begun = forking s shadow.0 e.0 pages; ok = made s e.0; no = if begun then made_faulted s e.0 else s }
changes s hart (Grant e page) begun = record (unchanged s) { ok = granted s e.0 page }
changes s hart (Run e budget) begun = record (unchanged s) { begun = entered s hart e.0; left = left s e.0 }
changes s hart (Resume e budget) begun = record (unchanged s) { begun = entered s hart e.0; left = left s e.0 }
changes s hart (Send e word) begun = record (unchanged s) { ok = sent s e.0 word }
changes s hart (Take e) begun = record (unchanged s) { word = took s e.0 }
changes s hart (Destroy e) begun = record (unchanged s) { begun = dying s e.0; ok = given_back s e.0 }
changes s hart (Drop e) begun = record (unchanged s) { ok = given_back s e.0 }
changes s hart (After actor count) begun = unchanged s

abbrev pub after_answer : Monitor → ℕ → Line → Answer → Monitor
after_answer s hart line now = progressed (change_by (changes s hart line (s.progress hart).begun) now) hart now

-- what a write changes, by the bytes that its answer names
abbrev pub writes : Monitor → List ℕ → Changes
writes s part = record (unchanged s) { wrote = λ changed pa. written s (record { address = pa; bytes = part }) changed }

-- what the answers to an attacker's line change
abbrev pub attack_changes : Monitor → List ℕ → AttackLine → Changes
attack_changes s part (attack.Write pa new) = writes s part
attack_changes s part (attack.Keep name pa len) = unchanged s
attack_changes s part (attack.Back name) = writes s part
attack_changes s part (attack.After actor count) = unchanged s

abbrev pub after_line : Monitor → ℕ → List ℕ → Answer → ActorLine → Monitor
after_line s actor part now (of_hart line) = after_answer s actor line now
after_line s actor part now (of_attacker line) = progressed (change_by (attack_changes s part line) now) actor now

abbrev pub after : SetupParts → List ℕ → Monitor → Entry → Monitor
after setup bytes s entry =
    option_map_or (after_line s entry.actor (named_part bytes entry.answer) entry.answer) (line_at setup entry.actor entry.line) s

-- ---- histories

abbrev pub state_after : SetupParts → List ℕ → Monitor → List Entry → Monitor
state_after setup bytes s [] = s
state_after setup bytes s (entry ∷ entries) = state_after setup bytes (after setup bytes s entry) entries

-- each entry is allowed, in the state that those before it give
abbrev pub AllAllowed : SetupParts → List ℕ → Monitor → List Entry → List Entry → Type 0
AllAllowed setup bytes s before [] = Unit {0}
AllAllowed setup bytes s before (entry ∷ entries) =
    Allowed setup bytes s before entry × AllAllowed setup bytes (after setup bytes s entry) (before ++ entry ∷ []) entries

-- the state that a history gives; its entries name parts of the bytes
abbrev pub legal_state : SetupParts → List ℕ → List Entry → Monitor
legal_state setup bytes = state_after setup bytes (opening setup)

abbrev pub Legal : SetupParts → List ℕ → List Entry → Type 0
Legal setup bytes = AllAllowed setup bytes (opening setup) []

-- every line of every actor is answered
abbrev pub AllAnswered : SetupParts → List ℕ → List Entry → Type 0
AllAnswered setup bytes entries = (actor : ℕ) → ((legal_state setup bytes entries).progress actor).answered ≡ line_count setup actor
