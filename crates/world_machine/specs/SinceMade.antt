-- What a history says of each enclave number since the newest `create`, `shadow` or `fork` of it began.
use Rattle.std.specs.Prelude.{ℕ, ◌+◌, ◌==◌, Bool, true, false, if◌then◌else◌, List, [], ◌∷◌, ◌++◌, Option, Some, None}
use Rattle.pl_history.specs.declared.answer.Answer.{Answer}
use Rattle.pl_history.specs.declared.answer.Answer.TheVariants as answer_is
use Rattle.pl_history.specs.declared.answer.Entry.{Entry}
use Rattle.pl_history.specs.declared.line.Line.{Line}
use Rattle.pl_history.specs.declared.line.Line.TheVariants.{Create, Destroy, Drop, Fork, Grant, Resume, Run, Send, Shadow}
use Rattle.pl_history.specs.declared.setup.SetupParts.{SetupParts}
use Rattle.pl_history.specs.Legal.{ActorLine, line_at, of_hart}

-- Whether the newest line that makes the number was a `create` or `fork` that was answered `ok`, and no `destroy` of it has begun since; the image
-- that this line names, of a `fork` the shadow's; the pages that it names for the image; those given as spares since, in order; the shadow of a
-- `fork`; all words that were sent to the number since, in order; and how many of its instructions retired in the runs that have left it since.
pub record SinceMade : Type 0 where
  pub live : Bool
  pub image : ℕ
  pub pages : List ℕ
  pub spares : List ℕ
  pub parent : Option ℕ
  pub sent : List ℕ
  pub retired : ℕ

-- before any line that makes it
abbrev pub never_made : SinceMade
never_made = record { live = false; image = 0; pages = []; spares = []; parent = None; sent = []; retired = 0 }

-- a `create` or `shadow` begins, or a `fork`; a number is made; a spare is given; a word is sent; a run leaves; a `destroy` begins, or the number is
-- given back
abbrev pub made_of : ℕ → List ℕ → SinceMade
made_of image pages = record never_made { image = image; pages = pages }

abbrev pub forked_of : ℕ → ℕ → List ℕ → SinceMade
forked_of shadow image spares = record never_made { image = image; spares = spares; parent = Some shadow }

abbrev pub now_live : Bool → SinceMade → SinceMade
now_live live since = record since { live = live }

abbrev pub spare_given : ℕ → SinceMade → SinceMade
spare_given page since = record since { spares = since.spares ++ page ∷ [] }

abbrev pub word_sent : ℕ → SinceMade → SinceMade
word_sent word since = record since { sent = since.sent ++ word ∷ [] }

abbrev pub run_left : ℕ → SinceMade → SinceMade
run_left count since = record since { retired = since.retired + count }

abbrev pub given_up : SinceMade → SinceMade
given_up since = record never_made { image = since.image }

-- number e has this now, and each other number its own
abbrev pub with_since : (ℕ → SinceMade) → ℕ → SinceMade → ℕ → SinceMade
with_since all e now = λ d. if d == e then now else all d

-- what the answer to a line of a hart adds
abbrev pub line_adds : (ℕ → SinceMade) → Line → Answer → ℕ → SinceMade
line_adds all (Create e image pages) answer_is.Begun = with_since all e.0 (made_of image pages)
line_adds all (Create e image pages) answer_is.Ok = with_since all e.0 (now_live true (all e.0))
line_adds all (Shadow e image pages) answer_is.Begun = with_since all e.0 (made_of image pages)
line_adds all (Fork shadow e pages) answer_is.Begun = with_since all e.0 (forked_of shadow.0 (all shadow.0).image pages)
line_adds all (Fork shadow e pages) answer_is.Ok = with_since all e.0 (now_live true (all e.0))
line_adds all (Grant e page) answer_is.Ok = with_since all e.0 (spare_given page (all e.0))
line_adds all (Send e word) answer_is.Ok = with_since all e.0 (word_sent word (all e.0))
line_adds all (Run e budget) (answer_is.Left count why) = with_since all e.0 (run_left count (all e.0))
line_adds all (Resume e budget) (answer_is.Left count why) = with_since all e.0 (run_left count (all e.0))
line_adds all (Destroy e) answer_is.Begun = with_since all e.0 (now_live false (all e.0))
line_adds all (Destroy e) answer_is.Ok = with_since all e.0 (given_up (all e.0))
line_adds all (Drop e) answer_is.Ok = with_since all e.0 (given_up (all e.0))
line_adds all line now = all

abbrev pub answer_adds : (ℕ → SinceMade) → Option ActorLine → Answer → ℕ → SinceMade
answer_adds all (Some (of_hart line)) now = line_adds all line now
answer_adds all line now = all

abbrev pub since_made : SetupParts → (ℕ → SinceMade) → List Entry → ℕ → SinceMade
since_made setup all [] = all
since_made setup all (entry ∷ entries) = since_made setup (answer_adds all (line_at setup entry.actor entry.line) entry.answer) entries
