-- The forms that the answers to a line have, and what answers change.
use Rattle.std.specs.Prelude.{◌≡◌, ℕ, Bool, true, false, Option, Some, None}
use Rattle.pl_base.specs.declared.place.Place.{Place}
use Rattle.pl_base.specs.declared.refusal.No.{No}
use Rattle.pl_base.specs.declared.refusal.No.TheVariants.{Fault}
use Rattle.pl_base.specs.declared.state.Why.{Why}
use Rattle.pl_history.specs.declared.answer.Answer.{Answer}
use Rattle.pl_history.specs.declared.answer.Answer.TheVariants as answer_is
use Rattle.pl_history.specs.Monitor.{Monitor, begin, answer}

-- ---- which answers may come, by whether the line has begun

-- refused where there is a cause, and else answered at once by what it gives
abbrev pub AtOnce : Option No → Option Answer → Bool → Answer → Type 0
AtOnce refusal gives true now = ⊥
AtOnce refusal gives false (answer_is.No cause) = refusal ≡ Some cause
AtOnce refusal gives false now = (refusal ≡ None) × (gives ≡ Some now)

-- refused where there is a cause, and else begun; later it ends
abbrev pub Begins : Option No → (Answer → Type 0) → Bool → Answer → Type 0
Begins refusal Ends true now = Ends now
Begins refusal Ends false answer_is.Begun = refusal ≡ None
Begins refusal Ends false (answer_is.No cause) = refusal ≡ Some cause
Begins refusal Ends false now = ⊥

-- A fault may stop the line before it begins, where its place is licensed and no cause holds that is tried earlier; the other
-- answers are as they are otherwise.
abbrev pub FaultsOr : Option No → (Place → Type 0) → (Bool → Answer → Type 0) → Bool → Answer → Type 0
FaultsOr earlier Licensed Otherwise false (answer_is.No (Fault place)) = (earlier ≡ None) × Licensed place
FaultsOr earlier Licensed Otherwise begun now = Otherwise begun now

-- a begun line ends by Ok
abbrev pub EndsDone : Answer → Type 0
EndsDone now = now ≡ answer_is.Ok

-- a begun line ends by Ok, or by a fault of a licensed place
abbrev pub EndsDoneOrFaulted : (Place → Type 0) → Answer → Type 0
EndsDoneOrFaulted Licensed (answer_is.No (Fault place)) = Licensed place
EndsDoneOrFaulted Licensed now = now ≡ answer_is.Ok

-- ---- what the answers change

-- the state after each answer to a line, but for how far its actor is: after Left by its count and reason, after Wrote by its flag and
-- address
pub record Changes : Type 0 where
  pub begun : Monitor
  pub ok : Monitor
  pub value : Monitor
  pub word : Monitor
  pub left : ℕ → Why → Monitor
  pub no : Monitor
  pub wrote : Bool → ℕ → Monitor
  pub kept : Monitor

-- no answer changes anything
abbrev pub unchanged : Monitor → Changes
unchanged s = record { begun = s; ok = s; value = s; word = s; left = λ count why. s; no = s; wrote = λ changed pa. s; kept = s }

abbrev pub change_by : Changes → Answer → Monitor
change_by changes answer_is.Begun = changes.begun
change_by changes answer_is.Ok = changes.ok
change_by changes (answer_is.Value value) = changes.value
change_by changes (answer_is.Word word) = changes.word
change_by changes (answer_is.Left count why) = changes.left count why
change_by changes (answer_is.No cause) = changes.no
change_by changes (answer_is.Wrote changed pa from len) = changes.wrote changed pa
change_by changes (answer_is.Kept pa from len) = changes.kept

-- after Begun the actor's line is under way, and after any other answer it is answered
abbrev pub progressed : Monitor → ℕ → Answer → Monitor
progressed s actor answer_is.Begun = begin s actor
progressed s actor answer_is.Ok = answer s actor
progressed s actor (answer_is.Value value) = answer s actor
progressed s actor (answer_is.Word word) = answer s actor
progressed s actor (answer_is.Left count why) = answer s actor
progressed s actor (answer_is.No cause) = answer s actor
progressed s actor (answer_is.Wrote changed pa from len) = answer s actor
progressed s actor (answer_is.Kept pa from len) = answer s actor
