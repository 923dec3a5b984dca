-- Results of calls as outcomes, and of checks; a call as its function of the plain data.
use Rattle.std.specs.Prelude.{ℕ, ◌≡◌, ◌<◌, ◌&&◌, Bool, true, false, List, [], ◌∷◌, length, not, if◌then◌else◌, Result, Ok, Err}
use Rattle.std.specs.Str.{bytes_eq}
use Rattle.pl_base.specs.declared.place.Place.{Place}
use Rattle.pl_base.specs.declared.place.Place.TheVariants.{Block, Node, RootNode}
use Rattle.mem_slots.specs.declared.slot_use.SlotUse.{SlotUse}
use Rattle.mem_tree.specs.declared.sealed.Verdict.{Verdict}
use Rattle.mem_tree.specs.declared.sealed.Verdict.TheVariants as verdict
use Rattle.mem_tree.specs.Paths.{same_place}
use Rattle.mem_tree.specs.Checks.{Checked, Holds as AllHold, Fault as BreaksAt, Collision as CollidesAt}
use Rattle.mem_ctl.specs.declared.broken.Broken.{Broken}
use Rattle.mem_ctl.specs.declared.broken.Broken.TheVariants as broken
use Rattle.mem_ctl.specs.Data.{CtlData, Going, Outcome, Value, Fault, Collision, After, going}

-- what a check answers
abbrev pub checked_of : Result (Unit {0}) Broken → Checked
checked_of (Ok done) = AllHold
checked_of (Err (broken.Fault place)) = BreaksAt place
checked_of (Err (broken.Collision c)) = CollidesAt c.place c.held.items c.written.items

-- taken bytes that don't break, against the written ones
abbrev pub written_checked : (List ℕ → List ℕ) → Place → List ℕ → List ℕ → Checked
written_checked digest_of place bytes written =
    if not (bytes_eq bytes written) && bytes_eq (digest_of bytes) (digest_of written) then CollidesAt place bytes written else AllHold

-- one place of a path, under the digest that is held for it
abbrev pub place_checked : (List ℕ → List ℕ) → List ℕ → Place → List ℕ → List ℕ → Checked
place_checked digest_of held place bytes written =
    if not (bytes_eq (digest_of bytes) held) then BreaksAt place else written_checked digest_of place bytes written

-- the place is the one at which a sealed path breaks
abbrev pub is_break : Verdict → Place → Bool
is_break verdict.Holds place = false
is_break (verdict.Breaks broken) place = same_place broken place

-- one place of a sealed path, whose break is known
abbrev pub part_checked : (List ℕ → List ℕ) → Bool → Place → List ℕ → List ℕ → Checked
part_checked digest_of broken place bytes written = if broken then BreaksAt place else written_checked digest_of place bytes written

-- the place is a block or a node of a zone
abbrev pub is_of_zone : Place → Bool
is_of_zone (Block page block) = true
is_of_zone (Node level zone index) = true
is_of_zone (RootNode level index) = false

-- what a call answers
abbrev pub outcome_of : {A : Type 0} → Result A Broken → Outcome A
outcome_of (Ok a) = Value a
outcome_of (Err (broken.Fault place)) = Fault place
outcome_of (Err (broken.Collision c)) = Collision c.place c.held.items c.written.items

-- each position is an answer on the list of slots that was shown, one for each
abbrev pub AreGiven : (List SlotUse → ℕ → Type 0) → List (List SlotUse) → List ℕ → Type 0
AreGiven gives [] [] = Unit {0}
AreGiven gives [] (position ∷ positions) = ⊥
AreGiven gives (slots ∷ rest) [] = ⊥
AreGiven gives (slots ∷ rest) (position ∷ positions) = gives slots position × (position < length slots) × AreGiven gives rest positions

-- the outcome and the data after a call are those of its function, with positions that the choice answers on the slots that it is shown
pub record IsCall {A : Type 0} (gives : List SlotUse → ℕ → Type 0) (call : Going → After A) (old : CtlData) (outcome : Outcome A) (new : CtlData) : Type 0 where
  pub positions : List ℕ
  pub given : AreGiven gives (call (going old positions)).after.shown positions
  pub is : outcome ≡ (call (going old positions)).outcome
  pub now : new ≡ (call (going old positions)).after.ctl
