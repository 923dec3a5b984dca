-- The controller as plain data, and what a call gives.
use Rattle.std.specs.Prelude.{ℕ, List, [], Option}
use Rattle.pl_base.specs.declared.place.Place.{Place}
use Rattle.mem_slots.specs.declared.slot_use.SlotUse.{SlotUse}
use Rattle.mem_slots.specs.Slots.{Slot}
use Rattle.mem_tree.specs.Checks.{Checked, Holds as AllHold, Fault as BreaksAt, Collision as CollidesAt}

-- how many zones and slots there are, the bytes off chip and those of the mirror, the mounted zones in order of mounting, and the root on chip
pub record CtlData : Type 0 where
  pub zones : ℕ
  pub slots : ℕ
  pub off_chip : List ℕ
  pub mirror : List ℕ
  pub mounted : List Slot
  pub root : List ℕ

abbrev pub ctl_data : ℕ → ℕ → List ℕ → List ℕ → List Slot → List ℕ → CtlData
ctl_data zones slots off_chip mirror mounted root =
    record { zones = zones; slots = slots; off_chip = off_chip; mirror = mirror; mounted = mounted; root = root }

-- other bytes off chip, and nothing else changed
abbrev pub with_off_chip : CtlData → List ℕ → CtlData
with_off_chip x bytes = record x { off_chip = bytes }

-- a controller in the middle of an event: the positions that are left for evictions, and the lists of slots that those so far were shown
pub record Going : Type 0 where
  pub ctl : CtlData
  pub left : List ℕ
  pub shown : List (List SlotUse)

abbrev pub going : CtlData → List ℕ → Going
going x positions = record { ctl = x; left = positions; shown = [] }

-- what a call answers: its value, the first place that broke or collided, or that the zone's root is another or none by now
pub data Outcome (A : Type 0) : Type 0 where
  Value : A → Outcome A
  Fault : Place → Outcome A
  Collision : Place → List ℕ → List ℕ → Outcome A
  Again : List ℕ → Option (List ℕ) → Outcome A

-- an outcome, and the controller after it
pub record After (A : Type 0) : Type 0 where
  pub outcome : Outcome A
  pub after : Going

abbrev pub answer : {A : Type 0} → A → Going → After A
answer a g = record { outcome = Value a; after = g }

-- a value goes on to the next step; all else ends here, with what was done so far
abbrev pub go_on : {A : Type 0} → {B : Type 0} → Outcome A → Going → (A → Going → After B) → After B
go_on (Value a) g next = next a g
go_on (Fault place) g next = record { outcome = Fault place; after = g }
go_on (Collision place held written) g next = record { outcome = Collision place held written; after = g }
go_on (Again taken root) g next = record { outcome = Again taken root; after = g }

abbrev pub and_then : {A : Type 0} → {B : Type 0} → After A → (A → Going → After B) → After B
and_then x next = go_on x.outcome x.after next

-- a path that holds goes on; another ends here
abbrev pub if_holds : {A : Type 0} → Checked → Going → After A → After A
if_holds AllHold g next = next
if_holds (BreaksAt place) g next = record { outcome = Fault place; after = g }
if_holds (CollidesAt place held written) g next = record { outcome = Collision place held written; after = g }
