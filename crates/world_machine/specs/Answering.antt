-- How an event ends: the line is begun, goes on, or is answered; a collision is kept.
use Rattle.std.specs.Prelude.{ℕ, ◌+◌, ◌-◌, List, [], ◌∷◌, ◌++◌, slice_set, Some}
use Rattle.pl_base.specs.declared.place.Place.{Place}
use Rattle.mem_ctl.specs.Data.{After, Outcome, Value, Fault, Collision, Again}
use Rattle.pl_history.specs.declared.answer.Answer.{Answer}
use Rattle.pl_history.specs.declared.answer.Answer.TheVariants as answer_is
use Rattle.pl_history.specs.declared.answer.Entry.{Entry}
use Rattle.pl_history.specs.History.{HistoryData}
use Rattle.world_machine.specs.declared.under.Under.{Under}
use Rattle.world_machine.specs.declared.under.Under.TheVariants.{Idle}
use Rattle.world_machine.specs.Worlds.{Event, WorldData, answered_at}

-- an answer to an actor's first line that isn't answered
abbrev pub entry_now : WorldData → ℕ → Answer → Entry
entry_now w actor now = record { actor = actor; line = answered_at w.answered actor; answer = now }

-- a history with one more entry, which takes one place of its room
abbrev pub with_entry : HistoryData → Entry → HistoryData
with_entry h entry = record { entries = h.entries ++ entry ∷ []; bytes = h.bytes; entry_room = h.entry_room - 1; byte_room = h.byte_room }

-- a hart's line has begun, and is so far
abbrev pub begins : WorldData → ℕ → Under → WorldData
begins w hart under = record w { under = slice_set w.under hart under; history = with_entry w.history (entry_now w hart answer_is.Begun) }

-- a begun line goes on
abbrev pub goes_on : WorldData → ℕ → Under → WorldData
goes_on w hart under = record w { under = slice_set w.under hart under }

-- a hart's line is answered, and its next one hasn't begun
abbrev pub answers : WorldData → ℕ → Answer → WorldData
answers w hart now = record w {
  under = slice_set w.under hart Idle;
  answered = slice_set w.answered hart (answered_at w.answered hart + 1);
  history = with_entry w.history (entry_now w hart now);
}

-- a collision is kept; all else stays as it is
abbrev pub keeps_collision : WorldData → Place → List ℕ → List ℕ → WorldData
keeps_collision w place held written = record w { collision = Some (record { place = place; held = held; written = written }) }

-- an event without an access through the trees
abbrev pub quiet : WorldData → Event
quiet w = record { world = w; shown = [] }

-- What an access decides, in the world with the controller that it left: its value, or the fault of a place, or a collision. An access
-- within an event is never asked again.
abbrev pub decided : {A : Type 0} → WorldData → (A → WorldData) → (Place → WorldData) → Outcome A → WorldData
decided w then faults (Value value) = then value
decided w then faults (Fault place) = faults place
decided w then faults (Collision place held written) = keeps_collision w place held written
decided w then faults (Again root now) = w

-- the event of one access
abbrev pub accesses : {A : Type 0} → WorldData → After A → (WorldData → A → WorldData) → (WorldData → Place → WorldData) → Event
accesses w access then faults =
    let left : WorldData = record w { ctl = access.after.ctl } in
    record { world = decided left (then left) (faults left) access.outcome; shown = access.after.shown }
