-- What a turn of the machine came to.
use Rattle.std.specs.Prelude.{ℕ, ◌≡◌, List}
use Rattle.mem_ctl.specs.Results.{AreGiven}
use Rattle.mem_slots.specs.declared.slot_use.SlotUse.{SlotUse}
use Rattle.world_machine.specs.declared.turned.Turned.{Turned}
use Rattle.world_machine.specs.Steps.{Turn, moves, rests, shown_by, turned_by}
use Rattle.world_machine.specs.Worlds.{WorldData}

-- the world that a turn leaves, before it is counted
abbrev pub left_by : WorldData → Turn → WorldData
left_by w (moves event) = event.world
left_by w (rests why) = w

-- what was answered, and the world after it, are those of the turn, with positions that the choice answers on the slots that it is shown
pub record IsTurn (gives : List SlotUse → ℕ → Type 0) (turn : List ℕ → Turn) (answered : Turned) (old new : WorldData) : Type 0 where
  pub positions : List ℕ
  pub given : AreGiven gives (shown_by (turn positions)) positions
  pub is : new ≡ left_by old (turn positions)
  pub says : (others : List ℕ) → answered ≡ turned_by (turn others)
