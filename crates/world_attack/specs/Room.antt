-- How many entries and bytes of the history may still be needed for the lines that aren't answered.
use Rattle.std.specs.Prelude.{◌≡◌, ℕ, ◌+◌, ◌-◌, ◌*◌, ◌<◌, ◌≤◌, ◌==◌, false, if◌then◌else◌, List, [], ◌∷◌, length, drop, sum_by}
use Rattle.std.specs.List.{range_with_len}
use Rattle.pl_history.specs.declared.answer.Entry.{Entry}
use Rattle.pl_history.specs.declared.line.AttackLine.{AttackLine}
use Rattle.pl_history.specs.declared.setup.SetupParts.{SetupParts}
use Rattle.pl_history.specs.History.{HistoryData}
use Rattle.pl_history.specs.Legal.{Allowed, after}
use Rattle.pl_history.specs.Monitor.{Monitor, opening, line_count}
use Rattle.pl_history.specs.Rules.{IsSetup, attack_length}
use Rattle.world_attack.specs.Lines.{lines_before, line_bytes}

-- ---- what is needed

-- how many bytes the attacker's lines after those `earlier`, from the latest back, add to the history
abbrev pub attack_bytes : List AttackLine → List AttackLine → ℕ
attack_bytes earlier [] = 0
attack_bytes earlier (now ∷ later) = attack_length earlier now + attack_bytes (now ∷ earlier) later

-- and those from a position on
abbrev pub bytes_due : SetupParts → ℕ → ℕ
bytes_due setup at = attack_bytes (lines_before setup at) (drop at setup.attacker)

-- each line that isn't answered has at most two answers, and one that has begun one more
abbrev pub answers_due : SetupParts → Monitor → ℕ → ℕ
answers_due setup s actor = 2 * (line_count setup actor - (s.progress actor).answered) - (if (s.progress actor).begun then 1 else 0)

-- those of all harts and the attacker
abbrev pub entries_due : SetupParts → Monitor → ℕ
entries_due setup s = sum_by (answers_due setup s) (range_with_len 0 (setup.harts + 1))

-- a history has room for what is still needed
pub record HasRoom (setup : SetupParts) (s : Monitor) (h : HistoryData) : Type 0 where
  pub entries : entries_due setup s ≤ h.entry_room
  pub bytes : bytes_due setup (s.progress setup.harts).answered ≤ h.byte_room

-- ---- what holds of it

-- at the start: two entries for each line, and at most 4 MiB
pub record RoomToStart (setup : SetupParts) : Type 0 where
  pub entries : entries_due setup (opening setup) ≡ 2 * (sum_by length setup.lines + length setup.attacker)
  pub bytes : bytes_due setup 0 ≤ 4194304

abbrev pub SetupsNeedRoom : Type 0
SetupsNeedRoom = (setup : SetupParts) → IsSetup setup → RoomToStart setup

-- a history with room has it for the next line of an actor: for an entry, for two where the line hasn't begun, and for an attacker's bytes
pub record RoomForLine (setup : SetupParts) (s : Monitor) (h : HistoryData) (actor : ℕ) : Type 0 where
  pub entry : 0 < h.entry_room
  pub two : (s.progress actor).begun ≡ false → 2 ≤ h.entry_room
  pub bytes : actor ≡ setup.harts → line_bytes setup (s.progress actor).answered ≤ h.byte_room

abbrev pub RoomForLines : Type 0
RoomForLines = (setup : SetupParts) (s : Monitor) (h : HistoryData) (actor : ℕ) → HasRoom setup s h → actor ≤ setup.harts
    → (s.progress actor).answered < line_count setup actor → RoomForLine setup s h actor

-- how many bytes the entry of a line adds: the attacker's line its own, a hart's none
abbrev pub bytes_added : SetupParts → Entry → ℕ
bytes_added setup entry = if entry.actor == setup.harts then line_bytes setup entry.line else 0

-- room that there is stays where an entry is allowed, and takes its own
abbrev pub RoomStays : Type 0
RoomStays = (setup : SetupParts) (bytes : List ℕ) (s : Monitor) (before : List Entry) (entry : Entry) (old new : HistoryData) → IsSetup setup → HasRoom setup s old
    → Allowed setup bytes s before entry → old.entry_room ≤ new.entry_room + 1 → old.byte_room ≤ new.byte_room + bytes_added setup entry
    → HasRoom setup (after setup bytes s entry) new
