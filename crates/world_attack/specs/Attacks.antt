-- What one line of the attacker does to the bytes off chip and to the history.
use Rattle.std.specs.Prelude.{ℕ, ◌-◌, Bool, not, List, [], ◌∷◌, ◌++◌, length, slice_get}
use Rattle.std.specs.Option.{option_map_or}
use Rattle.std.specs.Str.{bytes_eq}
use Rattle.pl_base.specs.Bytes.{bytes_at, with_bytes}
use Rattle.pl_history.specs.declared.answer.Answer.{Answer}
use Rattle.pl_history.specs.declared.answer.Answer.TheVariants.{Wrote, Kept}
use Rattle.pl_history.specs.declared.answer.Entry.{Entry}
use Rattle.pl_history.specs.declared.line.AttackLine.{AttackLine}
use Rattle.pl_history.specs.declared.line.AttackLine.TheVariants.{Write, Keep, Back, After}
use Rattle.pl_history.specs.declared.setup.SetupParts.{SetupParts}
use Rattle.pl_history.specs.Attacking.{Placed, latest_kept}
use Rattle.pl_history.specs.History.{HistoryData}

-- what a line of the attacker reads and changes: the history, and the bytes off chip, of which the first stands at 0x80000000
pub record Exposed : Type 0 where
  pub history : HistoryData
  pub off_chip : List ℕ

abbrev pub exposed : HistoryData → List ℕ → Exposed
exposed history off_chip = record { history = history; off_chip = off_chip }

-- so many bytes off chip, from an address on
abbrev pub bytes_from : List ℕ → ℕ → ℕ → List ℕ
bytes_from off_chip address count = bytes_at off_chip (address - 0x80000000) count

-- an answer to a line of the attacker, who is the actor after the last hart
abbrev pub entry_of : SetupParts → ℕ → Answer → Entry
entry_of setup at now = record { actor = setup.harts; line = at; answer = now }

-- the history with these bytes, and one entry, added to it
abbrev pub with_answer : HistoryData → List ℕ → Entry → HistoryData
with_answer h bytes entry = record {
  entries = h.entries ++ entry ∷ [];
  bytes = h.bytes ++ bytes;
  entry_room = h.entry_room - 1;
  byte_room = h.byte_room - length bytes;
}

-- whether bytes that are written off chip change one there
abbrev pub changes_off_chip : List ℕ → Placed → Bool
changes_off_chip off_chip what = not (bytes_eq (bytes_from off_chip what.address (length what.bytes)) what.bytes)

-- bytes are written off chip, and added to the history, where the answer names them
abbrev pub wrote_at : SetupParts → ℕ → Exposed → Placed → Exposed
wrote_at setup at x what = record {
  history = with_answer x.history what.bytes
      (entry_of setup at (Wrote (changes_off_chip x.off_chip what) what.address (length x.history.bytes) (length what.bytes)));
  off_chip = with_bytes x.off_chip (what.address - 0x80000000) what.bytes;
}

-- so many bytes off chip are added to the history, where the answer names them
abbrev pub kept_at : SetupParts → ℕ → Exposed → ℕ → ℕ → Exposed
kept_at setup at x address count = record x {
  history = with_answer x.history (bytes_from x.off_chip address count) (entry_of setup at (Kept address (length x.history.bytes) count));
}

-- `write` writes its bytes; `keep` keeps those of a range; `back` writes what the latest `keep` of its name kept; `after` isn't done here
abbrev pub attacked_by : SetupParts → ℕ → Exposed → AttackLine → Exposed
attacked_by setup at x (Write pa bytes) = wrote_at setup at x (record { address = pa; bytes = bytes })
attacked_by setup at x (Keep name pa len) = kept_at setup at x pa len
attacked_by setup at x (Back name) = option_map_or (wrote_at setup at x) (latest_kept setup x.history.bytes name x.history.entries) x
attacked_by setup at x (After actor count) = x

-- the attacker's line at a position is done
abbrev pub attacked_line : SetupParts → ℕ → Exposed → Exposed
attacked_line setup at x = option_map_or (attacked_by setup at x) (slice_get setup.attacker at) x
