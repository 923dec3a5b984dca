-- What holds of the attacker's lines, over plain data.
use Rattle.std.specs.Prelude.{◌≡◌, ℕ, ◌+◌, ◌-◌, ◌<◌, ◌≤◌, Bool, false, List, ◌++◌, length, Some, slice_get}
use Rattle.std.specs.List.{All}
use Rattle.pl_history.specs.declared.answer.Answer.TheVariants.{Wrote, Kept}
use Rattle.pl_history.specs.declared.answer.Entry.{Entry}
use Rattle.pl_history.specs.declared.line.AttackLine.TheVariants.{Write, Keep, Back}
use Rattle.pl_history.specs.declared.setup.SetupParts.{SetupParts}
use Rattle.pl_history.specs.Attacking.{Placed, latest_kept}
use Rattle.pl_history.specs.History.{HistoryData, named_part, NamesPart}
use Rattle.pl_history.specs.Legal.{Legal, legal_state}
use Rattle.pl_history.specs.Rules.{IsSetup}
use Rattle.world_attack.specs.Attacks.{Exposed, bytes_from, changes_off_chip, wrote_at, kept_at}
use Rattle.world_attack.specs.Lines.{Range, range_of, lines_before, line_bytes, kept_range, IsInside, KeepIsAnswered}

-- so many bytes from an address on are off chip
pub record IsOffChip (off_chip : List ℕ) (address count : ℕ) : Type 0 where
  pub from : 0x80000000 ≤ address
  pub to : address + count ≤ 0x80000000 + length off_chip

-- what a write leaves: the answer names the bytes that were written; those off chip are as many as before, the written ones where they
-- were written and the old ones elsewhere; and the same list where none changed
pub record WriteLeaves (setup : SetupParts) (at : ℕ) (x : Exposed) (what : Placed) : Type 0 where
  pub named : (changed : Bool) → named_part (wrote_at setup at x what).history.bytes (Wrote changed what.address (length x.history.bytes) (length what.bytes)) ≡ what.bytes
  pub size : length (wrote_at setup at x what).off_chip ≡ length x.off_chip
  pub written : bytes_from (wrote_at setup at x what).off_chip what.address (length what.bytes) ≡ what.bytes
  pub before : (i : ℕ) → i < what.address - 0x80000000 → slice_get (wrote_at setup at x what).off_chip i ≡ slice_get x.off_chip i
  pub inside : (i : ℕ) → i < length what.bytes → slice_get (wrote_at setup at x what).off_chip (what.address - 0x80000000 + i) ≡ slice_get what.bytes i
  pub beyond : (i : ℕ) → what.address - 0x80000000 + length what.bytes ≤ i → slice_get (wrote_at setup at x what).off_chip i ≡ slice_get x.off_chip i
  pub same : changes_off_chip x.off_chip what ≡ false → (wrote_at setup at x what).off_chip ≡ x.off_chip

abbrev pub WritesLeave : Type 0
WritesLeave = (setup : SetupParts) (at : ℕ) (x : Exposed) (what : Placed) → IsOffChip x.off_chip what.address (length what.bytes) → WriteLeaves setup at x what

-- what a keeping leaves: as many bytes as it says, which its answer names
pub record KeepLeaves (setup : SetupParts) (at : ℕ) (x : Exposed) (address count : ℕ) : Type 0 where
  pub size : length (bytes_from x.off_chip address count) ≡ count
  pub named : named_part (kept_at setup at x address count).history.bytes (Kept address (length x.history.bytes) count) ≡ bytes_from x.off_chip address count

abbrev pub KeepsLeave : Type 0
KeepsLeave = (setup : SetupParts) (at : ℕ) (x : Exposed) (address count : ℕ) → IsOffChip x.off_chip address count → KeepLeaves setup at x address count

-- each line of a setup that writes or keeps bytes has 1 to 4,096, off chip, which are those that it adds to the history
pub record LinesAreInside (setup : SetupParts) : Type 0 where
  pub writes : (at pa : ℕ) (bytes : List ℕ) → slice_get setup.attacker at ≡ Some (Write pa bytes)
      → IsInside setup.zones (record { address = pa; count = length bytes }) × (line_bytes setup at ≡ length bytes)
  pub keeps : (at pa len : ℕ) (name : List ℕ) → slice_get setup.attacker at ≡ Some (Keep name pa len)
      → IsInside setup.zones (record { address = pa; count = len }) × (line_bytes setup at ≡ len)
  pub backs : (at : ℕ) (name : List ℕ) → slice_get setup.attacker at ≡ Some (Back name)
      → (range : Range) × (kept_range name (lines_before setup at) ≡ Some range) × IsInside setup.zones range × (line_bytes setup at ≡ range.count)

abbrev pub SetupLinesAreInside : Type 0
SetupLinesAreInside = (setup : SetupParts) → IsSetup setup → LinesAreInside setup

-- a `back` whose `keep` is answered has bytes to write, of the range that was kept
abbrev pub BacksHaveBytes : Type 0
BacksHaveBytes = (setup : SetupParts) (h : HistoryData) (at : ℕ) (name : List ℕ) → IsSetup setup → slice_get setup.attacker at ≡ Some (Back name) → KeepIsAnswered setup h at name
    → (what : Placed) × (latest_kept setup h.bytes name h.entries ≡ Some what) × IsInside setup.zones (range_of what) × (line_bytes setup at ≡ length what.bytes)

-- in a legal history each `keep` before the attacker's next line is answered
abbrev pub LegalKeepsAreAnswered : Type 0
LegalKeepsAreAnswered = (setup : SetupParts) (h : HistoryData) (name : List ℕ) → Legal setup h.bytes h.entries
    → KeepIsAnswered setup h ((legal_state setup h.bytes h.entries).progress setup.harts).answered name

-- bytes that are added leave what the entries kept
abbrev pub MoreBytesLeaveKept : Type 0
MoreBytesLeaveKept = (setup : SetupParts) (bytes more name : List ℕ) (entries : List Entry) → All (NamesPart bytes) entries
    → latest_kept setup (bytes ++ more) name entries ≡ latest_kept setup bytes name entries
