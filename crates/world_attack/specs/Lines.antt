-- The attacker's lines: those before one, what a line needs, and when it can be done.
use Rattle.std.specs.Prelude.{◌≡◌, ℕ, ◌+◌, ◌<◌, ◌≤◌, Bool, true, false, if◌then◌else◌, List, [], ◌∷◌, length, take, reverse, Option, Some, None, option_map, slice_get}
use Rattle.std.specs.Option.{option_map_or}
use Rattle.std.specs.Str.{bytes_eq}
use Rattle.mem_geom.specs.Layout.{memory_end}
use Rattle.pl_history.specs.declared.line.AttackLine.{AttackLine}
use Rattle.pl_history.specs.declared.line.AttackLine.TheVariants.{Write, Keep, Back, After}
use Rattle.pl_history.specs.declared.setup.SetupParts.{SetupParts}
use Rattle.pl_history.specs.Attacking.{Placed, latest_kept}
use Rattle.pl_history.specs.History.{HistoryData}
use Rattle.pl_history.specs.Rules.{attack_length}

-- the attacker's lines before a position, from the latest back
abbrev pub lines_before : SetupParts → ℕ → List AttackLine
lines_before setup at = reverse (take at setup.attacker)

-- how many bytes the line at a position adds to the history
abbrev pub line_bytes : SetupParts → ℕ → ℕ
line_bytes setup at = option_map_or (attack_length (lines_before setup at)) (slice_get setup.attacker at) 0

-- a line that does something off chip
abbrev pub is_attack : Option AttackLine → Bool
is_attack None = false
is_attack (Some (Write pa bytes)) = true
is_attack (Some (Keep name pa len)) = true
is_attack (Some (Back name)) = true
is_attack (Some (After actor count)) = false

-- ---- the `keep` that a `back` names

-- so many bytes, from an address on
pub record Range : Type 0 where
  pub address : ℕ
  pub count : ℕ

abbrev pub range_of : Placed → Range
range_of what = record { address = what.address; count = length what.bytes }

-- the range that the latest line kept under this name, of lines from the latest back
abbrev pub kept_range : List ℕ → List AttackLine → Option Range
kept_range name [] = None
kept_range name (Keep other pa len ∷ earlier) = if bytes_eq other name then Some (record { address = pa; count = len }) else kept_range name earlier
kept_range name (other ∷ earlier) = kept_range name earlier

-- what the history has as kept under a name is what the latest line before a position keeps under it
abbrev pub KeepIsAnswered : SetupParts → HistoryData → ℕ → List ℕ → Type 0
KeepIsAnswered setup h at name = option_map range_of (latest_kept setup h.bytes name h.entries) ≡ kept_range name (lines_before setup at)

-- where the line at a position is `back`, the `keep` that it names is answered
abbrev pub KeepsAnsweredFor : SetupParts → HistoryData → ℕ → Type 0
KeepsAnsweredFor setup h at = (name : List ℕ) → slice_get setup.attacker at ≡ Some (Back name) → KeepIsAnswered setup h at name

-- ---- ranges off chip

-- 1 to 4,096 bytes, each off chip
pub record IsInside (zones : ℕ) (range : Range) : Type 0 where
  pub from : 0x80000000 ≤ range.address
  pub to : range.address + range.count ≤ memory_end zones
  pub some : 0 < range.count
  pub few : range.count ≤ 4096
