-- What holds of the layout as a whole.
use Rattle.std.specs.Prelude.{◌≡◌, ◌≢◌, ℕ, ◌+◌, ◌-◌, ◌*◌, ◌/◌, ◌%◌, ◌<◌, ◌≤◌, ◌⊎◌, true, false, List, [], ◌∷◌, ◌++◌, length, map}
use Rattle.std.specs.List.{range_with_len}
use Rattle.pl_base.specs.declared.place.Place.{Place}
use Rattle.pl_base.specs.declared.place.Place.TheVariants.{Block, Node}
use Rattle.pl_base.specs.Bytes.{bytes_at, with_bytes}
use Rattle.mem_geom.specs.Layout.{Exists, place_start, place_end, place_length, place_bytes, nodes_start, memory_end, memory_size}
use Rattle.mem_geom.specs.Parts.{page_bytes, level1_bytes}
use Rattle.mem_geom.specs.Ranges.{overlaps_place}

-- one of the two ends before the other begins
abbrev pub AreApart : ℕ → Place → Place → Type 0
AreApart zones p q = (place_end zones p ≤ place_start zones q) ⊎ (place_end zones q ≤ place_start zones p)

-- two places that exist are one place or stand apart
abbrev pub RangesAreApart : Type 0
RangesAreApart = (zones : ℕ) (p q : Place) → Exists zones p → Exists zones q → (p ≡ q) ⊎ AreApart zones p q

-- the byte at an address belongs to a place that exists
pub record HasByte (zones : ℕ) (place : Place) (address : ℕ) : Type 0 where
  pub exists : Exists zones place
  pub from : place_start zones place ≤ address
  pub to : address < place_end zones place

-- each byte of off-chip memory belongs to exactly one place, and no other byte to any
pub record BytesHaveOnePlace : Type 0 where
  pub some : (zones address : ℕ) → 0x80000000 ≤ address → address < memory_end zones → (place : Place) × HasByte zones place address
  pub one : (zones address : ℕ) (p q : Place) → HasByte zones p address → HasByte zones q address → p ≡ q
  pub inside : (zones : ℕ) (place : Place) → Exists zones place → (0x80000000 ≤ place_start zones place) × (place_end zones place ≤ memory_end zones)

-- the places stand one after another without a gap, from one address to another
abbrev pub StandInARow : ℕ → ℕ → List Place → ℕ → Type 0
StandInARow zones from [] to = from ≡ to
StandInARow zones from (place ∷ places) to = (place_start zones place ≡ from) × StandInARow zones (place_end zones place) places to

-- the first count nodes of a level of a zone
unfoldable pub level_nodes : ℕ → ℕ → ℕ → List Place
level_nodes zone level count = map (Node level zone) (range_with_len 0 count)

-- all nodes of a zone, level by level from below
abbrev pub zone_nodes : ℕ → List Place
zone_nodes zone = level_nodes zone 1 512 ++ level_nodes zone 2 64 ++ level_nodes zone 3 8 ++ level_nodes zone 4 1

-- the nodes of a zone stand one after another, and then those of the next zone, or the root table
abbrev pub NodesFollowOneAnother : Type 0
NodesFollowOneAnother = (zones zone : ℕ) → StandInARow zones (nodes_start zones zone) (zone_nodes zone) (nodes_start zones (zone + 1))

-- other bytes at a place are that place's bytes from then on, and no other place's bytes change
pub record ChangesOnePlace (zones : ℕ) (place : Place) (old : List ℕ) (bytes new : List ℕ) : Type 0 where
  pub length : length new ≡ length old
  pub changed : place_bytes zones new place ≡ bytes
  pub others : (other : Place) → Exists zones other → other ≢ place → place_bytes zones new other ≡ place_bytes zones old other

abbrev pub WritesChangeOnePlace : Type 0
WritesChangeOnePlace = (zones : ℕ) (place : Place) (memory bytes : List ℕ) → Exists zones place → length memory ≡ memory_size zones
    → length bytes ≡ place_length place
    → ChangesOnePlace zones place memory bytes (with_bytes memory (place_start zones place - 0x80000000) bytes)

-- bytes written over any range: bytes and places outside it stay, and a place whose bytes changed meets it
pub record ChangesRange (zones address : ℕ) (old bytes new : List ℕ) : Type 0 where
  pub size : length new ≡ length old
  pub changed : bytes_at new (address - 0x80000000) (length bytes) ≡ bytes
  pub before : (from count : ℕ) → from + count ≤ address - 0x80000000 → bytes_at new from count ≡ bytes_at old from count
  pub after : (from count : ℕ) → address - 0x80000000 + length bytes ≤ from → bytes_at new from count ≡ bytes_at old from count
  pub others : (place : Place) → Exists zones place → overlaps_place zones address (length bytes) place ≡ false → place_bytes zones new place ≡ place_bytes zones old place
  pub met : (place : Place) → Exists zones place → place_bytes zones new place ≢ place_bytes zones old place → overlaps_place zones address (length bytes) place ≡ true

abbrev pub WritesChangeRange : Type 0
WritesChangeRange = (zones address : ℕ) (memory bytes : List ℕ) → length memory ≡ memory_size zones → 0x80000000 ≤ address → address + length bytes ≤ memory_end zones
    → ChangesRange zones address memory bytes (with_bytes memory (address - 0x80000000) bytes)

-- a block is 64 bytes of its page, and the eight nodes over a page's blocks are pieces of one list
pub record PartsArePlaces : Type 0 where
  pub blocks : (zones page block : ℕ) (memory : List ℕ) → block < 64 → place_bytes zones memory (Block page block) ≡ bytes_at (page_bytes memory page) (64 * block) 64
  pub level1 : (zones page k : ℕ) (memory : List ℕ) → k < 8
      → place_bytes zones memory (Node 1 (page / 64) (8 * (page % 64) + k)) ≡ bytes_at (level1_bytes zones memory page) (256 * k) 256
