-- What the rule of a controller says of its root table, and what it hangs on.
use Rattle.std.specs.Prelude.{ℕ, ◌≡◌, ◌+◌, ◌/◌, ◌<◌, ◌≤◌, ◌⊎◌, true, List, length, map, slice_get}
use Rattle.std.specs.List.{range_with_len}
use Rattle.pl_base.specs.declared.place.Place.{Place}
use Rattle.pl_base.specs.declared.place.Place.TheVariants.{RootNode}
use Rattle.pl_base.specs.Bytes.{with_bytes}
use Rattle.pl_digest.specs.Trees.{table_root}
use Rattle.mem_geom.specs.Layout.{Exists, place_bytes}
use Rattle.mem_geom.specs.PathPlaces.{root_places}
use Rattle.mem_roots.specs.Roots.{root_break}
use Rattle.mem_tree.specs.Paths.{first_break, path_of}
use Rattle.mem_tree.specs.Trees.{AreEntries, table_bytes}
use Rattle.mem_ctl.specs.Access.{HasOtherByte, Leaves}
use Rattle.mem_ctl.specs.Data.{CtlData, with_off_chip}
use Rattle.mem_ctl.specs.Mounting.{written}
use Rattle.mem_ctl.specs.Results.{is_of_zone}
use Rattle.mem_ctl.specs.TreesHold.{IsKept, root_entry}
use Rattle.mem_ctl.specs.WrittenPages.{KeepsZones}

-- the 64 entries of the root table in a memory
unfoldable pub root_entries : ℕ → List ℕ → List (List ℕ)
root_entries zones memory = map (root_entry zones memory) (range_with_len 0 64)

module _ (digest_of : List ℕ → List ℕ) where
  -- the mirror's root table is the tree over its entries, and the root on chip is its root
  pub record TableHolds (x : CtlData) : Type 0 where
    pub entries : AreEntries (root_entries x.zones x.mirror)
    pub nodes : (level index : ℕ) → Exists x.zones (RootNode level index) → written x (RootNode level index) ≡ table_bytes digest_of (root_entries x.zones x.mirror) (RootNode level index)
    pub root_is : x.root ≡ table_root digest_of (root_entries x.zones x.mirror)

  -- bytes are written off chip alone, from an index on: the trees hold, these bytes stand there, and all others as before
  pub record IsWrittenRaw (x : CtlData) (from : ℕ) (bytes : List ℕ) (new : CtlData) : Type 0 where
    pub kept : IsKept digest_of new
    pub inside : (index : ℕ) → index < length bytes → slice_get new.off_chip (from + index) ≡ slice_get bytes index
    pub outside : (index : ℕ) → (index < from) ⊎ (from + length bytes ≤ index) → slice_get new.off_chip index ≡ slice_get x.off_chip index

  pub record TreesAreKept : Type 0 where
    pub tables : (x : CtlData) → IsKept digest_of x → TableHolds x
    -- the check of a zone's root is the first break of the path of a mounting or an eviction
    pub roots : (root : List ℕ) (zone : ℕ) (bytes : Place → List ℕ) → first_break digest_of (path_of root (root_places zone) bytes) ≡ root_break digest_of (bytes (RootNode 2 0)) (bytes (RootNode 1 (zone / 8))) zone root
    -- the rule hangs on no byte off chip, only on how many there are
    pub off_chip : (x : CtlData) (bytes : List ℕ) → IsKept digest_of x → length bytes ≡ length x.off_chip → IsKept digest_of (with_off_chip x bytes)
    pub raw_writes : (x : CtlData) (from : ℕ) (bytes : List ℕ) → IsKept digest_of x → from + length bytes ≤ length x.off_chip → IsWrittenRaw x from bytes (with_off_chip x (with_bytes x.off_chip from bytes))
    -- where all below the root table stays, so does each block and node of a zone
    pub zone_places : (zones : ℕ) (old new : List ℕ) (place : Place) → KeepsZones zones old new → Exists zones place → is_of_zone place ≡ true → place_bytes zones new place ≡ place_bytes zones old place
    -- a byte that is another after a call than was written was so before it
    pub other_before : (old new : CtlData) (place : Place) → Leaves digest_of old new → HasOtherByte new place → HasOtherByte old place
