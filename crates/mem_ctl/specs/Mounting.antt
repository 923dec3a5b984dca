-- Which zones are mounted: an access mounts its zone, and evicts another where all slots are full.
use Rattle.std.specs.Prelude.{ℕ, ◌/◌, ◌%◌, List, ◌∷◌, [], ◌++◌, length, map, slice_index_or, drop, if◌then◌else◌, nat_lt, remove}
use Rattle.pl_base.specs.declared.place.Place.{Place}
use Rattle.pl_base.specs.declared.place.Place.TheVariants.{RootNode}
use Rattle.pl_digest.specs.Nodes.{entry, with_entry}
use Rattle.mem_geom.specs.Layout.{place_bytes}
use Rattle.mem_geom.specs.PathPlaces.{root_places}
use Rattle.mem_slots.specs.Slots.{Slot, is_mounted, slot, slot_at, use_of, used_slot}
use Rattle.mem_tree.specs.Changes.{PlaceBytes, renewed, renewed_root}
use Rattle.mem_tree.specs.Checks.{Checked, check}
use Rattle.mem_tree.specs.Paths.{path_of}
use Rattle.mem_ctl.specs.Data.{CtlData, Going, After, answer, and_then, if_holds}
use Rattle.mem_ctl.specs.Writes.{with_places}

-- the bytes of each place off chip
abbrev pub taken : CtlData → Place → List ℕ
taken x = place_bytes x.zones x.off_chip

-- and as they were last written
abbrev pub written : CtlData → Place → List ℕ
written x = place_bytes x.zones x.mirror

-- other bytes at some places, off chip and in the mirror alike
abbrev pub put : CtlData → List PlaceBytes → CtlData
put x places = record x { off_chip = with_places x.zones x.off_chip places; mirror = with_places x.zones x.mirror places }

-- one use more of a zone
abbrev pub used : CtlData → ℕ → CtlData
used x zone = record x { mounted = map (used_slot zone) x.mounted }

abbrev pub count_use : ℕ → Going → Going
count_use zone g = record g { ctl = used g.ctl zone }

-- an eviction takes the next position, whether or not it is then refused; one that isn't in the list stands for the first
abbrev pub position_of : Going → ℕ
position_of g = if nat_lt (slice_index_or g.left 0 0) (length g.ctl.mounted) then slice_index_or g.left 0 0 else 0

abbrev pub asked : Going → Going
asked g = record g { left = drop 1 g.left; shown = g.shown ++ map use_of g.ctl.mounted ∷ [] }

-- the zone's entry in the root table is its root, and its slot is the last
unfoldable pub mounted_last : CtlData → ℕ → CtlData
mounted_last x zone = record x { mounted = x.mounted ++ slot zone 0 (entry (zone % 8) (taken x (RootNode 1 (zone / 8)))) ∷ [] }

module _ (digest_of : List ℕ → List ℕ) where
  -- the check of the root table's nodes over a zone
  abbrev pub root_check : CtlData → ℕ → Checked
  root_check x zone = check digest_of (path_of x.root (root_places zone) (taken x)) (written x)

  -- the node with the zone's root
  abbrev pub node_with : CtlData → Slot → List ℕ
  node_with x s = with_entry (s.zone % 8) s.root (taken x (RootNode 1 (s.zone / 8)))

  -- the root is written back into the root table, and the root on chip follows
  unfoldable pub written_back : CtlData → Slot → CtlData
  written_back x s =
      record (put x (renewed digest_of (taken x) (RootNode 1 (s.zone / 8)) (node_with x s) (RootNode 2 0 ∷ [])))
      { root = renewed_root digest_of (taken x) (RootNode 1 (s.zone / 8)) (node_with x s) (RootNode 2 0 ∷ []) }

  -- and the slot is free
  unfoldable pub evicted_at : CtlData → ℕ → CtlData
  evicted_at x position = record (written_back x (slot_at x.mounted position)) { mounted = remove x.mounted position }

  -- the zone at the next position is evicted, where the root table's nodes over it hold
  unfoldable pub evicted : Going → After (Unit {0})
  evicted g =
      if_holds (root_check g.ctl (slot_at g.ctl.mounted (position_of g)).zone) (asked g)
      (answer tt (record (asked g) { ctl = evicted_at g.ctl (position_of g) }))

  -- a zone is mounted, where the root table's nodes over it hold
  unfoldable pub mounted_anew : ℕ → Going → After (Unit {0})
  mounted_anew zone g = if_holds (root_check g.ctl zone) g (answer tt (record g { ctl = mounted_last g.ctl zone }))

  -- the zone is mounted already, or is mounted now
  unfoldable pub mounted_for : ℕ → Going → After (Unit {0})
  mounted_for zone g =
      if is_mounted g.ctl.mounted zone then answer tt g
      else (if nat_lt (length g.ctl.mounted) g.ctl.slots then mounted_anew zone g
      else and_then (evicted g) (λ _ h. mounted_anew zone h))
