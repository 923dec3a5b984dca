-- The trees hold: what the controller keeps of the mirror, the slots and the root on chip.
use Rattle.std.specs.Prelude.{ℕ, ◌≡◌, ◌/◌, ◌%◌, ◌<◌, ◌≤◌, ◌==◌, false, List, length, All, AllPairs}
use Rattle.pl_base.specs.declared.place.Place.TheVariants.{Node, RootNode}
use Rattle.pl_digest.specs.Nodes.{entry}
use Rattle.pl_digest.specs.Trees.{zone_root}
use Rattle.mem_geom.specs.Layout.{Exists, memory_size, place_bytes}
use Rattle.mem_slots.specs.declared.slot_use.SlotUse.{SlotUse}
use Rattle.mem_slots.specs.Slots.{Slot, is_mounted}
use Rattle.mem_tree.specs.Trees.{zone_bytes}
use Rattle.mem_ctl.specs.Data.{CtlData}
use Rattle.mem_ctl.specs.Writes.{zone_pages}

-- the zone's entry in the root table
abbrev pub root_entry : ℕ → List ℕ → ℕ → List ℕ
root_entry zones memory zone = entry (zone % 8) (place_bytes zones memory (RootNode 1 (zone / 8)))

-- both memories have the bytes of all zones
pub record HasSizes (zones : ℕ) (off_chip mirror : List ℕ) : Type 0 where
  pub few : zones ≤ 64
  pub off_chip_size : length off_chip ≡ memory_size zones
  pub mirror_size : length mirror ≡ memory_size zones

-- two slots are of two zones
abbrev pub AreOfTwoZones : Slot → Slot → Type 0
AreOfTwoZones s t = (s.zone == t.zone) ≡ false

-- so are two uses
abbrev pub AreUsesOfTwoZones : SlotUse → SlotUse → Type 0
AreUsesOfTwoZones s t = (s.zone == t.zone) ≡ false

-- at most so many zones are mounted, each is there, none twice
pub record SlotsFit (zones slots : ℕ) (mounted : List Slot) : Type 0 where
  pub most : length mounted ≤ slots
  pub apart : AllPairs AreOfTwoZones mounted
  pub there : All (λ (s : Slot). s.zone < zones) mounted

module _ (digest_of : List ℕ → List ℕ) where
  -- each node of the mirror is that of the tree over its zone's pages
  abbrev pub NodesHold : ℕ → List ℕ → Type 0
  NodesHold zones mirror = (level zone index : ℕ) → Exists zones (Node level zone index)
      → place_bytes zones mirror (Node level zone index) ≡ zone_bytes digest_of (zone_pages mirror zone) (Node level zone index)

  -- a mounted zone's root stands in its slot
  abbrev pub SlotsHold : List ℕ → List Slot → Type 0
  SlotsHold mirror mounted = All (λ (s : Slot). s.root ≡ zone_root digest_of (zone_pages mirror s.zone)) mounted

  -- any other zone's root stands in the root table
  abbrev pub EntriesHold : ℕ → List ℕ → List Slot → Type 0
  EntriesHold zones mirror mounted = (zone : ℕ) → zone < zones → is_mounted mounted zone ≡ false → root_entry zones mirror zone ≡ zone_root digest_of (zone_pages mirror zone)

  -- the top node has the digests of the eight below it, and the root on chip is its own
  abbrev pub TopHolds : ℕ → List ℕ → Type 0
  TopHolds zones mirror = (k : ℕ) → k < 8 → entry k (place_bytes zones mirror (RootNode 2 0)) ≡ digest_of (place_bytes zones mirror (RootNode 1 k))

  abbrev pub RootHolds : ℕ → List ℕ → List ℕ → Type 0
  RootHolds zones mirror root = root ≡ digest_of (place_bytes zones mirror (RootNode 2 0))

  pub record TreesHold (x : CtlData) : Type 0 where
    pub sizes : HasSizes x.zones x.off_chip x.mirror
    pub fit : SlotsFit x.zones x.slots x.mounted
    pub nodes : NodesHold x.zones x.mirror
    pub slots_hold : SlotsHold x.mirror x.mounted
    pub entries : EntriesHold x.zones x.mirror x.mounted
    pub top : TopHolds x.zones x.mirror
    pub chip : RootHolds x.zones x.mirror x.root

  -- the trees hold, and there are 1 to 64 slots
  pub record IsKept (x : CtlData) : Type 0 where
    pub trees : TreesHold x
    pub some : 1 ≤ x.slots
    pub few : x.slots ≤ 64
