-- What of a tree changes with one of its places.
use Rattle.std.specs.Prelude.{ℕ, ◌≡◌, ◌+◌, ◌*◌, ◌/◌, ◌%◌, ◌<◌, ◌≤◌, ◌==◌, ◌&&◌, Bool, false, List, [], ◌∷◌, length, slice_set, if◌then◌else◌}
use Rattle.pl_base.specs.declared.place.Place.{Place}
use Rattle.pl_base.specs.declared.place.Place.TheVariants.{Block, Node, RootNode}
use Rattle.pl_base.specs.Bytes.{with_bytes}
use Rattle.pl_digest.specs.Nodes.{with_entry}
use Rattle.pl_digest.specs.Trees.{piece, block_digests, lower_nodes, upper_node, zone_root, table_root}
use Rattle.mem_geom.specs.Layout.{nodes_of_level, root_nodes_of_level}
use Rattle.mem_geom.specs.Tree.{entry_number}
use Rattle.mem_tree.specs.Paths.{same_place}
use Rattle.mem_tree.specs.Trees.{AreEntries, IsZone, nth, table_bytes, zone_bytes}

-- a place, with its bytes
pub record PlaceBytes : Type 0 where
  pub place : Place
  pub bytes : List ℕ

abbrev pub at_place : Place → List ℕ → PlaceBytes
at_place place bytes = record { place = place; bytes = bytes }

-- the bytes of a place after some were written, a later one over an earlier one
abbrev pub bytes_after : List PlaceBytes → Place → List ℕ → List ℕ
bytes_after [] place bytes = bytes
bytes_after (written ∷ rest) place bytes = bytes_after rest place (if same_place written.place place then written.bytes else bytes)

-- the nodes over a block, and those over a page, each with those above it
abbrev pub above_block : ℕ → ℕ → List Place
above_block page block =
    Node 1 (page / 64) (8 * (page % 64) + block / 8) ∷ Node 2 (page / 64) (page % 64) ∷ Node 3 (page / 64) (page % 64 / 8) ∷ Node 4 (page / 64) 0 ∷ []

abbrev pub above_page : ℕ → List Place
above_page page = Node 3 (page / 64) (page % 64 / 8) ∷ Node 4 (page / 64) 0 ∷ []

-- the pages with other bytes in a block of one of them
abbrev pub with_page_part : List (List ℕ) → ℕ → ℕ → List ℕ → List (List ℕ)
with_page_part pages page at bytes = slice_set pages page (with_bytes (nth pages page) at bytes)

module _ (digest_of : List ℕ → List ℕ) where
  -- a place with other bytes, and the places above it, from below: each gets the digest of what is new below it
  abbrev pub renewed : (Place → List ℕ) → Place → List ℕ → List Place → List PlaceBytes
  renewed old place bytes [] = at_place place bytes ∷ []
  renewed old place bytes (above ∷ rest) = at_place place bytes ∷ renewed old above (with_entry (entry_number place) (digest_of bytes) (old above)) rest

  -- the root over them
  abbrev pub renewed_root : (Place → List ℕ) → Place → List ℕ → List Place → List ℕ
  renewed_root old place bytes [] = digest_of bytes
  renewed_root old place bytes (above ∷ rest) = renewed_root old above (with_entry (entry_number place) (digest_of bytes) (old above)) rest

-- the place is one of a zone's blocks or nodes
abbrev pub IsOfZone : ℕ → Place → Type 0
IsOfZone zone (Block page block) = (page / 64 ≡ zone) × (block < 64)
IsOfZone zone (Node level other index) = (other ≡ zone) × (index < nodes_of_level level)
IsOfZone zone (RootNode level index) = ⊥

-- it is one of a page's blocks, or a node of level 1 over them
abbrev pub is_under : ℕ → Place → Bool
is_under page (Block other block) = other == page
is_under page (Node level zone index) = (level == 1) && (index / 8 == page % 64)
is_under page (RootNode level index) = false

module _ (digest_of : List ℕ → List ℕ) where
  -- a part of a block is written: the places of its path and the root are renewed, and no other place of the zone changes
  pub record BlockChanges (pages : List (List ℕ)) (page block at : ℕ) (bytes : List ℕ) : Type 0 where
    pub places : (place : Place) → IsOfZone (page / 64) place
        → zone_bytes digest_of (with_page_part pages (page % 64) (64 * block + at) bytes) place
        ≡ bytes_after (renewed digest_of (zone_bytes digest_of pages) (Block page block) (with_bytes (zone_bytes digest_of pages (Block page block)) at bytes) (above_block page block)) place (zone_bytes digest_of pages place)
    pub root : zone_root digest_of (with_page_part pages (page % 64) (64 * block + at) bytes)
        ≡ renewed_root digest_of (zone_bytes digest_of pages) (Block page block) (with_bytes (zone_bytes digest_of pages (Block page block)) at bytes) (above_block page block)

  -- a page is replaced: its blocks and the nodes over them are those of the new page; its node of level 2 is the new page's,
  -- one entry of level 3, one of level 4 and the root are renewed; and no other place of the zone changes
  pub record PageChanges (pages : List (List ℕ)) (page : ℕ) (new : List ℕ) : Type 0 where
    pub blocks : (block : ℕ) → zone_bytes digest_of (slice_set pages (page % 64) new) (Block page block) ≡ piece 64 block new
    pub level1 : (k : ℕ) → k < 8 → zone_bytes digest_of (slice_set pages (page % 64) new) (Node 1 (page / 64) (8 * (page % 64) + k)) ≡ nth (lower_nodes (block_digests digest_of new)) k
    pub others : (place : Place) → IsOfZone (page / 64) place → is_under page place ≡ false
        → zone_bytes digest_of (slice_set pages (page % 64) new) place
        ≡ bytes_after (renewed digest_of (zone_bytes digest_of pages) (Node 2 (page / 64) (page % 64)) (upper_node digest_of (block_digests digest_of new)) (above_page page)) place (zone_bytes digest_of pages place)
    pub root : zone_root digest_of (slice_set pages (page % 64) new)
        ≡ renewed_root digest_of (zone_bytes digest_of pages) (Node 2 (page / 64) (page % 64)) (upper_node digest_of (block_digests digest_of new)) (above_page page)

  -- an entry of the root table is replaced: its node, the top node and the root are renewed, and no other node changes
  pub record EntryChanges (entries : List (List ℕ)) (zone : ℕ) (new : List ℕ) : Type 0 where
    pub nodes : (level index : ℕ) → index < root_nodes_of_level level
        → table_bytes digest_of (slice_set entries zone new) (RootNode level index)
        ≡ bytes_after (renewed digest_of (table_bytes digest_of entries) (RootNode 1 (zone / 8)) (with_entry (zone % 8) new (table_bytes digest_of entries (RootNode 1 (zone / 8)))) (RootNode 2 0 ∷ []))
        (RootNode level index) (table_bytes digest_of entries (RootNode level index))
    pub root : table_root digest_of (slice_set entries zone new)
        ≡ renewed_root digest_of (table_bytes digest_of entries) (RootNode 1 (zone / 8)) (with_entry (zone % 8) new (table_bytes digest_of entries (RootNode 1 (zone / 8)))) (RootNode 2 0 ∷ [])

  -- what of the trees changes with a part of a block, with a page, and with an entry of the root table
  pub record TreesChange : Type 0 where
    pub blocks : (pages : List (List ℕ)) (page block at : ℕ) (bytes : List ℕ) → IsZone pages → block < 64 → at + length bytes ≤ 64 → BlockChanges pages page block at bytes
    pub pages : (pages : List (List ℕ)) (page : ℕ) (new : List ℕ) → IsZone pages → PageChanges pages page new
    pub entries : (entries : List (List ℕ)) (zone : ℕ) (root : List ℕ) → AreEntries entries → zone < 64 → length root ≡ 32 → EntryChanges entries zone root
