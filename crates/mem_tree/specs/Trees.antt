-- The bytes of each place in the tree over a zone's pages, and over the entries of the root table.
use Rattle.std.specs.Prelude.{ℕ, ◌≡◌, ◌/◌, ◌%◌, ◌<◌, ◌==◌, List, [], None, length, All, slice_index_or, if◌then◌else◌}
use Rattle.pl_base.specs.declared.place.Place.{Place}
use Rattle.pl_base.specs.declared.place.Place.TheVariants.{Block, Node, RootNode}
use Rattle.pl_digest.specs.Trees.{piece, lower_nodes, upper_node, block_digests, page_roots, zone_root, table_root}
use Rattle.mem_geom.specs.PathPlaces.{page_places, replaced_places, root_places, word_places}
use Rattle.mem_tree.specs.Checks.{IsTopDown}
use Rattle.mem_tree.specs.Paths.{first_break, path_of}

-- a digest has 32 bytes
abbrev pub HasDigests : (List ℕ → List ℕ) → Type 0
HasDigests digest_of = (message : List ℕ) → length (digest_of message) ≡ 32

-- 64 pages of 4,096 bytes
pub record IsZone (pages : List (List ℕ)) : Type 0 where
  pub count : length pages ≡ 64
  pub sizes : All (λ page. length page ≡ 4096) pages

-- 64 digests
pub record AreEntries (entries : List (List ℕ)) : Type 0 where
  pub count : length entries ≡ 64
  pub sizes : All (λ entry. length entry ≡ 32) entries

-- the k-th of a list of pages, nodes or digests
abbrev pub nth : List (List ℕ) → ℕ → List ℕ
nth all k = slice_index_or all k []

module _ (digest_of : List ℕ → List ℕ) where
  -- a node of the tree over a zone's pages
  abbrev pub zone_node : List (List ℕ) → ℕ → ℕ → List ℕ
  zone_node pages level index =
      if level == 1 then nth (lower_nodes (block_digests digest_of (nth pages (index / 8)))) (index % 8)
      else (if level == 2 then upper_node digest_of (block_digests digest_of (nth pages index))
      else (if level == 3 then nth (lower_nodes (page_roots digest_of pages)) index
      else upper_node digest_of (page_roots digest_of pages)))

  -- the blocks and nodes of a zone with these pages
  abbrev pub zone_bytes : List (List ℕ) → Place → List ℕ
  zone_bytes pages (Block page block) = piece 64 block (nth pages (page % 64))
  zone_bytes pages (Node level zone index) = zone_node pages level index
  zone_bytes pages (RootNode level index) = []

  -- the nodes of the root table with these entries
  abbrev pub table_bytes : List (List ℕ) → Place → List ℕ
  table_bytes entries (Block page block) = []
  table_bytes entries (Node level zone index) = []
  table_bytes entries (RootNode level index) = if level == 1 then nth (lower_nodes entries) index else upper_node digest_of entries

  -- the bytes of each place, where these are the pages of each zone and the entries of the root table
  abbrev pub tree_bytes : (ℕ → List (List ℕ)) → List (List ℕ) → Place → List ℕ
  tree_bytes pages_of entries (Block page block) = zone_bytes (pages_of (page / 64)) (Block page block)
  tree_bytes pages_of entries (Node level zone index) = zone_bytes (pages_of zone) (Node level zone index)
  tree_bytes pages_of entries (RootNode level index) = table_bytes entries (RootNode level index)

-- the four kinds of path go from the top down
pub record PathsAreTopDown : Type 0 where
  pub words : (page block : ℕ) → block < 64 → IsTopDown (word_places page block)
  pub pages : (page : ℕ) → IsTopDown (page_places page)
  pub replaced : (page : ℕ) → IsTopDown (replaced_places page)
  pub roots : (zone : ℕ) → zone < 64 → IsTopDown (root_places zone)

-- each holds in its tree
pub record PathsHold (digest_of : List ℕ → List ℕ) : Type 0 where
  pub words : (pages : List (List ℕ)) (page block : ℕ) → IsZone pages → block < 64
      → first_break digest_of (path_of (zone_root digest_of pages) (word_places page block) (zone_bytes digest_of pages)) ≡ None
  pub pages : (pages : List (List ℕ)) (page : ℕ) → IsZone pages
      → first_break digest_of (path_of (zone_root digest_of pages) (page_places page) (zone_bytes digest_of pages)) ≡ None
  pub replaced : (pages : List (List ℕ)) (page : ℕ) → IsZone pages
      → first_break digest_of (path_of (zone_root digest_of pages) (replaced_places page) (zone_bytes digest_of pages)) ≡ None
  pub roots : (entries : List (List ℕ)) (zone : ℕ) → AreEntries entries → zone < 64
      → first_break digest_of (path_of (table_root digest_of entries) (root_places zone) (table_bytes digest_of entries)) ≡ None

-- the tree's bytes at the places of a path are those of its zone, or of the root table; so a path that holds in its zone holds in the tree
pub record PathsAreOfTree (digest_of : List ℕ → List ℕ) (pages_of : ℕ → List (List ℕ)) (entries : List (List ℕ)) : Type 0 where
  pub words : (page block : ℕ) → All (λ place. tree_bytes digest_of pages_of entries place ≡ zone_bytes digest_of (pages_of (page / 64)) place) (word_places page block)
  pub pages : (page : ℕ) → All (λ place. tree_bytes digest_of pages_of entries place ≡ zone_bytes digest_of (pages_of (page / 64)) place) (page_places page)
  pub replaced : (page : ℕ) → All (λ place. tree_bytes digest_of pages_of entries place ≡ zone_bytes digest_of (pages_of (page / 64)) place) (replaced_places page)
  pub roots : (zone : ℕ) → All (λ place. tree_bytes digest_of pages_of entries place ≡ table_bytes digest_of entries place) (root_places zone)
