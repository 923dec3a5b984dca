-- Off-chip memory as the pages, the nodes over them and the root table: each place is that of the tree, and the trees hold.
use Rattle.std.proofs.Common.{◌≡◌, ℕ, ◌+◌, ◌-◌, ◌*◌, ◌/◌, ◌%◌, ◌<◌, ◌≤◌, List, [], ◌++◌, length, map, take, drop, get_or, replicate, refl, subst, sym, ap, ◌∙◌, arith, length-append, length-drop}
use Rattle.std.specs.List.{concat, range_with_len}
use Rattle.std.proofs.lemmas.List.{append_assoc, get_or-map, get_or_append_left, get_or_default, length-map, length-take-le, same_lists, take_all}
use Rattle.std.proofs.lemmas.List.Elements.{All-map, All-nil}
use Rattle.std.proofs.lemmas.List.FromFn.{get_or-map-range_with_len, get_or-range_with_len, length-map-range_with_len, length-range_with_len}
use Rattle.byteorder.specs.Endian.{little_bytes}
use Rattle.pl_base.specs.Bytes.{bytes_at, with_bytes}
use Rattle.pl_base.specs.ListedWords.{listed_word}
use Rattle.pl_base.specs.declared.place.Place.TheVariants.{Node, RootNode}
use Rattle.pl_digest.specs.Nodes.{entry, no_root, table_entries}
use Rattle.pl_digest.specs.Trees.{block_digests, blocks, lower_nodes, page_roots, piece, pieces, table_root, upper_node, zone_root}
use Rattle.pl_digest.proofs.PieceLemmas.{AllOfLength, get_or-pieces, length-concat, length-pieces}
use Rattle.mem_geom.specs.Layout.{memory_size, nodes_of_level, place_bytes, place_start}
use Rattle.mem_geom.specs.Parts.{page_bytes}
use Rattle.mem_geom.proofs.Parts.{bytes_at-bytes_at}
use Rattle.mem_slots.specs.Slots.{Slot, SlotList, list_of}
use Rattle.mem_tree.specs.Trees.{IsZone, nth, zone_bytes, zone_node}
use Rattle.mem_tree.proofs.DigestSteps.{digests_of_length, length-digests}
use Rattle.mem_tree.proofs.PageChanges.{by_level}
use Rattle.mem_tree.proofs.TreeNodes.{entry-lower_nodes, entry-upper_node, pieces-digests}
use Rattle.mem_tree.proofs.TreePaths.{page_roots_of_length}
use Rattle.mem_ctl.specs.Data.{ctl_data}
use Rattle.mem_ctl.specs.Start.{HasWords, level1_nodes, level2_nodes, start_data, start_page, start_zone, table_nodes, tree_memory, zone_entries, zone_nodes}
use Rattle.mem_ctl.specs.TreesHold.{IsKept, TreesHold}
use Rattle.mem_ctl.specs.Writes.{zone_pages}
use Rattle.mem_ctl.proofs.Joined.{bytes_at-left, bytes_at-right, concat-at, concat-pieces_of, map-range_same, with_bytes-last}
use Rattle.mem_ctl.proofs.PageWrites.{length-level2}
use Rattle.mem_ctl.proofs.StartNodes.{entries_of_length, length-entries, length-level1_nodes, length-level2_nodes, length-roots, length-zones, level1_of_length, level2_of_length, zones_of_length}
use Rattle.mem_ctl.proofs.StartWords.{zone-is}
use Rattle.mem_ctl.proofs.ZoneLemmas.{get_or-zone_pages, length-zone_pages, zone_pages-IsZone}

-- node number k of the nodes over 64 digests, one after another
lower-piece : (digests : List (List ℕ)) (k : ℕ) → AllOfLength 32 digests → k < 8 → bytes_at (concat digests) (256 * k) 256 ≡ nth (lower_nodes digests) k
lower-piece digests k sizes below = sym (get_or-pieces 256 8 (concat digests) k [] below) ∙ ap (λ (ps : List (List ℕ)). nth ps k) (pieces-digests digests sizes)

whole : (xs : List ℕ) (n : ℕ) → length xs ≡ n → bytes_at xs 0 n ≡ xs
whole xs n size = take_all n xs (omega arith)

-- ---- the nodes of a zone

module _ (d : List ℕ → List ℕ) (law : (m : List ℕ) → length (d m) ≡ 32) where
  pub length-upper : (digests : List (List ℕ)) → AllOfLength 32 digests → length (upper_node d digests) ≡ 256
  length-upper digests sizes =
      ap (λ (nodes : List (List ℕ)). length (concat (map d nodes))) (sym (pieces-digests digests sizes)) ∙ length-digests d law (pieces 256 8 (concat digests)) ∙ ap (λ (n : ℕ). 32 * n) (length-pieces 256 8 (concat digests))

  module _ (pages : List (List ℕ)) (zone : IsZone pages) where
    abbrev l1 : List ℕ
    l1 = level1_nodes d pages

    abbrev l2 : List ℕ
    l2 = level2_nodes d pages

    abbrev l3 : List ℕ
    l3 = concat (page_roots d pages)

    abbrev l4 : List ℕ
    l4 = upper_node d (page_roots d pages)

    size1 : length l1 ≡ 131072
    size1 = length-level1_nodes d law pages ∙ ap (λ (n : ℕ). 2048 * n) zone.count

    size2 : length (l1 ++ l2) ≡ 147456
    size2 = omega (arith, length-append l1 l2, size1, length-level2_nodes d law pages, zone.count)

    size3 : length (l1 ++ l2 ++ l3) ≡ 149504
    size3 = omega (arith, length-append (l1 ++ l2) l3, size2, length-roots d law pages, zone.count)

    inner1 : (i : ℕ) → i < 512 → bytes_at l1 (256 * i) 256 ≡ zone_node d pages 1 i
    unfolding level1_nodes
    inner1 i below =
        let f = λ (page : List ℕ). concat (block_digests d page) in
        concat-at 2048 (map f pages) (level1_of_length d law pages) (256 * i) (i / 8) (256 * (i % 8)) 256 (omega arith) (omega (arith, length-map pages f, zone.count)) (omega arith)
        ∙ ap (λ (xs : List ℕ). bytes_at xs (256 * (i % 8)) 256) (get_or-map f pages (i / 8) [] [] (omega (arith, zone.count)))
        ∙ lower-piece (block_digests d (nth pages (i / 8))) (i % 8) (digests_of_length d law (blocks (nth pages (i / 8)))) (omega arith)

    node1 : (i : ℕ) → i < 512 → bytes_at (zone_nodes d pages) (256 * i) 256 ≡ zone_node d pages 1 i
    unfolding zone_nodes
    node1 i below =
        bytes_at-left (l1 ++ l2 ++ l3) l4 (256 * i) 256 (omega (arith, size3)) ∙ bytes_at-left (l1 ++ l2) l3 (256 * i) 256 (omega (arith, size2)) ∙ bytes_at-left l1 l2 (256 * i) 256 (omega (arith, size1)) ∙ inner1 i below

    inner2 : (i : ℕ) → i < 64 → bytes_at l2 (256 * i) 256 ≡ zone_node d pages 2 i
    unfolding level2_nodes
    inner2 i below =
        let f = λ (page : List ℕ). upper_node d (block_digests d page) in
        concat-at 256 (map f pages) (level2_of_length d law pages) (256 * i) i 0 256 (omega arith) (omega (arith, length-map pages f, zone.count)) (omega arith)
        ∙ ap (λ (xs : List ℕ). bytes_at xs 0 256) (get_or-map f pages i [] [] (omega (arith, zone.count)))
        ∙ whole (upper_node d (block_digests d (nth pages i))) 256 (length-level2 d law (nth pages i))

    node2 : (i : ℕ) → i < 64 → bytes_at (zone_nodes d pages) (256 * (512 + i)) 256 ≡ zone_node d pages 2 i
    unfolding zone_nodes
    node2 i below =
        bytes_at-left (l1 ++ l2 ++ l3) l4 (256 * (512 + i)) 256 (omega (arith, size3)) ∙ bytes_at-left (l1 ++ l2) l3 (256 * (512 + i)) 256 (omega (arith, size2))
        ∙ bytes_at-right l1 l2 (256 * (512 + i)) (256 * i) 256 (omega (arith, size1)) ∙ inner2 i below

    node3 : (i : ℕ) → i < 8 → bytes_at (zone_nodes d pages) (256 * (576 + i)) 256 ≡ zone_node d pages 3 i
    unfolding zone_nodes
    node3 i below =
        bytes_at-left (l1 ++ l2 ++ l3) l4 (256 * (576 + i)) 256 (omega (arith, size3)) ∙ bytes_at-right (l1 ++ l2) l3 (256 * (576 + i)) (256 * i) 256 (omega (arith, size2))
        ∙ lower-piece (page_roots d pages) i (page_roots_of_length d law pages) below

    node4 : bytes_at (zone_nodes d pages) (256 * (584 + 0)) 256 ≡ zone_node d pages 4 0
    unfolding zone_nodes
    node4 = bytes_at-right (l1 ++ l2 ++ l3) l4 (256 * (584 + 0)) 0 256 (omega (arith, size3)) ∙ whole l4 256 (length-upper (page_roots d pages) (page_roots_of_length d law pages))

-- ---- the places of the memory

module _ (d : List ℕ → List ℕ) (law : (m : List ℕ) → length (d m) ≡ 32) (zones : ℕ) (few : zones ≤ 64) (pages_of : ℕ → List (List ℕ)) (are : (zone : ℕ) → zone < zones → IsZone (pages_of zone)) where
  abbrev zs : List ℕ
  zs = range_with_len 0 zones

  abbrev bytes_of : ℕ → List ℕ
  bytes_of zone = concat (pages_of zone)

  abbrev nodes_of : ℕ → List ℕ
  nodes_of zone = zone_nodes d (pages_of zone)

  abbrev entries : List (List ℕ)
  entries = zone_entries d zones pages_of

  abbrev all_pages : List ℕ
  all_pages = concat (map (λ zone. concat (pages_of zone)) (range_with_len 0 zones))

  abbrev all_nodes : List ℕ
  all_nodes = concat (map (λ zone. zone_nodes d (pages_of zone)) (range_with_len 0 zones))

  abbrev memory : List ℕ
  memory = tree_memory d zones pages_of

  there : (z k : ℕ) → k < zones → z ≡ get_or (range_with_len 0 zones) k z → IsZone (pages_of z)
  there z k below is = are z (omega (arith, get_or-range_with_len 0 zones k z below))

  bytes_of_length : AllOfLength 262144 (map (λ zone. concat (pages_of zone)) (range_with_len 0 zones))
  bytes_of_length =
      All-map (λ (xs : List ℕ). length xs ≡ 262144) bytes_of zs
      (λ k e h.
      let below : k < zones = omega (arith, length-range_with_len 0 zones) in
      let own : get_or zs k e < zones = omega (arith, get_or-range_with_len 0 zones k e below) in
      let zone = are (get_or zs k e) own in
      length-concat 4096 (pages_of (get_or zs k e)) zone.sizes ∙ ap (λ (n : ℕ). 4096 * n) zone.count)

  length-pages : length all_pages ≡ 262144 * zones
  length-pages = length-concat 262144 (map bytes_of zs) bytes_of_length ∙ ap (λ (n : ℕ). 262144 * n) (length-map-range_with_len bytes_of 0 zones)

  all : take zones zs ≡ zs
  all = take_all zones zs (omega (arith, length-range_with_len 0 zones))

  length-nodes : length all_nodes ≡ 149760 * zones
  length-nodes = ap (λ (ks : List ℕ). length (concat (map nodes_of ks))) (sym all) ∙ length-zones d law zones few pages_of are zones (omega arith)

  length-lower : length (concat entries) ≡ 2048
  length-lower = length-concat 32 entries (entries_of_length d law zones few pages_of are) ∙ ap (λ (n : ℕ). 32 * n) (length-entries d law zones few pages_of are)

  length-table : length (table_nodes d entries) ≡ 2304
  unfolding table_nodes
  length-table = omega (arith, length-append (concat entries) (upper_node d entries), length-lower, length-upper d law entries (entries_of_length d law zones few pages_of are))

  pub length-memory : length memory ≡ memory_size zones
  unfolding tree_memory
  length-memory = omega (arith, length-append (all_pages ++ all_nodes) (table_nodes d entries), length-append all_pages all_nodes, length-pages, length-nodes, length-table)

  -- a page
  pub page-at : (zone k : ℕ) → zone < zones → k < 64 → page_bytes memory (64 * zone + k) ≡ nth (pages_of zone) k
  unfolding tree_memory
  page-at zone k below small =
      let from : ℕ = 4096 * (64 * zone + k) in
      let is = are zone below in
      bytes_at-left (all_pages ++ all_nodes) (table_nodes d entries) from 4096 (omega (arith, length-append all_pages all_nodes, length-pages))
      ∙ bytes_at-left all_pages all_nodes from 4096 (omega (arith, length-pages))
      ∙ concat-at 262144 (map bytes_of zs) bytes_of_length from zone (4096 * k) 4096 (omega arith) (omega (arith, length-map-range_with_len bytes_of 0 zones)) (omega arith)
      ∙ ap (λ (xs : List ℕ). bytes_at xs (4096 * k) 4096) (get_or-map-range_with_len bytes_of 0 zones zone zone [] below (omega arith))
      ∙ concat-at 4096 (pages_of zone) is.sizes (4096 * k) k 0 4096 (omega arith) (omega (arith, is.count)) (omega arith)
      ∙ whole (nth (pages_of zone) k) 4096 (is.sizes k [] (omega (arith, is.count)))

  pub zone-at : (zone : ℕ) → zone < zones → zone_pages memory zone ≡ pages_of zone
  zone-at zone below =
      let is = are zone below in
      same_lists (zone_pages memory zone) (pages_of zone) (length-zone_pages memory zone ∙ sym is.count)
      (λ k e h.
      let small : k < 64 = omega (arith, length-zone_pages memory zone) in
      get_or-zone_pages memory zone k e small ∙ page-at zone k below small ∙ get_or_default (pages_of zone) k [] e (omega (arith, is.count)))

  -- a part of a zone's nodes
  part-at : (zone from off : ℕ) → zone < zones → from ≡ 262144 * zones + 149760 * zone + off → off + 256 ≤ 149760 → bytes_at memory from 256 ≡ bytes_at (zone_nodes d (pages_of zone)) off 256
  unfolding tree_memory
  part-at zone from off below is inside =
      bytes_at-left (all_pages ++ all_nodes) (table_nodes d entries) from 256 (omega (arith, length-append all_pages all_nodes, length-pages, length-nodes))
      ∙ bytes_at-right all_pages all_nodes from (149760 * zone + off) 256 (omega (arith, length-pages))
      ∙ concat-at 149760 (map nodes_of zs) (subst (λ (ks : List ℕ). AllOfLength 149760 (map nodes_of ks)) all (zones_of_length d law zones few pages_of are zones (omega arith))) (149760 * zone + off) zone off 256 refl
      (omega (arith, length-map-range_with_len nodes_of 0 zones)) inside
      ∙ ap (λ (xs : List ℕ). bytes_at xs off 256) (get_or-map-range_with_len nodes_of 0 zones zone zone [] below (omega arith))

  pub node-at : (zone level index : ℕ) → zone < zones → index < nodes_of_level level → place_bytes zones memory (Node level zone index) ≡ zone_node d (pages_of zone) level index
  node-at zone level index below there =
      by_level (λ (l i : ℕ). place_bytes zones memory (Node l zone i) ≡ zone_node d (pages_of zone) l i)
      (λ i small. part-at zone (place_start zones (Node 1 zone i) - 0x80000000) (256 * i) below (omega arith) (omega arith) ∙ node1 d law (pages_of zone) (are zone below) i small)
      (λ i small. part-at zone (place_start zones (Node 2 zone i) - 0x80000000) (256 * (512 + i)) below (omega arith) (omega arith) ∙ node2 d law (pages_of zone) (are zone below) i small)
      (λ i small. part-at zone (place_start zones (Node 3 zone i) - 0x80000000) (256 * (576 + i)) below (omega arith) (omega arith) ∙ node3 d law (pages_of zone) (are zone below) i small)
      (part-at zone (place_start zones (Node 4 zone 0) - 0x80000000) (256 * (584 + 0)) below (omega arith) (omega arith) ∙ node4 d law (pages_of zone) (are zone below))
      level index there

  -- the root table
  table-at : (from off : ℕ) → from ≡ 411904 * zones + off → bytes_at memory from 256 ≡ bytes_at (table_nodes d entries) off 256
  unfolding tree_memory
  table-at from off is = bytes_at-right (all_pages ++ all_nodes) (table_nodes d entries) from off 256 (omega (arith, length-append all_pages all_nodes, length-pages, length-nodes))

  lower-at : (i : ℕ) → i < 8 → place_bytes zones memory (RootNode 1 i) ≡ nth (lower_nodes entries) i
  unfolding table_nodes
  lower-at i below =
      table-at (place_start zones (RootNode 1 i) - 0x80000000) (256 * i) (omega arith) ∙ bytes_at-left (concat entries) (upper_node d entries) (256 * i) 256 (omega (arith, length-lower))
      ∙ lower-piece entries i (entries_of_length d law zones few pages_of are) below

  top-at : place_bytes zones memory (RootNode 2 0) ≡ upper_node d entries
  unfolding table_nodes
  top-at =
      table-at (place_start zones (RootNode 2 0) - 0x80000000) 2048 (omega arith) ∙ bytes_at-right (concat entries) (upper_node d entries) 2048 0 256 (omega (arith, length-lower))
      ∙ whole (upper_node d entries) 256 (length-upper d law entries (entries_of_length d law zones few pages_of are))

  entry-at : (zone : ℕ) → zone < zones → nth entries zone ≡ zone_root d (pages_of zone)
  unfolding zone_entries table_entries
  entry-at zone below =
      let root_of = λ (z : ℕ). zone_root d (pages_of z) in
      let roots : List (List ℕ) = map root_of zs in
      get_or_append_left roots (replicate (64 - length roots) no_root) [] zone (omega (arith, length-map-range_with_len root_of 0 zones)) ∙ get_or-map-range_with_len root_of 0 zones zone zone [] below (omega arith)

  -- ---- the trees hold

  pub memory-holds : (slots : ℕ) → TreesHold d (ctl_data zones slots memory memory [] (table_root d entries))
  unfolding table_root
  memory-holds slots = record {
    sizes = record { few = few; off_chip_size = length-memory; mirror_size = length-memory };
    fit = record { most = omega arith; apart = λ i j s before below. absurd (omega arith); there = All-nil (λ (s : Slot). s.zone < zones) };
    nodes = λ level zone index exists. node-at zone level index exists.0 exists.1 ∙ ap (λ (ps : List (List ℕ)). zone_bytes d ps (Node level zone index)) (sym (zone-at zone exists.0));
    slots_hold = All-nil (λ (s : Slot). s.root ≡ zone_root d (zone_pages memory s.zone));
    entries = λ zone below none.
        ap (entry (zone % 8)) (lower-at (zone / 8) (omega arith)) ∙ entry-lower_nodes entries zone (length-entries d law zones few pages_of are) (entries_of_length d law zones few pages_of are) (omega arith)
        ∙ entry-at zone below ∙ ap (zone_root d) (sym (zone-at zone below));
    top = λ k below. ap (entry k) top-at ∙ entry-upper_node d law entries k below ∙ ap d (sym (lower-at k below));
    chip = ap d (sym top-at);
  }

-- ---- a controller as it is made

pub start_zone-IsZone : (words : List (ℕ × ℕ × ℕ)) (zone : ℕ) → IsZone (start_zone words zone)
unfolding start_page start_zone
start_zone-IsZone words zone =
    let word = λ (page k : ℕ). little_bytes 8 (listed_word words page (8 * k)) in
    let page_of = λ (k : ℕ). concat (map (word (64 * zone + k)) (range_with_len 0 512)) in
    record {
      count = length-map-range_with_len page_of 0 64;
      sizes = All-map (λ (page : List ℕ). length page ≡ 4096) page_of (range_with_len 0 64)
          (λ k e h.
          let page : ℕ = 64 * zone + get_or (range_with_len 0 64) k e in
          length-concat 8 (map (word page) (range_with_len 0 512)) (All-map (λ (xs : List ℕ). length xs ≡ 8) (word page) (range_with_len 0 512) (λ i f g. refl))
          ∙ ap (λ (n : ℕ). 8 * n) (length-map-range_with_len (word page) 0 512));
    }

pub start_data-IsKept : (d : List ℕ → List ℕ) → ((m : List ℕ) → length (d m) ≡ 32) → (zones slots : ℕ) (words : List (ℕ × ℕ × ℕ)) → zones ≤ 64 → 1 ≤ slots → slots ≤ 64 → IsKept d (start_data d zones slots words)
start_data-IsKept d law zones slots words few some most = record {
  trees = memory-holds d law zones few (start_zone words) (λ zone below. start_zone-IsZone words zone) slots;
  some = some;
  few = most;
}

-- a list is its pieces, one after another
in_pieces : (n count : ℕ) (bytes : List ℕ) → length bytes ≡ n * count → bytes ≡ concat (map (λ k. piece n k bytes) (range_with_len 0 count))
unfolding pieces
in_pieces n count bytes size = sym (take_all (n * count) bytes (omega arith)) ∙ sym (concat-pieces_of n count bytes)

piece_size : (n k : ℕ) (xs : List ℕ) → n * k + n ≤ length xs → length (piece n k xs) ≡ n
piece_size n k xs inside = length-take-le n (drop (n * k) xs) (omega (arith, length-drop (n * k) xs))

zone_inside : (zone zones size : ℕ) → zone < zones → 262144 * zones ≤ size → 262144 * zone + 262144 ≤ size
zone_inside zone zones size below inside = omega arith

page_place : (zone k : ℕ) → 262144 * zone + 4096 * k ≡ 4096 * (64 * zone + k)
page_place zone k = omega arith

page_inside : (k : ℕ) → k < 64 → 4096 * k + 4096 ≤ 262144
page_inside k small = omega arith

zone_page : (bytes : List ℕ) (zone k : ℕ) → k < 64 → piece 4096 k (piece 262144 zone bytes) ≡ page_bytes bytes (64 * zone + k)
zone_page bytes zone k small = bytes_at-bytes_at bytes (262144 * zone) 262144 (4096 * k) 4096 (page_inside k small) ∙ ap (λ (n : ℕ). bytes_at bytes n 4096) (page_place zone k)

-- a memory in which the nodes over its pages were written
module _ (d : List ℕ → List ℕ) (law : (m : List ℕ) → length (d m) ≡ 32) (zones : ℕ) (few : zones ≤ 64) (words : List (ℕ × ℕ × ℕ)) (memory : List ℕ) (size : length memory ≡ memory_size zones)
    (pages : ℕ) (many : 64 * zones ≤ pages) (most : 4096 * pages ≤ length memory) (stand : HasWords pages words memory) where
  same : (zone : ℕ) → zone < zones → zone_pages memory zone ≡ start_zone words zone
  same zone below = zone-is words pages memory stand most zone (omega arith)

  same-entries : zone_entries d zones (zone_pages memory) ≡ zone_entries d zones (start_zone words)
  unfolding zone_entries
  same-entries = ap table_entries (map-range_same (λ zone. zone_root d (zone_pages memory zone)) (λ zone. zone_root d (start_zone words zone)) zones (λ zone below. ap (zone_root d) (same zone below)))

  -- the bytes of a zone
  one_zone : (zone : ℕ) → zone < zones → piece 262144 zone memory ≡ concat (zone_pages memory zone)
  unfolding zone_pages
  one_zone zone below =
      in_pieces 4096 64 (piece 262144 zone memory) (piece_size 262144 zone memory (zone_inside zone zones (length memory) below (omega arith)))
      ∙ ap concat (map-range_same (λ k. piece 4096 k (piece 262144 zone memory)) (λ k. page_bytes memory (64 * zone + k)) 64 (λ k small. zone_page memory zone k small))

  front : take (262144 * zones) memory ≡ concat (map (λ zone. concat (zone_pages memory zone)) (range_with_len 0 zones))
  unfolding pieces
  front = sym (concat-pieces_of 262144 zones memory) ∙ ap concat (map-range_same (λ zone. piece 262144 zone memory) (λ zone. concat (zone_pages memory zone)) zones one_zone)

  made : (new : List ℕ) → new ≡ with_bytes memory (262144 * zones) (concat (map (λ zone. zone_nodes d (zone_pages memory zone)) (range_with_len 0 zones)) ++ table_nodes d (zone_entries d zones (zone_pages memory)))
      → new ≡ tree_memory d zones (start_zone words)
  unfolding tree_memory
  made new is =
      let pages_of = λ (zone : ℕ). zone_pages memory zone in
      let are = λ (zone : ℕ) (below : zone < zones). zone_pages-IsZone memory zone zones below size in
      let nodes : List ℕ = concat (map (λ zone. zone_nodes d (zone_pages memory zone)) (range_with_len 0 zones)) in
      let table : List ℕ = table_nodes d (zone_entries d zones (zone_pages memory)) in
      let pages : List ℕ = concat (map (λ zone. concat (zone_pages memory zone)) (range_with_len 0 zones)) in
      let to_end : length memory ≤ 262144 * zones + length (nodes ++ table) = omega (arith, length-append nodes table, length-nodes d law zones few pages_of are, length-table d law zones few pages_of are) in
      is ∙ with_bytes-last memory (262144 * zones) (nodes ++ table) to_end ∙ ap (λ (r : List ℕ). r ++ (nodes ++ table)) front ∙ sym (append_assoc pages nodes table)
      ∙ ap (λ (ps : List (List ℕ)). concat ps ++ nodes ++ table) (map-range_same (λ zone. concat (zone_pages memory zone)) (λ zone. concat (start_zone words zone)) zones (λ zone below. ap concat (same zone below)))
      ∙ ap (λ (ns : List (List ℕ)). concat (map (λ zone. concat (start_zone words zone)) (range_with_len 0 zones)) ++ concat ns ++ table) (map-range_same (λ zone. zone_nodes d (zone_pages memory zone)) (λ zone. zone_nodes d (start_zone words zone)) zones (λ zone below. ap (zone_nodes d) (same zone below)))
      ∙ ap (λ (es : List (List ℕ)). concat (map (λ zone. concat (start_zone words zone)) (range_with_len 0 zones)) ++ concat (map (λ zone. zone_nodes d (start_zone words zone)) (range_with_len 0 zones)) ++ table_nodes d es) same-entries

  -- and so the controller is as it is made
  pub made-is : (slots : ℕ) (list : SlotList) (off_chip mirror root : List ℕ) → list ≡ list_of slots [] → mirror ≡ off_chip
      → off_chip ≡ with_bytes memory (262144 * zones) (concat (map (λ zone. zone_nodes d (zone_pages memory zone)) (range_with_len 0 zones)) ++ table_nodes d (zone_entries d zones (zone_pages memory)))
      → root ≡ table_root d (zone_entries d zones (zone_pages memory)) → ctl_data zones list.limit off_chip mirror list.mounted root ≡ start_data d zones slots words
  made-is slots list off_chip mirror root empty copied written over =
      let own : root ≡ table_root d (zone_entries d zones (start_zone words)) = over ∙ ap (table_root d) same-entries in
      let bytes : List ℕ = tree_memory d zones (start_zone words) in
      ap (λ (s : SlotList). ctl_data zones s.limit off_chip mirror s.mounted root) empty ∙ ap (λ (m : List ℕ). ctl_data zones slots off_chip m [] root) copied
      ∙ ap (λ (m : List ℕ). ctl_data zones slots m m [] root) (made off_chip written) ∙ ap (λ (r : List ℕ). ctl_data zones slots bytes bytes [] r) own

-- the words of its pages
pub start_data-words : (d : List ℕ → List ℕ) → ((m : List ℕ) → length (d m) ≡ 32) → (zones : ℕ) (words : List (ℕ × ℕ × ℕ)) → zones ≤ 64 → HasWords (64 * zones) words (tree_memory d zones (start_zone words))
unfolding start_page start_zone
start_data-words d law zones words few page k there below =
    let bytes : List ℕ = tree_memory d zones (start_zone words) in
    let word = λ (p j : ℕ). little_bytes 8 (listed_word words p (8 * j)) in
    let page_of = λ (p : ℕ). concat (map (λ j. little_bytes 8 (listed_word words p (8 * j))) (range_with_len 0 512)) in
    let z : ℕ = page / 64 in
    let same : 64 * (page / 64) + page % 64 ≡ page = omega arith in
    let own : page_bytes bytes page ≡ page_of page =
    ap (page_bytes bytes) (sym same) ∙ page-at d law zones few (start_zone words) (λ zone in_zones. start_zone-IsZone words zone) z (page % 64) (omega arith) (omega arith)
    ∙ get_or-map-range_with_len (λ j. page_of (64 * z + j)) 0 64 (page % 64) (page % 64) [] (omega arith) (omega arith) ∙ ap page_of same in
    sym (bytes_at-bytes_at bytes (4096 * page) 4096 (8 * k) 8 (omega arith)) ∙ ap (λ (xs : List ℕ). bytes_at xs (8 * k) 8) own
    ∙ concat-at 8 (map (word page) (range_with_len 0 512)) (All-map (λ (xs : List ℕ). length xs ≡ 8) (word page) (range_with_len 0 512) (λ i f g. refl)) (8 * k) k 0 8 (omega arith) (omega (arith, length-map-range_with_len (word page) 0 512)) (omega arith)
    ∙ ap (λ (xs : List ℕ). bytes_at xs 0 8) (get_or-map-range_with_len (word page) 0 512 k k [] below (omega arith))
