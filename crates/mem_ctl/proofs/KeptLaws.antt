-- What the rule of a controller says of its root table, and what it hangs on.
use Rattle.std.proofs.Common.{◌≡◌, ℕ, zero, suc, ◌+◌, ◌-◌, ◌*◌, ◌/◌, ◌%◌, ◌<◌, ◌≤◌, Some, List, [], length, map, drop, get_or, refl, subst, sym, ap, ◌∙◌, arith, length-drop}
use Rattle.std.specs.List.{concat}
use Rattle.std.proofs.lemmas.Bool.Decides.{nat_tests}
use Rattle.std.proofs.lemmas.List.{get_or-drop, get_or-map, get_or-take, length-map, length-take-le, same_lists, take_all}
use Rattle.std.proofs.lemmas.List.FromFn.{get_or-map-range_with_len, length-map-range_with_len}
use Rattle.std.proofs.lemmas.Option.{slice_get-get_or}
use Rattle.pl_base.specs.declared.place.Place.{Place}
use Rattle.pl_base.specs.declared.place.Place.TheVariants.{RootNode}
use Rattle.pl_base.specs.Bytes.{with_bytes}
use Rattle.pl_digest.specs.Nodes.{entry}
use Rattle.pl_digest.specs.Trees.{lower_nodes, piece, pieces, table_root, upper_node}
use Rattle.pl_digest.proofs.PieceLemmas.{get_or-pieces, length-pieces}
use Rattle.mem_geom.specs.Layout.{Exists, place_bytes, place_end, place_start, root_nodes_of_level}
use Rattle.mem_geom.proofs.Parts.{length-with_bytes}
use Rattle.mem_tree.specs.Trees.{HasDigests, nth, table_bytes}
use Rattle.mem_tree.proofs.TreeNodes.{length-lower_nodes, nth-lower_nodes}
use Rattle.mem_ctl.specs.Access.{HasOtherByte, Leaves}
use Rattle.mem_ctl.specs.Data.{CtlData, with_off_chip}
use Rattle.mem_ctl.specs.Kept.{IsWrittenRaw, TableHolds, TreesAreKept, root_entries}
use Rattle.mem_ctl.specs.Mounting.{written}
use Rattle.mem_ctl.specs.TreesHold.{IsKept, TreesHold, root_entry}
use Rattle.mem_ctl.proofs.Agreement.{byte_inside, byte_outside}
use Rattle.mem_ctl.proofs.Joined.{concat-pieces_of}
use Rattle.mem_ctl.proofs.PageParts.{zone_place-stays}
use Rattle.mem_ctl.proofs.RootLemmas.{length-place}

-- ---- the entries of a root table

module _ (zones : ℕ) (memory : List ℕ) where
  abbrev all : List (List ℕ)
  all = root_entries zones memory

  length-root_entries : length (root_entries zones memory) ≡ 64
  unfolding root_entries
  length-root_entries = length-map-range_with_len (root_entry zones memory) 0 64

  get_or-root_entries : (k : ℕ) (e : List ℕ) → k < 64 → get_or (root_entries zones memory) k e ≡ root_entry zones memory k
  unfolding root_entries
  get_or-root_entries k e below = get_or-map-range_with_len (root_entry zones memory) 0 64 k k e below (omega arith)

  -- eight of them are the entries of one node
  eight : (i : ℕ) → i < 8 → piece 8 i (root_entries zones memory) ≡ pieces 32 8 (place_bytes zones memory (RootNode 1 i))
  eight i below =
      let node : List ℕ = place_bytes zones memory (RootNode 1 i) in
      let size : length (piece 8 i (root_entries zones memory)) ≡ 8 = length-take-le 8 (drop (8 * i) (root_entries zones memory)) (omega (arith, length-drop (8 * i) (root_entries zones memory), length-root_entries)) in
      same_lists (piece 8 i (root_entries zones memory)) (pieces 32 8 node) (size ∙ sym (length-pieces 32 8 node))
      (λ k e h.
      let small : k < 8 = omega (arith, size) in
      let own : (8 * i + k) % 8 ≡ k = omega arith in
      let up : (8 * i + k) / 8 ≡ i = omega arith in
      get_or-take 8 (drop (8 * i) (root_entries zones memory)) k e small ∙ get_or-drop (8 * i) (root_entries zones memory) k e ∙ get_or-root_entries (8 * i + k) e (omega arith)
      ∙ ap (λ (j : ℕ). entry j (place_bytes zones memory (RootNode 1 ((8 * i + k) / 8)))) own ∙ ap (λ (j : ℕ). entry k (place_bytes zones memory (RootNode 1 j))) up
      ∙ sym (get_or-pieces 32 8 node k e small))

-- a node is its eight entries, one after another
whole_node : (node : List ℕ) → length node ≡ 256 → concat (pieces 32 8 node) ≡ node
whole_node node size = concat-pieces_of 32 8 node ∙ take_all 256 node (omega arith)

-- the root table has two levels
no_level : (level index : ℕ) → 3 ≤ level → index < root_nodes_of_level level → ⊥
no_level level index high exists = grind (arith, nat_tests)

module _ (d : List ℕ → List ℕ) (law : HasDigests d) (x : CtlData) (trees : TreesHold d x) where
  abbrev entries : List (List ℕ)
  entries = root_entries x.zones x.mirror

  node_size : (level index : ℕ) → Exists x.zones (RootNode level index) → length (written x (RootNode level index)) ≡ 256
  node_size level index exists = length-place x.zones x.mirror (RootNode level index) exists trees.sizes.mirror_size

  lower : (i : ℕ) → i < 8 → written x (RootNode 1 i) ≡ nth (lower_nodes entries) i
  lower i below = sym (nth-lower_nodes entries i [] below ∙ ap concat (eight x.zones x.mirror i below) ∙ whole_node (written x (RootNode 1 i)) (node_size 1 i below))

  upper : written x (RootNode 2 0) ≡ upper_node d entries
  upper =
      let top : List ℕ = written x (RootNode 2 0) in
      let same : pieces 32 8 top ≡ map d (lower_nodes entries) =
      same_lists (pieces 32 8 top) (map d (lower_nodes entries)) (length-pieces 32 8 top ∙ sym (length-map (lower_nodes entries) d ∙ length-lower_nodes entries))
      (λ k e h.
      let small : k < 8 = omega (arith, length-pieces 32 8 top) in
      get_or-pieces 32 8 top k e small ∙ trees.top k small ∙ ap d (lower k small) ∙ sym (get_or-map d (lower_nodes entries) k [] e (omega (arith, length-lower_nodes entries)))) in
      sym (whole_node top (node_size 2 0 (omega arith))) ∙ ap concat same

  root_nodes : (level index : ℕ) → index < root_nodes_of_level level → written x (RootNode level index) ≡ table_bytes d entries (RootNode level index)
  root_nodes zero index exists = absurd (omega arith)
  root_nodes (suc zero) index exists = lower index exists
  root_nodes (suc (suc zero)) index exists = let none : 0 ≡ index = omega arith in ap (λ (i : ℕ). written x (RootNode 2 i)) (sym none) ∙ upper
  root_nodes (suc (suc (suc level))) index exists = absurd (no_level (suc (suc (suc level))) index (omega arith) exists)

  pub table_holds : TableHolds d x
  unfolding table_root
  table_holds = record {
    entries = record {
      count = length-root_entries x.zones x.mirror;
      sizes = λ k e h.
          let small : k < 64 = omega (arith, length-root_entries x.zones x.mirror) in
          let node : List ℕ = written x (RootNode 1 (k / 8)) in
          ap length (get_or-root_entries x.zones x.mirror k e small)
          ∙ length-take-le 32 (drop (32 * (k % 8)) node) (omega (arith, length-drop (32 * (k % 8)) node, node_size 1 (k / 8) (omega arith)));
    };
    nodes = root_nodes;
    root_is = trees.chip ∙ ap d upper;
  }

-- ---- what the rule hangs on

pub off_chip_is_free : (d : List ℕ → List ℕ) (x : CtlData) (bytes : List ℕ) → IsKept d x → length bytes ≡ length x.off_chip → IsKept d (with_off_chip x bytes)
off_chip_is_free d x bytes kept size = record {
  trees = record {
    sizes = record { few = kept.trees.sizes.few; off_chip_size = size ∙ kept.trees.sizes.off_chip_size; mirror_size = kept.trees.sizes.mirror_size };
    fit = kept.trees.fit;
    nodes = kept.trees.nodes;
    slots_hold = kept.trees.slots_hold;
    entries = kept.trees.entries;
    top = kept.trees.top;
    chip = kept.trees.chip;
  };
  some = kept.some;
  few = kept.few;
}

pub is_written_raw : (d : List ℕ → List ℕ) (x : CtlData) (from : ℕ) (bytes : List ℕ) → IsKept d x → from + length bytes ≤ length x.off_chip → IsWrittenRaw d x from bytes (with_off_chip x (with_bytes x.off_chip from bytes))
is_written_raw d x from bytes kept fits = record {
  kept = off_chip_is_free d x (with_bytes x.off_chip from bytes) kept (length-with_bytes x.off_chip from bytes fits);
  inside = λ index below.
      let back : from + index - from ≡ index = omega arith in
      byte_inside x.off_chip from bytes fits (from + index) (omega arith) (omega arith) ∙ ap (λ (k : ℕ). Some (get_or bytes k 0)) back ∙ sym (slice_get-get_or bytes index 0 below);
  outside = λ index out. byte_outside x.off_chip from bytes fits index out;
}

pub other_before : (d : List ℕ → List ℕ) (old new : CtlData) (place : Place) → Leaves d old new → HasOtherByte new place → HasOtherByte old place
other_before d old new place leaves byte = record {
  index = byte.index;
  from = subst (λ (n : ℕ). place_start n place ≤ 0x80000000 + byte.index) leaves.same_zones byte.from;
  to = subst (λ (n : ℕ). 0x80000000 + byte.index < place_end n place) leaves.same_zones byte.to;
  other = λ same. byte.other (leaves.still_written byte.index same);
}

pub trees_are_kept : (d : List ℕ → List ℕ) → HasDigests d → TreesAreKept d
trees_are_kept d law = record {
  tables = λ x kept. table_holds d law x kept.trees;
  roots = λ root zone bytes. refl;
  off_chip = off_chip_is_free d;
  raw_writes = is_written_raw d;
  zone_places = zone_place-stays;
  other_before = other_before d;
}
