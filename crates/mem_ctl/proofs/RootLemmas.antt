-- The root table: its path, and what writing a root back changes.
use Rattle.std.proofs.Common.{◌≡◌, ◌≢◌, ℕ, ◌+◌, ◌-◌, ◌*◌, ◌/◌, ◌<◌, ◌≤◌, ◌==◌, false, List, [], ◌∷◌, ⊎_elim, length, drop, subst, sym, ap, ◌∙◌, arith, length-drop}
use Rattle.std.proofs.lemmas.Bool.{false≢true, eqb-false, cases_lt}
use Rattle.std.proofs.lemmas.List.{length-take-le, same_lists}
use Rattle.std.proofs.lemmas.List.Elements.{All-cons, All-nil}
use Rattle.pl_base.specs.Bytes.{bytes_at, with_bytes}
use Rattle.pl_base.specs.declared.place.Place.{Place}
use Rattle.pl_base.specs.declared.place.Place.TheVariants.{Node, RootNode}
use Rattle.pl_digest.specs.Nodes.{entry, with_entry}
use Rattle.mem_geom.specs.Layout.{Exists, memory_size, place_bytes, place_length, place_start, table_start}
use Rattle.mem_geom.specs.PathPlaces.{root_places}
use Rattle.mem_geom.proofs.Parts.{bytes_at-with_bytes, bytes_at-with_bytes_after, bytes_at-with_bytes_before, length-with_bytes}
use Rattle.mem_geom.proofs.Places.{stands_inside}
use Rattle.mem_geom.proofs.Writes.{one_place_changes}
use Rattle.mem_tree.specs.Changes.{at_place}
use Rattle.mem_tree.specs.Checks.{IsWrittenPath, Tells, check, Holds as AllHold}
use Rattle.mem_tree.specs.Paths.{path_of, same_place}
use Rattle.mem_tree.proofs.Differences.{checks_tell}
use Rattle.mem_tree.proofs.LinkedPaths.{IsLinked, linked_path-holds, paths_are_top_down}
use Rattle.mem_tree.proofs.PathPlaces.{same_place-refl}
use Rattle.mem_ctl.specs.TreesHold.{RootHolds, TopHolds}
use Rattle.mem_ctl.specs.Writes.{with_place, with_places, zone_pages}
use Rattle.mem_ctl.specs.WrittenPages.{KeepsZones}
use Rattle.mem_ctl.proofs.ZoneLemmas.{get_or-zone_pages, length-zone_pages}

-- ---- the path

module _ (d : List ℕ → List ℕ) (zones : ℕ) (mirror root : List ℕ) (top : TopHolds d zones mirror) (chip : RootHolds d zones mirror root) (zone : ℕ) (small : zone < 64) (off_chip : List ℕ) where
  pub root_path-written : IsWrittenPath d (path_of root (root_places zone) (place_bytes zones off_chip)) (place_bytes zones mirror)
  root_path-written = record {
    top_down = paths_are_top_down.roots zone small;
    holds = linked_path-holds d root (RootNode 2 0) (RootNode 1 (zone / 8) ∷ []) (place_bytes zones mirror) (paths_are_top_down.roots zone small) (sym chip)
        (All-cons (IsLinked d (place_bytes zones mirror)) (RootNode 1 (zone / 8)) [] (sym (top (zone / 8) (omega arith))) (All-nil (IsLinked d (place_bytes zones mirror))));
  }

  -- where the check holds, the two nodes are as they were written
  pub root_nodes-alike : check d (path_of root (root_places zone) (place_bytes zones off_chip)) (place_bytes zones mirror) ≡ AllHold
      → (place_bytes zones off_chip (RootNode 2 0) ≡ place_bytes zones mirror (RootNode 2 0)) × (place_bytes zones off_chip (RootNode 1 (zone / 8)) ≡ place_bytes zones mirror (RootNode 1 (zone / 8)))
  root_nodes-alike holds =
      let all : Tells d (path_of root (root_places zone) (place_bytes zones off_chip)) (place_bytes zones mirror) AllHold =
      subst (Tells d (path_of root (root_places zone) (place_bytes zones off_chip)) (place_bytes zones mirror)) holds (checks_tell d (path_of root (root_places zone) (place_bytes zones off_chip)) (place_bytes zones mirror) root_path-written) in
      (all 0 (RootNode 2 0) (omega arith), all 1 (RootNode 2 0) (omega arith))

-- ---- one entry of a node

module _ (node x : List ℕ) (k : ℕ) (size : length node ≡ 256) (digest : length x ≡ 32) (below : k < 8) where
  fits : 32 * k + length x ≤ length node
  fits = omega arith

  pub entry-with_entry : entry k (with_entry k x node) ≡ x
  entry-with_entry = ap (λ (n : ℕ). bytes_at (with_bytes node (32 * k) x) (32 * k) n) (sym digest) ∙ bytes_at-with_bytes node (32 * k) x fits

  pub entry-other : (j : ℕ) → (j == k) ≡ false → entry j (with_entry k x node) ≡ entry j node
  entry-other j other =
      let differ = eqb-false j k other in
      ⊎_elim
      (λ (before : j < k). bytes_at-with_bytes_before node (32 * k) x fits (32 * j) 32 (omega arith))
      (λ (past : k ≤ j). bytes_at-with_bytes_after node (32 * k) x fits (32 * j) 32 (omega (arith, differ)))
      (cases_lt j k)

  pub length-with_entry : length (with_entry k x node) ≡ 256
  length-with_entry = length-with_bytes node (32 * k) x fits ∙ size

-- ---- places

pub length-place : (zones : ℕ) (memory : List ℕ) (place : Place) → Exists zones place → length memory ≡ memory_size zones → length (place_bytes zones memory place) ≡ place_length place
length-place zones memory place exists size =
    let inside = stands_inside zones place exists in
    let at : ℕ = place_start zones place - 0x80000000 in
    length-take-le (place_length place) (drop at memory) (omega (arith, length-drop at memory, inside.0, inside.1))

pub node_is_other : (k : ℕ) → RootNode 1 k ≢ RootNode 2 0
node_is_other k = λ same. false≢true (ap (same_place (RootNode 2 0)) same)

pub zone_node_is_other : (level zone index l k : ℕ) → Node level zone index ≢ RootNode l k
zone_node_is_other level zone index l k = λ same. false≢true (ap (same_place (RootNode l k)) same ∙ same_place-refl (RootNode l k))

pub other_node : (j k : ℕ) → (j == k) ≡ false → RootNode 1 j ≢ RootNode 1 k
other_node j k other = λ same. false≢true (sym other ∙ ap (λ (p : Place). same_place p (RootNode 1 k)) same ∙ same_place-refl (RootNode 1 k))

-- pages stand before what is written behind them
pub zone_pages-before : (zones : ℕ) (memory : List ℕ) (at : ℕ) (bytes : List ℕ) → at + length bytes ≤ length memory → 262144 * zones ≤ at → (zone : ℕ) → zone < zones
    → zone_pages (with_bytes memory at bytes) zone ≡ zone_pages memory zone
zone_pages-before zones memory at bytes inside behind zone there =
    let after : List ℕ = with_bytes memory at bytes in
    same_lists (zone_pages after zone) (zone_pages memory zone) (length-zone_pages after zone ∙ sym (length-zone_pages memory zone))
    (λ k e h.
    let below : k < 64 = omega (arith, length-zone_pages after zone) in
    get_or-zone_pages after zone k e below ∙ bytes_at-with_bytes_before memory at bytes inside (4096 * (64 * zone + k)) 4096 (omega arith) ∙ sym (get_or-zone_pages memory zone k e below))

-- ---- a node of the root table and the top node are written

pub record RootWritten (zones k : ℕ) (node top : List ℕ) (old new : List ℕ) : Type 0 where
  pub size : length new ≡ length old
  pub node_is : place_bytes zones new (RootNode 1 k) ≡ node
  pub top_is : place_bytes zones new (RootNode 2 0) ≡ top
  pub others : (other : Place) → Exists zones other → other ≢ RootNode 1 k → other ≢ RootNode 2 0 → place_bytes zones new other ≡ place_bytes zones old other
  pub pages : (zone : ℕ) → zone < zones → zone_pages new zone ≡ zone_pages old zone
  pub front : KeepsZones zones old new

pub root_written : (zones k : ℕ) (node top memory : List ℕ) → k < 8 → length memory ≡ memory_size zones → length node ≡ 256 → length top ≡ 256
    → RootWritten zones k node top memory (with_places zones memory (at_place (RootNode 1 k) node ∷ at_place (RootNode 2 0) top ∷ []))
root_written zones k node top memory below size node_size top_size =
    let middle : List ℕ = with_place zones memory (at_place (RootNode 1 k) node) in
    let first = one_place_changes zones (RootNode 1 k) memory node below size node_size in
    let second = one_place_changes zones (RootNode 2 0) middle top (omega arith) (first.length ∙ size) top_size in
    record {
      size = second.length ∙ first.length;
      node_is = second.others (RootNode 1 k) below (node_is_other k) ∙ first.changed;
      top_is = second.changed;
      others = λ other exists not_node not_top. second.others other exists not_top ∙ first.others other exists not_node;
      pages = λ zone there.
          zone_pages-before zones middle (place_start zones (RootNode 2 0) - 0x80000000) top (omega (arith, first.length)) (omega arith) zone there
          ∙ zone_pages-before zones memory (place_start zones (RootNode 1 k) - 0x80000000) node (omega arith) (omega arith) zone there;
      front =
          bytes_at-with_bytes_before middle (place_start zones (RootNode 2 0) - 0x80000000) top (omega (arith, first.length)) 0 (table_start zones - 0x80000000) (omega arith)
          ∙ bytes_at-with_bytes_before memory (place_start zones (RootNode 1 k) - 0x80000000) node (omega arith) 0 (table_start zones - 0x80000000) (omega arith);
    }
