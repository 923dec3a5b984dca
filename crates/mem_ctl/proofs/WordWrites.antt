-- A part of a block is written: the zone's tree is that over its pages with the part.
use Rattle.std.proofs.Common.{◌≡◌, ℕ, ◌+◌, ◌-◌, ◌*◌, ◌/◌, ◌%◌, ◌<◌, ◌≤◌, ◌==◌, ◌&&◌, Bool, true, false, List, [], ◌∷◌, length, drop, set, refl, sym, ap, ◌∙◌, arith, length-drop}
use Rattle.std.specs.Prelude.{All}
use Rattle.std.proofs.lemmas.Bool.{eqb-false, false≢true, ne_eqb}
use Rattle.std.proofs.lemmas.List.{length-take-le}
use Rattle.std.proofs.lemmas.List.Elements.{All-cons, All-nil}
use Rattle.pl_base.specs.Bytes.{with_bytes}
use Rattle.pl_base.specs.declared.place.Place.{Place}
use Rattle.pl_base.specs.declared.place.Place.TheVariants.{Block, Node, RootNode}
use Rattle.pl_digest.specs.Nodes.{with_entry}
use Rattle.pl_digest.specs.Trees.{piece, zone_root}
use Rattle.mem_geom.specs.Layout.{Exists, memory_size, nodes_of_level, place_bytes}
use Rattle.mem_geom.specs.Parts.{page_bytes}
use Rattle.mem_geom.specs.Tree.{entry_number}
use Rattle.mem_geom.proofs.Parts.{length-with_bytes}
use Rattle.mem_tree.specs.Changes.{BlockChanges, PlaceBytes, above_block, at_place, bytes_after, renewed, renewed_root, with_page_part}
use Rattle.mem_tree.specs.Paths.{same_place}
use Rattle.mem_tree.specs.Trees.{nth, zone_bytes}
use Rattle.mem_tree.proofs.BlockChanges.{block_changes}
use Rattle.mem_ctl.specs.TreesHold.{NodesHold}
use Rattle.mem_ctl.specs.Writes.{with_place, with_places, zone_pages}
use Rattle.mem_ctl.specs.WrittenPages.{ChangesPage}
use Rattle.mem_ctl.proofs.PageLemmas.{pages-other_zone, pages-own_zone, with_bytes-nested}
use Rattle.mem_ctl.proofs.RenewedLemmas.{IsBehind, IsNode, pages-behind, renewed-behind, renewed-fit, renewed-leaves}
use Rattle.mem_ctl.proofs.PageParts.{one_page_written}
use Rattle.mem_ctl.proofs.RootLemmas.{length-place}
use Rattle.mem_ctl.proofs.WriteLemmas.{AllFit, length-with_place, length-with_places, with_places-at}
use Rattle.mem_ctl.proofs.ZoneLemmas.{mirror_is, page_is, zone_pages-IsZone}
use Rattle.mem_ctl.proofs.ZoneUpdates.{ZoneUpdate}

-- two nodes of different zones
pub other_zone : (l i level index z other : ℕ) → (z == other) ≡ false → same_place (Node l z i) (Node level other index) ≡ false
other_zone l i level index z other apart = middle_false (l == level) (z == other) (i == index) apart
  where
    middle_false : (a b c : Bool) → b ≡ false → (a && b && c) ≡ false
    middle_false true true c h = absurd (false≢true (sym h))
    middle_false true false c h = refl
    middle_false false b c h = refl

module _ (d : List ℕ → List ℕ) (law : (m : List ℕ) → length (d m) ≡ 32) (zones : ℕ) (mirror : List ℕ) (size : length mirror ≡ memory_size zones) (nodes : NodesHold d zones mirror)
    (page b at : ℕ) (part : List ℕ) (there : page < 64 * zones) (in_page : b < 64) (in_block : at + length part ≤ 64) where
  abbrev z : ℕ
  z = page / 64

  abbrev p : ℕ
  p = page % 64

  abbrev pub pages : List (List ℕ)
  pages = zone_pages mirror (page / 64)

  abbrev pub block : List ℕ
  block = with_bytes (piece 64 b (nth pages (page % 64))) at part

  -- what is written
  abbrev pub word_written : List PlaceBytes
  word_written = renewed d (zone_bytes d pages) (Block page b) block (above_block page b)

  abbrev pub new_pages : List (List ℕ)
  new_pages = with_page_part pages (page % 64) (64 * b + at) part

  zone_there : z < zones
  zone_there = omega arith

  changes : BlockChanges d pages page b at part
  changes = block_changes d law pages (zone_pages-IsZone mirror z zones zone_there size) page b at part in_page in_block

  is_node : (level index : ℕ) → index < nodes_of_level level → IsNode d zones (zone_bytes d pages) (Node level z index)
  is_node level index below = record {
    exists = (zone_there, below);
    size = refl;
    length_is = ap length (sym (mirror_is d law zones mirror size nodes z zone_there (Node level z index) (refl, below))) ∙ length-place zones mirror (Node level z index) (zone_there, below) size;
  }

  above_nodes : All (IsNode d zones (zone_bytes d pages)) (above_block page b)
  above_nodes =
      let P : Place → Type 0 = IsNode d zones (zone_bytes d pages) in
      let n2 : Place = Node 2 z p in
      let n3 : Place = Node 3 z (p / 8) in
      let n4 : Place = Node 4 z 0 in
      All-cons P (Node 1 z (8 * p + b / 8)) (n2 ∷ n3 ∷ n4 ∷ []) (is_node 1 (8 * p + b / 8) (omega arith)) (All-cons P n2 (n3 ∷ n4 ∷ []) (is_node 2 p (omega arith))
      (All-cons P n3 (n4 ∷ []) (is_node 3 (p / 8) (omega arith)) (All-cons P n4 [] (is_node 4 0 (omega arith)) (All-nil P))))

  page_size : length (nth pages p) ≡ 4096
  page_size = (zone_pages-IsZone mirror z zones zone_there size).sizes p [] (omega (arith, (zone_pages-IsZone mirror z zones zone_there size).count))

  old_block_size : length (piece 64 b (nth pages p)) ≡ 64
  old_block_size = length-take-le 64 (drop (64 * b) (nth pages p)) (omega (arith, length-drop (64 * b) (nth pages p), page_size))

  block_size : length block ≡ 64
  block_size = length-with_bytes (piece 64 b (nth pages p)) at part (omega (arith, old_block_size)) ∙ old_block_size

  pub word_fit : AllFit zones word_written
  word_fit = renewed-fit d law zones (zone_bytes d pages) (Block page b) block (above_block page b) (there, in_page) block_size above_nodes

  -- the nodes above the block stand behind all pages
  abbrev n1 : Place
  n1 = Node 1 z (8 * p + b / 8)

  abbrev first_node : List ℕ
  first_node = with_entry (entry_number (Block page b)) (d block) (zone_bytes d pages n1)

  abbrev over : List Place
  over = Node 2 z p ∷ Node 3 z (p / 8) ∷ Node 4 z 0 ∷ []

  over_behind : All (IsBehind zones) over
  over_behind =
      All-cons (IsBehind zones) (Node 2 z p) (Node 3 z (p / 8) ∷ Node 4 z 0 ∷ []) (omega arith) (All-cons (IsBehind zones) (Node 3 z (p / 8)) (Node 4 z 0 ∷ []) (omega arith)
      (All-cons (IsBehind zones) (Node 4 z 0) [] (omega arith) (All-nil (IsBehind zones))))

  abbrev new : List ℕ
  new = with_places zones mirror word_written

  -- the zones' pages change by the block alone, whatever memory it is written into
  pages_after : (memory : List ℕ) → length memory ≡ memory_size zones → (zone : ℕ) → zone < zones → zone_pages (with_places zones memory word_written) zone ≡ zone_pages (with_bytes memory (4096 * page + 64 * b) block) zone
  pages_after memory sized zone below =
      let from : 0x80000000 + 4096 * page + 64 * b - 0x80000000 ≡ 4096 * page + 64 * b = omega arith in
      pages-behind zones (renewed d (zone_bytes d pages) n1 first_node over) (with_place zones memory (at_place (Block page b) block)) word_fit.1
      (renewed-behind d zones (zone_bytes d pages) n1 first_node over (omega arith) over_behind) (length-with_place zones (at_place (Block page b) block) memory (there, in_page) block_size sized) zone below
      ∙ ap (λ (k : ℕ). zone_pages (with_bytes memory k block) zone) from

  pub word_pages : (memory : List ℕ) → length memory ≡ memory_size zones → ChangesPage zones page (with_bytes (page_bytes memory page) (64 * b) block) memory (with_places zones memory word_written)
  word_pages memory sized = one_page_written memory (with_places zones memory word_written) zones page (64 * b) block sized there (omega (arith, block_size)) (pages_after memory sized)

  own_pages : zone_pages new z ≡ new_pages
  own_pages =
      pages_after mirror size z zone_there ∙ pages-own_zone mirror zones page (64 * b) block size there (omega (arith, block_size))
      ∙ ap (λ (bytes : List ℕ). set pages p (with_bytes bytes (64 * b) block)) (sym (page_is mirror page))
      ∙ ap (set pages p) (with_bytes-nested (nth pages p) (64 * b) 64 at part (omega (arith, page_size)) in_block)

  -- places that aren't the zone's
  leaves : (q : Place) → Exists zones q → same_place (Block page b) q ≡ false → All (λ (r : Place). same_place r q ≡ false) (above_block page b) → place_bytes zones new q ≡ place_bytes zones mirror q
  leaves q exists apart others =
      with_places-at zones word_written mirror q word_fit exists size ∙ renewed-leaves d (zone_bytes d pages) (Block page b) block (above_block page b) q (place_bytes zones mirror q) apart others

  nodes_apart : (level other index : ℕ) → (other == z) ≡ false → All (λ (r : Place). same_place r (Node level other index) ≡ false) (above_block page b)
  nodes_apart level other index apart =
      let P = λ (r : Place). same_place r (Node level other index) ≡ false in
      let differ : (z == other) ≡ false = ne_eqb z other (λ same. eqb-false other z apart (sym same)) in
      All-cons P n1 over (other_zone 1 (8 * p + b / 8) level index z other differ) (All-cons P (Node 2 z p) (Node 3 z (p / 8) ∷ Node 4 z 0 ∷ []) (other_zone 2 p level index z other differ)
      (All-cons P (Node 3 z (p / 8)) (Node 4 z 0 ∷ []) (other_zone 3 (p / 8) level index z other differ) (All-cons P (Node 4 z 0) [] (other_zone 4 0 level index z other differ) (All-nil P))))

  roots_apart : (level index : ℕ) → All (λ (r : Place). same_place r (RootNode level index) ≡ false) (above_block page b)
  roots_apart level index =
      let P = λ (r : Place). same_place r (RootNode level index) ≡ false in
      All-cons P n1 over refl (All-cons P (Node 2 z p) (Node 3 z (p / 8) ∷ Node 4 z 0 ∷ []) refl (All-cons P (Node 3 z (p / 8)) (Node 4 z 0 ∷ []) refl (All-cons P (Node 4 z 0) [] refl (All-nil P))))

  pub word_update : ZoneUpdate d zones z mirror new new_pages
  word_update = record {
    size = length-with_places zones word_written mirror word_fit size;
    own = λ level index below.
        with_places-at zones word_written mirror (Node level z index) word_fit (zone_there, below) size ∙ ap (bytes_after word_written (Node level z index)) (nodes level z index (zone_there, below))
        ∙ sym (changes.places (Node level z index) (refl, below));
    own_pages = own_pages;
    other_nodes = λ level other index exists apart. leaves (Node level other index) exists refl (nodes_apart level other index apart);
    root_nodes = λ level index exists. leaves (RootNode level index) exists refl (roots_apart level index);
    other_pages = λ other below apart. pages_after mirror size other below ∙ pages-other_zone mirror zones page (64 * b) block size there (omega (arith, block_size)) other apart;
  }

  pub word_root : renewed_root d (zone_bytes d pages) (Block page b) block (above_block page b) ≡ zone_root d new_pages
  word_root = sym changes.root
