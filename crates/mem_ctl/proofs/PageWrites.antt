-- A page is replaced: the zone's tree is that over its pages with the new one.
use Rattle.std.proofs.Common.{◌≡◌, ℕ, ◌+◌, ◌-◌, ◌*◌, ◌/◌, ◌%◌, ◌<◌, ◌≤◌, ◌==◌, cond, true, false, List, [], ◌∷◌, ◌++◌, length, drop, set, min, max, ⊎_elim, refl, subst, sym, ap, ◌∙◌, arith, length-drop}
use Rattle.std.specs.Prelude.{All}
use Rattle.std.specs.List.{concat}
use Rattle.std.proofs.lemmas.Bool.{cases_Bool, eqb-false, eqb-true, false≢true, le-ltb, ne_eqb}
use Rattle.std.proofs.lemmas.List.{append-nil, drop_all, length-take-le}
use Rattle.std.proofs.lemmas.List.Elements.{All-cons, All-nil}
use Rattle.pl_base.specs.Bytes.{bytes_at, with_bytes}
use Rattle.pl_base.specs.declared.place.Place.{Place}
use Rattle.pl_base.specs.declared.place.Place.TheVariants.{Node, RootNode}
use Rattle.pl_digest.specs.Trees.{blocks, block_digests, lower_nodes, piece, upper_node, zone_root}
use Rattle.pl_digest.proofs.PieceLemmas.{get_or-pieces, length-pieces}
use Rattle.mem_geom.specs.Layout.{Exists, memory_size, nodes_of_level, place_bytes, place_start}
use Rattle.mem_geom.specs.Parts.{level1_bytes, page_bytes}
use Rattle.mem_geom.specs.Ranges.{overlaps_place}
use Rattle.mem_geom.proofs.PartPlaces.{parts_are_places}
use Rattle.mem_geom.proofs.Parts.{length-with_bytes}
use Rattle.mem_geom.proofs.Writes.{range_changes}
use Rattle.mem_tree.specs.Changes.{PageChanges, PlaceBytes, above_page, bytes_after, is_under, renewed, renewed_root}
use Rattle.mem_tree.specs.Paths.{same_place}
use Rattle.mem_tree.specs.Trees.{nth, zone_bytes}
use Rattle.mem_tree.proofs.DigestSteps.{digests_of_length, length-digests}
use Rattle.mem_tree.proofs.PageChanges.{by_level, page_changes}
use Rattle.mem_tree.proofs.TreeNodes.{length-lower_nodes, page_level1, pieces-digests}
use Rattle.mem_ctl.specs.Calls.{with_page}
use Rattle.mem_ctl.specs.TreesHold.{NodesHold}
use Rattle.mem_ctl.specs.Writes.{with_places, zone_pages}
use Rattle.mem_ctl.specs.WrittenPages.{ChangesPage}
use Rattle.mem_ctl.proofs.PageLemmas.{pages-other_zone, pages-own_zone}
use Rattle.mem_ctl.proofs.PageParts.{one_page_written}
use Rattle.mem_ctl.proofs.RenewedLemmas.{IsBehind, IsNode, pages-behind, renewed-behind, renewed-fit, renewed-leaves}
use Rattle.mem_ctl.proofs.RootLemmas.{length-place, zone_pages-before}
use Rattle.mem_ctl.proofs.WordWrites.{other_zone}
use Rattle.mem_ctl.proofs.WriteLemmas.{AllFit, length-with_places, with_places-at}
use Rattle.mem_ctl.proofs.ZoneLemmas.{mirror_is, zone_pages-IsZone}
use Rattle.mem_ctl.proofs.ZoneUpdates.{ZoneUpdate}

-- the sizes of a page's nodes
module _ (d : List ℕ → List ℕ) (law : (m : List ℕ) → length (d m) ≡ 32) (bytes : List ℕ) where
  pub length-level1 : length (concat (lower_nodes (block_digests d bytes))) ≡ 2048
  length-level1 = ap length (sym (page_level1 d law bytes)) ∙ length-digests d law (blocks bytes) ∙ ap (λ (n : ℕ). 32 * n) (length-pieces 64 64 bytes)

  pub length-level2 : length (upper_node d (block_digests d bytes)) ≡ 256
  length-level2 = length-digests d law (lower_nodes (block_digests d bytes)) ∙ ap (λ (n : ℕ). 32 * n) (length-lower_nodes (block_digests d bytes))

  pub level1-piece : (k : ℕ) → k < 8 → bytes_at (concat (lower_nodes (block_digests d bytes))) (256 * k) 256 ≡ nth (lower_nodes (block_digests d bytes)) k
  level1-piece k below =
      let digests : List (List ℕ) = block_digests d bytes in
      ap (λ (xs : List ℕ). piece 256 k xs) (sym (page_level1 d law bytes)) ∙ sym (get_or-pieces 256 8 (concat digests) k [] below)
      ∙ ap (λ (ps : List (List ℕ)). nth ps k) (pieces-digests digests (digests_of_length d law (blocks bytes)))

-- as many bytes as before
pub length-with_page : (d : List ℕ → List ℕ) → ((m : List ℕ) → length (d m) ≡ 32) → (zones page : ℕ) (bytes memory : List ℕ) → page < 64 * zones → length bytes ≡ 4096 → length memory ≡ memory_size zones
    → length (with_page d zones page bytes memory) ≡ memory_size zones
length-with_page d law zones page bytes memory there size sized =
    let first : ℕ = place_start zones (Node 1 (page / 64) (8 * (page % 64))) - 0x80000000 in
    let one = length-with_bytes memory (4096 * page) bytes (omega arith) ∙ sized in
    length-with_bytes _ first (concat (lower_nodes (block_digests d bytes))) (omega (arith, one, length-level1 d law bytes)) ∙ one

-- all of a list written
pub whole_page : (old bytes : List ℕ) → length old ≡ length bytes → with_bytes old 0 bytes ≡ bytes
whole_page old bytes same =
    let end : 0 + length bytes ≡ length bytes = omega arith in
    ap (λ (k : ℕ). bytes ++ drop k old) end ∙ ap (λ (r : List ℕ). bytes ++ r) (drop_all (length bytes) old (omega arith)) ∙ append-nil bytes

module _ (d : List ℕ → List ℕ) (law : (m : List ℕ) → length (d m) ≡ 32) (zones : ℕ) (mirror : List ℕ) (size : length mirror ≡ memory_size zones) (nodes : NodesHold d zones mirror)
    (page : ℕ) (bytes : List ℕ) (there : page < 64 * zones) (page_size : length bytes ≡ 4096) where
  abbrev z : ℕ
  z = page / 64

  abbrev p : ℕ
  p = page % 64

  abbrev pages : List (List ℕ)
  pages = zone_pages mirror (page / 64)

  abbrev level1 : List ℕ
  level1 = concat (lower_nodes (block_digests d bytes))

  abbrev level2 : List ℕ
  level2 = upper_node d (block_digests d bytes)

  abbrev first : ℕ
  first = place_start zones (Node 1 (page / 64) (8 * (page % 64)))

  abbrev with_page' : List ℕ
  with_page' = with_bytes mirror (4096 * page) bytes

  abbrev pub with_level1 : List ℕ
  with_level1 = with_bytes (with_bytes mirror (4096 * page) bytes) (place_start zones (Node 1 (page / 64) (8 * (page % 64))) - 0x80000000) (concat (lower_nodes (block_digests d bytes)))

  abbrev pub page_written' : List PlaceBytes
  page_written' = renewed d (zone_bytes d pages) (Node 2 (page / 64) (page % 64)) level2 (above_page page)

  abbrev pub replaced_pages : List (List ℕ)
  replaced_pages = set (zone_pages mirror (page / 64)) (page % 64) bytes

  zone_there : z < zones
  zone_there = omega arith

  changes : PageChanges d pages page bytes
  changes = page_changes d law pages (zone_pages-IsZone mirror z zones zone_there size) page bytes

  size1 : length with_page' ≡ memory_size zones
  size1 = length-with_bytes mirror (4096 * page) bytes (omega arith) ∙ size

  size2 : length with_level1 ≡ memory_size zones
  size2 = length-with_bytes with_page' (first - 0x80000000) level1 (omega (arith, size1, length-level1 d law bytes)) ∙ size1

  -- a place behind the pages that the eight nodes don't meet
  node_stays : (q : Place) → Exists zones q → 0x80000000 + 262144 * zones ≤ place_start zones q → overlaps_place zones first 2048 q ≡ false → place_bytes zones with_level1 q ≡ place_bytes zones mirror q
  node_stays q exists behind apart =
      let page_range = range_changes zones (0x80000000 + 4096 * page) mirror bytes size (omega arith) (omega arith) in
      let node_range = range_changes zones first with_page' level1 size1 (omega arith) (omega (arith, length-level1 d law bytes)) in
      let at : 0x80000000 + 4096 * page - 0x80000000 ≡ 4096 * page = omega arith in
      node_range.others q exists (ap (λ (n : ℕ). overlaps_place zones first n q) (length-level1 d law bytes) ∙ apart)
      ∙ ap (λ (k : ℕ). place_bytes zones (with_bytes mirror k bytes) q) (sym at)
      ∙ page_range.others q exists (le-ltb (max (0x80000000 + 4096 * page) (place_start zones q)) (min (0x80000000 + 4096 * page + length bytes) _) (omega arith))

  -- a node of the zone that isn't under the page, a node of another zone, or one of the root table
  level1-stays : (i : ℕ) → i < 512 → (i / 8 == p) ≡ false → place_bytes zones with_level1 (Node 1 z i) ≡ place_bytes zones mirror (Node 1 z i)
  level1-stays i below other =
      let h = eqb-false (i / 8) p other in
      node_stays (Node 1 z i) (zone_there, below) (omega arith) (le-ltb (max first (place_start zones (Node 1 z i))) (min (first + 2048) (place_start zones (Node 1 z i) + 256)) (omega arith))

  above-stays : (level index : ℕ) → index < nodes_of_level level → (level == 1) ≡ false → place_bytes zones with_level1 (Node level z index) ≡ place_bytes zones mirror (Node level z index)
  above-stays level index below other =
      by_level (λ (l i : ℕ). (l == 1) ≡ false → place_bytes zones with_level1 (Node l z i) ≡ place_bytes zones mirror (Node l z i))
      (λ i small h. absurd (false≢true (sym h)))
      (λ i small h. node_stays (Node 2 z i) (zone_there, small) (omega arith) (le-ltb (max first (place_start zones (Node 2 z i))) (min (first + 2048) (place_start zones (Node 2 z i) + 256)) (omega arith)))
      (λ i small h. node_stays (Node 3 z i) (zone_there, small) (omega arith) (le-ltb (max first (place_start zones (Node 3 z i))) (min (first + 2048) (place_start zones (Node 3 z i) + 256)) (omega arith)))
      (λ h. node_stays (Node 4 z 0) (zone_there, omega arith) (omega arith) (le-ltb (max first (place_start zones (Node 4 z 0))) (min (first + 2048) (place_start zones (Node 4 z 0) + 256)) (omega arith)))
      level index below other

  other_zone-stays : (level own index : ℕ) → Exists zones (Node level own index) → (own == z) ≡ false → place_bytes zones with_level1 (Node level own index) ≡ place_bytes zones mirror (Node level own index)
  other_zone-stays level own index exists other =
      let h = eqb-false own z other in
      by_level (λ (l i : ℕ). place_bytes zones with_level1 (Node l own i) ≡ place_bytes zones mirror (Node l own i))
      (λ i small. node_stays (Node 1 own i) (exists.0, small) (omega arith) (le-ltb (max first (place_start zones (Node 1 own i))) (min (first + 2048) (place_start zones (Node 1 own i) + 256)) (omega arith)))
      (λ i small. node_stays (Node 2 own i) (exists.0, small) (omega arith) (le-ltb (max first (place_start zones (Node 2 own i))) (min (first + 2048) (place_start zones (Node 2 own i) + 256)) (omega arith)))
      (λ i small. node_stays (Node 3 own i) (exists.0, small) (omega arith) (le-ltb (max first (place_start zones (Node 3 own i))) (min (first + 2048) (place_start zones (Node 3 own i) + 256)) (omega arith)))
      (node_stays (Node 4 own 0) (exists.0, omega arith) (omega arith) (le-ltb (max first (place_start zones (Node 4 own 0))) (min (first + 2048) (place_start zones (Node 4 own 0) + 256)) (omega arith)))
      level index exists.1

  root-stays : (level index : ℕ) → Exists zones (RootNode level index) → place_bytes zones with_level1 (RootNode level index) ≡ place_bytes zones mirror (RootNode level index)
  root-stays level index exists =
      node_stays (RootNode level index) exists (omega arith) (le-ltb (max first (place_start zones (RootNode level index))) (min (first + 2048) (place_start zones (RootNode level index) + 256)) (omega arith))

  -- the eight nodes
  level1-is : (k : ℕ) → k < 8 → place_bytes zones with_level1 (Node 1 z (8 * p + k)) ≡ nth (lower_nodes (block_digests d bytes)) k
  level1-is k below =
      let node_range = range_changes zones first with_page' level1 size1 (omega arith) (omega (arith, length-level1 d law bytes)) in
      let is : level1_bytes zones with_level1 page ≡ level1 = ap (λ (n : ℕ). bytes_at with_level1 (first - 0x80000000) n) (sym (length-level1 d law bytes)) ∙ node_range.changed in
      parts_are_places.level1 zones page k with_level1 below ∙ ap (λ (xs : List ℕ). bytes_at xs (256 * k) 256) is ∙ level1-piece d law bytes k below

  -- ---- the nodes above

  is_node : (level index : ℕ) → index < nodes_of_level level → IsNode d zones (zone_bytes d pages) (Node level z index)
  is_node level index below = record {
    exists = (zone_there, below);
    size = refl;
    length_is = ap length (sym (mirror_is d law zones mirror size nodes z zone_there (Node level z index) (refl, below))) ∙ length-place zones mirror (Node level z index) (zone_there, below) size;
  }

  pub page_fit : AllFit zones page_written'
  page_fit =
      let P : Place → Type 0 = IsNode d zones (zone_bytes d pages) in
      renewed-fit d law zones (zone_bytes d pages) (Node 2 z p) level2 (above_page page) (zone_there, omega arith) (length-level2 d law bytes)
      (All-cons P (Node 3 z (p / 8)) (Node 4 z 0 ∷ []) (is_node 3 (p / 8) (omega arith)) (All-cons P (Node 4 z 0) [] (is_node 4 0 (omega arith)) (All-nil P)))

  abbrev new : List ℕ
  new = with_places zones with_level1 page_written'

  leaves : (q : Place) → Exists zones q → same_place (Node 2 z p) q ≡ false → All (λ (r : Place). same_place r q ≡ false) (above_page page) → place_bytes zones new q ≡ place_bytes zones with_level1 q
  leaves q exists apart others =
      with_places-at zones page_written' with_level1 q page_fit exists size2 ∙ renewed-leaves d (zone_bytes d pages) (Node 2 z p) level2 (above_page page) q (place_bytes zones with_level1 q) apart others

  own_level1 : (i : ℕ) → i < 512 → place_bytes zones new (Node 1 z i) ≡ zone_bytes d replaced_pages (Node 1 z i)
  own_level1 i below =
      let P = λ (r : Place). same_place r (Node 1 z i) ≡ false in
      leaves (Node 1 z i) (zone_there, below) refl (All-cons P (Node 3 z (p / 8)) (Node 4 z 0 ∷ []) refl (All-cons P (Node 4 z 0) [] refl (All-nil P)))
      ∙ ⊎_elim
      (λ (under : (i / 8 == p) ≡ true).
      let is : 8 * p + i % 8 ≡ i = let h = eqb-true (i / 8) p under in omega arith in
      subst (λ (j : ℕ). place_bytes zones with_level1 (Node 1 z j) ≡ zone_bytes d replaced_pages (Node 1 z j)) is (level1-is (i % 8) (omega arith) ∙ sym (changes.level1 (i % 8) (omega arith))))
      (λ (apart : (i / 8 == p) ≡ false). level1-stays i below apart ∙ nodes 1 z i (zone_there, below) ∙ sym (changes.others (Node 1 z i) (refl, below) apart))
      (cases_Bool (i / 8 == p))

  own_above : (level index : ℕ) → index < nodes_of_level level → (level == 1) ≡ false → is_under page (Node level z index) ≡ false → place_bytes zones new (Node level z index) ≡ zone_bytes d replaced_pages (Node level z index)
  own_above level index below other apart =
      with_places-at zones page_written' with_level1 (Node level z index) page_fit (zone_there, below) size2
      ∙ ap (bytes_after page_written' (Node level z index)) (above-stays level index below other ∙ nodes level z index (zone_there, below))
      ∙ sym (changes.others (Node level z index) (refl, below) apart)

  own_nodes : (level index : ℕ) → index < nodes_of_level level → place_bytes zones new (Node level z index) ≡ zone_bytes d replaced_pages (Node level z index)
  own_nodes level index below =
      by_level (λ (l i : ℕ). place_bytes zones new (Node l z i) ≡ zone_bytes d replaced_pages (Node l z i)) own_level1 (λ i small. own_above 2 i small refl refl) (λ i small. own_above 3 i small refl refl) (own_above 4 0 (omega arith) refl refl)
      level index below

  -- ---- pages

  page_part : (memory : List ℕ) → length memory ≡ memory_size zones → (zone : ℕ) → zone < zones
      → zone_pages (with_places zones (with_page d zones page bytes memory) page_written') zone ≡ zone_pages (with_bytes memory (4096 * page + 0) bytes) zone
  page_part memory sized zone below =
      let same : 4096 * page ≡ 4096 * page + 0 = omega arith in
      let one : length (with_bytes memory (4096 * page) bytes) ≡ memory_size zones = length-with_bytes memory (4096 * page) bytes (omega arith) ∙ sized in
      pages-behind zones page_written' (with_page d zones page bytes memory) page_fit
      (renewed-behind d zones (zone_bytes d pages) (Node 2 z p) level2 (above_page page) (omega arith)
      (All-cons (IsBehind zones) (Node 3 z (p / 8)) (Node 4 z 0 ∷ []) (omega arith) (All-cons (IsBehind zones) (Node 4 z 0) [] (omega arith) (All-nil (IsBehind zones))))) (length-with_page d law zones page bytes memory there page_size sized) zone below
      ∙ zone_pages-before zones (with_bytes memory (4096 * page) bytes) (first - 0x80000000) level1 (omega (arith, one, length-level1 d law bytes)) (omega arith) zone below
      ∙ ap (λ (k : ℕ). zone_pages (with_bytes memory k bytes) zone) same

  pub put_pages : (memory : List ℕ) → length memory ≡ memory_size zones → ChangesPage zones page bytes memory (with_places zones (with_page d zones page bytes memory) page_written')
  put_pages memory sized other below =
      let page_length : length (page_bytes memory page) ≡ 4096 = length-take-le 4096 (drop (4096 * page) memory) (omega (arith, length-drop (4096 * page) memory)) in
      one_page_written memory (with_places zones (with_page d zones page bytes memory) page_written') zones page 0 bytes sized there (omega arith) (page_part memory sized) other below
      ∙ ap (λ (all : List ℕ). cond (other == page) all (page_bytes memory other)) (whole_page (page_bytes memory page) bytes (page_length ∙ sym page_size))

  own_pages : zone_pages new z ≡ replaced_pages
  own_pages =
      page_part mirror size z zone_there ∙ pages-own_zone mirror zones page 0 bytes size there (omega arith)
      ∙ ap (set pages p) (whole_page (page_bytes mirror page) bytes (page_length ∙ sym page_size))
    where
      page_length : length (page_bytes mirror page) ≡ 4096
      page_length = length-take-le 4096 (drop (4096 * page) mirror) (omega (arith, length-drop (4096 * page) mirror))

  pub page_update : ZoneUpdate d zones z mirror new replaced_pages
  page_update = record {
    size = length-with_places zones page_written' with_level1 page_fit size2;
    own = own_nodes;
    own_pages = own_pages;
    other_nodes = λ level other index exists apart.
        let P = λ (r : Place). same_place r (Node level other index) ≡ false in
        let differ : (z == other) ≡ false = ne_eqb z other (λ same. eqb-false other z apart (sym same)) in
        leaves (Node level other index) exists (other_zone 2 p level index z other differ)
        (All-cons P (Node 3 z (p / 8)) (Node 4 z 0 ∷ []) (other_zone 3 (p / 8) level index z other differ) (All-cons P (Node 4 z 0) [] (other_zone 4 0 level index z other differ) (All-nil P)))
        ∙ other_zone-stays level other index exists apart;
    root_nodes = λ level index exists.
        let P = λ (r : Place). same_place r (RootNode level index) ≡ false in
        leaves (RootNode level index) exists refl (All-cons P (Node 3 z (p / 8)) (Node 4 z 0 ∷ []) refl (All-cons P (Node 4 z 0) [] refl (All-nil P))) ∙ root-stays level index exists;
    other_pages = λ other below apart. page_part mirror size other below ∙ pages-other_zone mirror zones page 0 bytes size there (omega arith) other apart;
  }

  pub page_root_is : renewed_root d (zone_bytes d pages) (Node 2 z p) level2 (above_page page) ≡ zone_root d replaced_pages
  page_root_is = sym changes.root
