-- The pages of a zone in a memory, and the paths through its tree in the mirror.
use Rattle.std.proofs.Common.{◌≡◌, ℕ, ◌+◌, ◌*◌, ◌/◌, ◌%◌, ◌<◌, List, [], ◌∷◌, ◌++◌, None, length, drop, get_or, refl, subst, sym, ap, ◌∙◌, arith, length-drop}
use Rattle.std.specs.Prelude.{All}
use Rattle.std.proofs.lemmas.List.{length-take-le}
use Rattle.std.proofs.lemmas.List.Elements.{All-append, All-cons, All-nil}
use Rattle.std.proofs.lemmas.List.FromFn.{get_or-map-range_with_len, length-map-range_with_len}
use Rattle.pl_base.specs.declared.place.Place.{Place}
use Rattle.pl_base.specs.declared.place.Place.TheVariants.{Block, Node, RootNode}
use Rattle.pl_digest.specs.Trees.{piece, zone_root}
use Rattle.mem_geom.specs.Layout.{Exists, memory_size, place_bytes}
use Rattle.mem_geom.specs.Parts.{page_bytes}
use Rattle.mem_geom.specs.PathPlaces.{block_places, level1_places, page_places, replaced_places, word_places}
use Rattle.mem_geom.proofs.PartPlaces.{parts_are_places}
use Rattle.mem_tree.specs.Changes.{IsOfZone}
use Rattle.mem_tree.specs.Checks.{IsTopDown, IsWrittenPath}
use Rattle.mem_tree.specs.Paths.{first_break, path_of}
use Rattle.mem_tree.specs.Trees.{IsZone, nth, zone_bytes}
use Rattle.mem_tree.proofs.Differences.{own_bytes_matter}
use Rattle.mem_tree.proofs.LinkedPaths.{block_row, length-block_places, length-level1_places, level1_row, paths_are_top_down}
use Rattle.mem_tree.proofs.TreePaths.{paths_hold}
use Rattle.mem_ctl.specs.TreesHold.{NodesHold}
use Rattle.mem_ctl.specs.Writes.{zone_pages}

-- ---- the pages of a zone

module _ (memory : List ℕ) (zone : ℕ) where
  pub length-zone_pages : length (zone_pages memory zone) ≡ 64
  unfolding zone_pages
  length-zone_pages = length-map-range_with_len (λ (k : ℕ). page_bytes memory (64 * zone + k)) 0 64

  pub get_or-zone_pages : (k : ℕ) (e : List ℕ) → k < 64 → get_or (zone_pages memory zone) k e ≡ page_bytes memory (64 * zone + k)
  unfolding zone_pages
  get_or-zone_pages k e below = get_or-map-range_with_len (λ (j : ℕ). page_bytes memory (64 * zone + j)) 0 64 k k e below (omega arith)

  pub zone_pages-IsZone : (zones : ℕ) → zone < zones → length memory ≡ memory_size zones → IsZone (zone_pages memory zone)
  zone_pages-IsZone zones below size = record {
    count = length-zone_pages;
    sizes = λ k e h.
        let in_zone : k < 64 = omega (arith, length-zone_pages) in
        let at : ℕ = 4096 * (64 * zone + k) in
        ap length (get_or-zone_pages k e in_zone) ∙ length-take-le 4096 (drop at memory) (omega (arith, length-drop at memory));
  }

-- a page of its zone
pub page_is : (memory : List ℕ) (page : ℕ) → nth (zone_pages memory (page / 64)) (page % 64) ≡ page_bytes memory page
page_is memory page =
    let same : 64 * (page / 64) + page % 64 ≡ page = omega arith in
    get_or-zone_pages memory (page / 64) (page % 64) [] (omega arith) ∙ ap (page_bytes memory) same

-- a block of its zone's pages
pub block_is : (memory : List ℕ) (zones page b : ℕ) → b < 64 → place_bytes zones memory (Block page b) ≡ piece 64 b (nth (zone_pages memory (page / 64)) (page % 64))
block_is memory zones page b below = parts_are_places.blocks zones page b memory below ∙ ap (piece 64 b) (sym (page_is memory page))

-- ---- the places of a path are of its zone

pub replaced-of_zone : (page : ℕ) → All (IsOfZone (page / 64)) (replaced_places page)
replaced-of_zone page =
    let P : Place → Type 0 = IsOfZone (page / 64) in
    let n3 : Place = Node 3 (page / 64) (page % 64 / 8) in
    All-cons P (Node 4 (page / 64) 0) (n3 ∷ []) (refl, omega arith) (All-cons P n3 [] (refl, omega arith) (All-nil P))

-- the nodes over a page, and then others
over_page-of_zone : (page : ℕ) (rest : List Place) → All (IsOfZone (page / 64)) rest
    → All (IsOfZone (page / 64)) (Node 4 (page / 64) 0 ∷ Node 3 (page / 64) (page % 64 / 8) ∷ Node 2 (page / 64) (page % 64) ∷ rest)
over_page-of_zone page rest all =
    let P : Place → Type 0 = IsOfZone (page / 64) in
    let n3 : Place = Node 3 (page / 64) (page % 64 / 8) in
    let n2 : Place = Node 2 (page / 64) (page % 64) in
    All-cons P (Node 4 (page / 64) 0) (n3 ∷ n2 ∷ rest) (refl, omega arith) (All-cons P n3 (n2 ∷ rest) (refl, omega arith) (All-cons P n2 rest (refl, omega arith) all))

pub word-of_zone : (page b : ℕ) → b < 64 → All (IsOfZone (page / 64)) (word_places page b)
word-of_zone page b below =
    let P : Place → Type 0 = IsOfZone (page / 64) in
    let n1 : Place = Node 1 (page / 64) (8 * (page % 64) + b / 8) in
    over_page-of_zone page (n1 ∷ Block page b ∷ []) (All-cons P n1 (Block page b ∷ []) (refl, omega arith) (All-cons P (Block page b) [] (refl, below) (All-nil P)))

pub page-of_zone : (page : ℕ) → All (IsOfZone (page / 64)) (page_places page)
page-of_zone page =
    let P : Place → Type 0 = IsOfZone (page / 64) in
    over_page-of_zone page (level1_places page ++ block_places page)
    (All-append P (level1_places page) (block_places page)
    (λ k e h. let small : k < 8 = omega (arith, length-level1_places page) in subst P (sym (level1_row page k e small)) (refl, omega arith))
    (λ k e h. let small : k < 64 = omega (arith, length-block_places page) in subst P (sym (block_row page k e small)) (refl, small)))

-- ---- the mirror's places are those of the tree over its pages

module _ (d : List ℕ → List ℕ) (law : (m : List ℕ) → length (d m) ≡ 32) (zones : ℕ) (mirror : List ℕ) (size : length mirror ≡ memory_size zones) (nodes : NodesHold d zones mirror) where
  pub mirror_is : (zone : ℕ) → zone < zones → (place : Place) → IsOfZone zone place → place_bytes zones mirror place ≡ zone_bytes d (zone_pages mirror zone) place
  mirror_is zone there (Block page b) of =
      block_is mirror zones page b of.1 ∙ ap (λ (z : ℕ). piece 64 b (nth (zone_pages mirror z) (page % 64))) of.0
  mirror_is zone there (Node level own index) of =
      nodes level own index (omega (arith, of.0), of.1) ∙ ap (λ (z : ℕ). zone_bytes d (zone_pages mirror z) (Node level own index)) of.0
  mirror_is zone there (RootNode level index) of = absurd of

  module _ (page : ℕ) (there : page < 64 * zones) (root : List ℕ) (is_root : root ≡ zone_root d (zone_pages mirror (page / 64))) (off_chip : List ℕ) where
    abbrev pages : List (List ℕ)
    pages = zone_pages mirror (page / 64)

    zone_is : IsZone pages
    zone_is = zone_pages-IsZone mirror (page / 64) zones (omega arith) size

    -- a path of the zone's places that holds in the tree holds in the mirror
    path-written : (places : List Place) → IsTopDown places → All (IsOfZone (page / 64)) places → first_break d (path_of (zone_root d pages) places (zone_bytes d pages)) ≡ None
        → IsWrittenPath d (path_of root places (place_bytes zones off_chip)) (place_bytes zones mirror)
    path-written places down of holds =
        let same : All (λ (p : Place). place_bytes zones mirror p ≡ zone_bytes d pages p) places = λ k e h. mirror_is (page / 64) (omega arith) (get_or places k e) (of k e h) in
        record {
          top_down = down;
          holds = (own_bytes_matter d root places (place_bytes zones mirror) (zone_bytes d pages) down same).breaks
              ∙ ap (λ (r : List ℕ). first_break d (path_of r places (zone_bytes d pages))) is_root ∙ holds;
        }

    pub word_path-written : (b : ℕ) → b < 64 → IsWrittenPath d (path_of root (word_places page b) (place_bytes zones off_chip)) (place_bytes zones mirror)
    word_path-written b below = path-written (word_places page b) (paths_are_top_down.words page b below) (word-of_zone page b below) ((paths_hold d law).words pages page b zone_is below)

    pub page_path-written : IsWrittenPath d (path_of root (page_places page) (place_bytes zones off_chip)) (place_bytes zones mirror)
    page_path-written = path-written (page_places page) (paths_are_top_down.pages page) (page-of_zone page) ((paths_hold d law).pages pages page zone_is)

    pub replaced_path-written : IsWrittenPath d (path_of root (replaced_places page) (place_bytes zones off_chip)) (place_bytes zones mirror)
    replaced_path-written = path-written (replaced_places page) (paths_are_top_down.replaced page) (replaced-of_zone page) ((paths_hold d law).replaced pages page zone_is)

-- a zone's places exist, where the zone does
pub of_zone-exists : (zones zone : ℕ) → zone < zones → (place : Place) → IsOfZone zone place → Exists zones place
of_zone-exists zones zone there (Block page b) of = (omega (arith, of.0), of.1)
of_zone-exists zones zone there (Node level own index) of = (omega (arith, of.0), of.1)
of_zone-exists zones zone there (RootNode level index) of = absurd of
