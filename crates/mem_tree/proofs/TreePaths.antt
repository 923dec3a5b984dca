-- Each place of a tree has its digest in the node above it, and so the four kinds of path hold.
use Rattle.std.proofs.Common.{◌≡◌, ℕ, ◌+◌, ◌*◌, ◌/◌, ◌%◌, ◌<◌, List, [], ◌∷◌, ◌++◌, length, refl, subst, sym, ap, ◌∙◌, arith}
use Rattle.std.proofs.lemmas.List.{get_or-map, length-map}
use Rattle.std.proofs.lemmas.List.Elements.{All-append, All-cons, All-map, All-nil}
use Rattle.std.specs.List.{All}
use Rattle.pl_base.specs.declared.place.Place.{Place}
use Rattle.pl_base.specs.declared.place.Place.TheVariants.{Block, Node, RootNode}
use Rattle.pl_digest.specs.Nodes.{entry}
use Rattle.pl_digest.specs.Trees.{blocks, block_digests, lower_nodes, page_root, page_roots, table_root, upper_node, zone_root}
use Rattle.pl_digest.proofs.PieceLemmas.{AllOfLength, get_or-pieces, length-pieces}
use Rattle.mem_geom.specs.PathPlaces.{block_places, level1_places}
use Rattle.mem_tree.specs.Trees.{AreEntries, IsZone, PathsAreOfTree, PathsHold, tree_bytes, nth, table_bytes, zone_bytes}
use Rattle.mem_tree.proofs.DigestSteps.{digests_of_length}
use Rattle.mem_tree.proofs.LinkedPaths.{IsLinked, block_row, length-block_places, length-level1_places, level1_row, linked_path-holds, paths_are_top_down}
use Rattle.mem_tree.proofs.TreeNodes.{entry-lower_nodes, entry-upper_node}

module _ (d : List ℕ → List ℕ) (law : (m : List ℕ) → length (d m) ≡ 32) where
  pub page_roots_of_length : (pages : List (List ℕ)) → AllOfLength 32 (page_roots d pages)
  unfolding page_root
  page_roots_of_length pages = All-map (λ (xs : List ℕ). length xs ≡ 32) (page_root d) pages (λ k e h. law _)

  pub length-page_roots : (pages : List (List ℕ)) → IsZone pages → length (page_roots d pages) ≡ 64
  length-page_roots pages zone = length-map pages (page_root d) ∙ zone.count

  pub length-block_digests : (page : List ℕ) → length (block_digests d page) ≡ 64
  length-block_digests page = length-map (blocks page) d ∙ length-pieces 64 64 page

  -- ---- a zone

  module _ (pages : List (List ℕ)) (zone : IsZone pages) where
    pub top_is_root : (z : ℕ) → d (zone_bytes d pages (Node 4 z 0)) ≡ zone_root d pages
    unfolding zone_root
    top_is_root z = refl

    pub level3-linked : (z i : ℕ) → i < 8 → IsLinked d (zone_bytes d pages) (Node 3 z i)
    level3-linked z i below =
        let same : i % 8 ≡ i = omega arith in
        sym (ap (λ (k : ℕ). entry k (upper_node d (page_roots d pages))) same ∙ entry-upper_node d law (page_roots d pages) i below)

    pub level2-linked : (z i : ℕ) → i < 64 → IsLinked d (zone_bytes d pages) (Node 2 z i)
    unfolding page_root
    level2-linked z i below =
        sym (entry-lower_nodes (page_roots d pages) i (length-page_roots pages zone) (page_roots_of_length pages) below ∙ get_or-map (page_root d) pages i [] [] (omega (arith, zone.count)))

    pub level1-linked : (z i : ℕ) → i < 512 → IsLinked d (zone_bytes d pages) (Node 1 z i)
    level1-linked z i below = sym (entry-upper_node d law (block_digests d (nth pages (i / 8))) (i % 8) (omega arith))

    pub block-linked : (page b : ℕ) → b < 64 → IsLinked d (zone_bytes d pages) (Block page b)
    block-linked page b below =
        let bytes : List ℕ = nth pages (page % 64) in
        let there : b < length (blocks bytes) = omega (arith, length-pieces 64 64 bytes) in
        let up : (8 * (page % 64) + b / 8) / 8 ≡ page % 64 = omega arith in
        let own : (8 * (page % 64) + b / 8) % 8 ≡ b / 8 = omega arith in
        sym (ap (λ (k : ℕ). entry (b % 8) (nth (lower_nodes (block_digests d (nth pages k))) ((8 * (page % 64) + b / 8) % 8))) up
        ∙ ap (λ (k : ℕ). entry (b % 8) (nth (lower_nodes (block_digests d bytes)) k)) own
        ∙ entry-lower_nodes (block_digests d bytes) b (length-block_digests bytes) (digests_of_length d law (blocks bytes)) below
        ∙ get_or-map d (blocks bytes) b [] [] there ∙ ap d (get_or-pieces 64 64 bytes b [] below))

    abbrev linked : List Place → Type 0
    linked places = All (IsLinked d (zone_bytes d pages)) places

    level1_places-linked : (page : ℕ) → linked (level1_places page)
    level1_places-linked page k e h =
        let small : k < 8 = omega (arith, length-level1_places page) in
        subst (IsLinked d (zone_bytes d pages)) (sym (level1_row page k e small)) (level1-linked (page / 64) (8 * (page % 64) + k) (omega arith))

    block_places-linked : (page : ℕ) → linked (block_places page)
    block_places-linked page k e h =
        let small : k < 64 = omega (arith, length-block_places page) in
        subst (IsLinked d (zone_bytes d pages)) (sym (block_row page k e small)) (block-linked page k small)

    -- a node of level 3 over a page, then others
    under_level3 : (page : ℕ) (rest : List Place) → linked rest → linked (Node 3 (page / 64) (page % 64 / 8) ∷ rest)
    under_level3 page rest all = All-cons (IsLinked d (zone_bytes d pages)) (Node 3 (page / 64) (page % 64 / 8)) rest (level3-linked (page / 64) (page % 64 / 8) (omega arith)) all

    -- and the node over the page
    under_level2 : (page : ℕ) (rest : List Place) → linked rest → linked (Node 3 (page / 64) (page % 64 / 8) ∷ Node 2 (page / 64) (page % 64) ∷ rest)
    under_level2 page rest all =
        under_level3 page (Node 2 (page / 64) (page % 64) ∷ rest) (All-cons (IsLinked d (zone_bytes d pages)) (Node 2 (page / 64) (page % 64)) rest (level2-linked (page / 64) (page % 64) (omega arith)) all)

    replaced-linked : (page : ℕ) → linked (Node 3 (page / 64) (page % 64 / 8) ∷ [])
    replaced-linked page = under_level3 page [] (All-nil (IsLinked d (zone_bytes d pages)))

    page-linked : (page : ℕ) → linked (Node 3 (page / 64) (page % 64 / 8) ∷ Node 2 (page / 64) (page % 64) ∷ (level1_places page ++ block_places page))
    page-linked page =
        under_level2 page (level1_places page ++ block_places page)
        (All-append (IsLinked d (zone_bytes d pages)) (level1_places page) (block_places page) (level1_places-linked page) (block_places-linked page))

    word-linked : (page block : ℕ) → block < 64
        → linked (Node 3 (page / 64) (page % 64 / 8) ∷ Node 2 (page / 64) (page % 64) ∷ Node 1 (page / 64) (8 * (page % 64) + block / 8) ∷ Block page block ∷ [])
    word-linked page block below =
        let P : Place → Type 0 = IsLinked d (zone_bytes d pages) in
        let last : List Place = Block page block ∷ [] in
        under_level2 page (Node 1 (page / 64) (8 * (page % 64) + block / 8) ∷ last)
        (All-cons P (Node 1 (page / 64) (8 * (page % 64) + block / 8)) last (level1-linked (page / 64) (8 * (page % 64) + block / 8) (omega arith))
        (All-cons P (Block page block) [] (block-linked page block below) (All-nil P)))

  -- ---- the root table

  module _ (entries : List (List ℕ)) (are : AreEntries entries) where
    pub table_top_is_root : d (table_bytes d entries (RootNode 2 0)) ≡ table_root d entries
    unfolding table_root
    table_top_is_root = refl

    pub root_node-linked : (i : ℕ) → i < 8 → IsLinked d (table_bytes d entries) (RootNode 1 i)
    root_node-linked i below = sym (entry-upper_node d law entries i below)

  pub paths_hold : PathsHold d
  paths_hold = record {
    words = λ pages page block zone below. linked_path-holds d (zone_root d pages) (Node 4 (page / 64) 0) (Node 3 (page / 64) (page % 64 / 8) ∷ Node 2 (page / 64) (page % 64) ∷ Node 1 (page / 64) (8 * (page % 64) + block / 8) ∷ Block page block ∷ []) (zone_bytes d pages) (paths_are_top_down.words page block below) (top_is_root pages zone (page / 64)) (word-linked pages zone page block below);
    pages = λ pages page zone. linked_path-holds d (zone_root d pages) (Node 4 (page / 64) 0) (Node 3 (page / 64) (page % 64 / 8) ∷ Node 2 (page / 64) (page % 64) ∷ (level1_places page ++ block_places page)) (zone_bytes d pages) (paths_are_top_down.pages page) (top_is_root pages zone (page / 64)) (page-linked pages zone page);
    replaced = λ pages page zone. linked_path-holds d (zone_root d pages) (Node 4 (page / 64) 0) (Node 3 (page / 64) (page % 64 / 8) ∷ []) (zone_bytes d pages) (paths_are_top_down.replaced page) (top_is_root pages zone (page / 64)) (replaced-linked pages zone page);
    roots = λ entries zone are below.
        linked_path-holds d (table_root d entries) (RootNode 2 0) (RootNode 1 (zone / 8) ∷ []) (table_bytes d entries) (paths_are_top_down.roots zone below) (table_top_is_root entries are)
        (All-cons (IsLinked d (table_bytes d entries)) (RootNode 1 (zone / 8)) [] (root_node-linked entries are (zone / 8) (omega arith)) (All-nil (IsLinked d (table_bytes d entries))));
  }

-- ---- the tree's bytes at the places of a path

module _ (d : List ℕ → List ℕ) (pages_of : ℕ → List (List ℕ)) (entries : List (List ℕ)) where
  of_zone : ℕ → Place → Type 0
  of_zone zone place = tree_bytes d pages_of entries place ≡ zone_bytes d (pages_of zone) place

  level1-of_zone : (page : ℕ) → All (of_zone (page / 64)) (level1_places page)
  unfolding of_zone
  level1-of_zone page k e h =
      let small : k < 8 = omega (arith, length-level1_places page) in
      subst (λ place. tree_bytes d pages_of entries place ≡ zone_bytes d (pages_of (page / 64)) place) (sym (level1_row page k e small)) refl

  blocks-of_zone : (page : ℕ) → All (of_zone (page / 64)) (block_places page)
  unfolding of_zone
  blocks-of_zone page k e h =
      let small : k < 64 = omega (arith, length-block_places page) in
      subst (λ place. tree_bytes d pages_of entries place ≡ zone_bytes d (pages_of (page / 64)) place) (sym (block_row page k e small)) refl

  pub paths_are_of_tree : PathsAreOfTree d pages_of entries
  unfolding of_zone
  paths_are_of_tree = record {
    words = λ page block.
        let P : Place → Type 0 = of_zone (page / 64) in
        let block_last : List Place = Block page block ∷ [] in
        let under2 : List Place = Node 1 (page / 64) (8 * (page % 64) + block / 8) ∷ block_last in
        let under3 : List Place = Node 2 (page / 64) (page % 64) ∷ under2 in
        All-cons P (Node 4 (page / 64) 0) (Node 3 (page / 64) (page % 64 / 8) ∷ under3) refl (All-cons P (Node 3 (page / 64) (page % 64 / 8)) under3 refl (
        All-cons P (Node 2 (page / 64) (page % 64)) under2 refl (All-cons P (Node 1 (page / 64) (8 * (page % 64) + block / 8)) block_last refl (
        All-cons P (Block page block) [] refl (All-nil P)))));
    pages = λ page.
        let P : Place → Type 0 = of_zone (page / 64) in
        let below : List Place = level1_places page ++ block_places page in
        All-cons P (Node 4 (page / 64) 0) (Node 3 (page / 64) (page % 64 / 8) ∷ Node 2 (page / 64) (page % 64) ∷ below) refl (
        All-cons P (Node 3 (page / 64) (page % 64 / 8)) (Node 2 (page / 64) (page % 64) ∷ below) refl (
        All-cons P (Node 2 (page / 64) (page % 64)) below refl (All-append P (level1_places page) (block_places page) (level1-of_zone page) (blocks-of_zone page))));
    replaced = λ page.
        let P : Place → Type 0 = of_zone (page / 64) in
        All-cons P (Node 4 (page / 64) 0) (Node 3 (page / 64) (page % 64 / 8) ∷ []) refl (All-cons P (Node 3 (page / 64) (page % 64 / 8)) [] refl (All-nil P));
    roots = λ zone.
        let P : Place → Type 0 = λ place. tree_bytes d pages_of entries place ≡ table_bytes d entries place in
        All-cons P (RootNode 2 0) (RootNode 1 (zone / 8) ∷ []) refl (All-cons P (RootNode 1 (zone / 8)) [] refl (All-nil P));
  }
