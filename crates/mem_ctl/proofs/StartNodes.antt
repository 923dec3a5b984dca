-- The nodes over pages, zones and the root table, written one after another.
use Rattle.std.proofs.Common.{◌≡◌, ℕ, zero, suc, ◌+◌, ◌-◌, ◌*◌, ◌<◌, ◌≤◌, List, [], ◌++◌, length, map, take, drop, get_or, replicate, refl, sym, ap, ◌∙◌, arith, length-append, length-drop}
use Rattle.std.specs.Prelude.{All}
use Rattle.std.specs.List.{concat, range_with_len}
use Rattle.std.proofs.lemmas.List.{get_or-take, length-map, length-replicate, length-take-le, same_lists, take_all, take_more}
use Rattle.std.proofs.lemmas.List.Elements.{All-append, All-drop, All-map, All-nil, All-replicate}
use Rattle.std.proofs.lemmas.List.FromFn.{get_or-range_with_len, length-map-range_with_len, length-range_with_len}
use Rattle.pl_base.specs.Bytes.{with_bytes}
use Rattle.pl_digest.specs.Nodes.{no_root, table_entries}
use Rattle.pl_digest.specs.Trees.{block_digests, blocks, page_root, page_roots, pieces, table_root, upper_node, zone_root}
use Rattle.pl_digest.proofs.PieceLemmas.{AllOfLength, concat-append, length-concat, length-pieces}
use Rattle.mem_geom.specs.Parts.{page_bytes}
use Rattle.mem_geom.proofs.Parts.{bytes_at-with_bytes_before}
use Rattle.mem_tree.specs.Trees.{IsZone, nth}
use Rattle.mem_tree.proofs.DigestSteps.{length-digests}
use Rattle.mem_tree.proofs.TreeNodes.{pieces-digests}
use Rattle.mem_tree.proofs.TreePaths.{page_roots_of_length}
use Rattle.mem_ctl.specs.declared.start.Top.{Top}
use Rattle.mem_ctl.specs.Known.{IsTopOver}
use Rattle.mem_ctl.specs.Start.{level1_nodes, level2_nodes, table_nodes, zone_entries, zone_nodes}
use Rattle.mem_ctl.specs.Writes.{zone_pages}
use Rattle.mem_ctl.proofs.Joined.{concat-map_push, with_bytes-more}
use Rattle.mem_ctl.proofs.PageWrites.{length-level2, whole_page}
use Rattle.mem_ctl.proofs.ZoneLemmas.{get_or-zone_pages, length-zone_pages}

-- ---- one more in a loop that writes one after another

pub step : {A : Type 0} (f : A → List ℕ) (xs : List A) (e : A) (old now new bytes : List ℕ) (at from k n : ℕ) → k < length xs → length (concat (map f (take k xs))) ≡ n * k → from ≡ at + n * k
    → from + length bytes ≤ length old → now ≡ with_bytes old at (concat (map f (take k xs))) → bytes ≡ f (get_or xs k e) → new ≡ with_bytes now from bytes
    → new ≡ with_bytes old at (concat (map f (take (k + 1) xs)))
step f xs e old now new bytes at from k n below count far fits so_far is wrote =
    let done : List ℕ = concat (map f (take k xs)) in
    let place : from ≡ at + length done = omega (arith, count) in
    wrote ∙ ap (λ (m : List ℕ). with_bytes m from bytes) so_far ∙ ap (λ (p : ℕ). with_bytes (with_bytes old at done) p bytes) place
    ∙ with_bytes-more old at done bytes (omega arith)
    ∙ ap (λ (r : List ℕ). with_bytes old at (done ++ r)) is ∙ ap (with_bytes old at) (sym (concat-map_push f (take k xs) (get_or xs k e)))
    ∙ ap (λ (ys : List _). with_bytes old at (concat (map f ys))) (sym (take_more xs k e below))

-- ---- sizes

zeros-same : (xs ys : List ℕ) → All (λ byte. byte ≡ 0) xs → All (λ byte. byte ≡ 0) ys → length xs ≡ length ys → xs ≡ ys
zeros-same xs ys left right same = same_lists xs ys same (λ k d h. left k d h ∙ sym (right k d (omega arith)))

-- the entries of zones that there are not
none_of_length : (n : ℕ) → AllOfLength 32 (replicate n no_root)
unfolding no_root
none_of_length n = let nothing : ℕ = 0 in All-replicate (λ (xs : List ℕ). length xs ≡ 32) n (replicate 32 0) (length-replicate 32 nothing)

none-zero : (n : ℕ) → All (λ byte. byte ≡ 0) (concat (replicate n no_root))
unfolding no_root
none-zero zero = All-nil (λ byte. byte ≡ 0)
none-zero (suc n) = All-append (λ byte. byte ≡ 0) (replicate 32 0) (concat (replicate n (replicate 32 0))) (All-replicate (λ byte. byte ≡ 0) 32 0 refl) (none-zero n)

module _ (d : List ℕ → List ℕ) (law : (m : List ℕ) → length (d m) ≡ 32) where
  pub length-level1_of : (page : List ℕ) → length (concat (block_digests d page)) ≡ 2048
  length-level1_of page = length-digests d law (blocks page) ∙ ap (λ (n : ℕ). 32 * n) (length-pieces 64 64 page)

  pub level1_of_length : (pages : List (List ℕ)) → AllOfLength 2048 (map (λ page. concat (block_digests d page)) pages)
  level1_of_length pages = All-map (λ (xs : List ℕ). length xs ≡ 2048) (λ page. concat (block_digests d page)) pages (λ k e h. length-level1_of (get_or pages k e))

  pub level2_of_length : (pages : List (List ℕ)) → AllOfLength 256 (map (λ page. upper_node d (block_digests d page)) pages)
  level2_of_length pages = All-map (λ (xs : List ℕ). length xs ≡ 256) (λ page. upper_node d (block_digests d page)) pages (λ k e h. length-level2 d law (get_or pages k e))

  pub length-level1_nodes : (pages : List (List ℕ)) → length (level1_nodes d pages) ≡ 2048 * length pages
  unfolding level1_nodes
  length-level1_nodes pages = length-concat 2048 (map (λ page. concat (block_digests d page)) pages) (level1_of_length pages) ∙ ap (λ (n : ℕ). 2048 * n) (length-map pages (λ page. concat (block_digests d page)))

  pub length-level2_nodes : (pages : List (List ℕ)) → length (level2_nodes d pages) ≡ 256 * length pages
  unfolding level2_nodes
  length-level2_nodes pages = length-concat 256 (map (λ page. upper_node d (block_digests d page)) pages) (level2_of_length pages) ∙ ap (λ (n : ℕ). 256 * n) (length-map pages (λ page. upper_node d (block_digests d page)))

  pub length-roots : (pages : List (List ℕ)) → length (concat (page_roots d pages)) ≡ 32 * length pages
  length-roots pages = length-concat 32 (page_roots d pages) (page_roots_of_length d law pages) ∙ ap (λ (n : ℕ). 32 * n) (length-map pages (page_root d))

  -- ---- the pages of a zone, one after another

  module _ (pages : List (List ℕ)) (count : length pages ≡ 64) (k : ℕ) (below : k < 64) where
    taken-count : length (take k pages) ≡ k
    taken-count = length-take-le k pages (omega arith)

    pub level1-step : (old now new bytes : List ℕ) (at from : ℕ) → from ≡ at + 2048 * k → at + 131072 ≤ length old → now ≡ with_bytes old at (level1_nodes d (take k pages))
        → bytes ≡ concat (block_digests d (nth pages k)) → new ≡ with_bytes now from bytes → new ≡ with_bytes old at (level1_nodes d (take (k + 1) pages))
    unfolding level1_nodes
    level1-step old now new bytes at from far fits so_far is wrote =
        let size : length bytes ≡ 2048 = ap length is ∙ length-level1_of (nth pages k) in
        step (λ page. concat (block_digests d page)) pages [] old now new bytes at from k 2048 (omega arith)
        (length-concat 2048 (map (λ page. concat (block_digests d page)) (take k pages)) (level1_of_length (take k pages)) ∙ ap (λ (n : ℕ). 2048 * n) (length-map (take k pages) (λ page. concat (block_digests d page)) ∙ taken-count))
        far (omega arith) so_far is wrote

    pub level2-step : (old now new bytes : List ℕ) → length old ≡ 16384 → now ≡ with_bytes old 0 (level2_nodes d (take k pages))
        → bytes ≡ upper_node d (block_digests d (nth pages k)) → new ≡ with_bytes now (256 * k) bytes → new ≡ with_bytes old 0 (level2_nodes d (take (k + 1) pages))
    unfolding level2_nodes
    level2-step old now new bytes fits so_far is wrote =
        let size : length bytes ≡ 256 = ap length is ∙ length-level2 d law (nth pages k) in
        step (λ page. upper_node d (block_digests d page)) pages [] old now new bytes 0 (256 * k) k 256 (omega arith)
        (length-concat 256 (map (λ page. upper_node d (block_digests d page)) (take k pages)) (level2_of_length (take k pages)) ∙ ap (λ (n : ℕ). 256 * n) (length-map (take k pages) (λ page. upper_node d (block_digests d page)) ∙ taken-count))
        (omega arith) (omega arith) so_far is wrote

    pub roots-step : (old now new bytes : List ℕ) → length old ≡ 2048 → now ≡ with_bytes old 0 (concat (page_roots d (take k pages)))
        → bytes ≡ page_root d (nth pages k) → new ≡ with_bytes now (32 * k) bytes → new ≡ with_bytes old 0 (concat (page_roots d (take (k + 1) pages)))
    unfolding page_root
    roots-step old now new bytes fits so_far is wrote =
        let size : length bytes ≡ 32 = ap length is ∙ law _ in
        step (page_root d) pages [] old now new bytes 0 (32 * k) k 32 (omega arith)
        (length-roots (take k pages) ∙ ap (λ (n : ℕ). 32 * n) taken-count)
        (omega arith) (omega arith) so_far is wrote

  -- before the first, and after the last
  pub level1-start : (pages : List (List ℕ)) (old : List ℕ) (at : ℕ) → with_bytes old at [] ≡ old → old ≡ with_bytes old at (level1_nodes d (take 0 pages))
  unfolding level1_nodes
  level1-start pages old at none = sym none

  pub level2-start : (pages : List (List ℕ)) (old : List ℕ) (at : ℕ) → with_bytes old at [] ≡ old → old ≡ with_bytes old at (level2_nodes d (take 0 pages))
  unfolding level2_nodes
  level2-start pages old at none = sym none

  pub level2-end : (pages : List (List ℕ)) (old now : List ℕ) → length pages ≡ 64 → length old ≡ 16384 → now ≡ with_bytes old 0 (level2_nodes d (take 64 pages)) → now ≡ level2_nodes d pages
  level2-end pages old now count size is =
      is ∙ ap (λ (ps : List (List ℕ)). with_bytes old 0 (level2_nodes d ps)) (take_all 64 pages (omega arith)) ∙ whole_page old (level2_nodes d pages) (omega (arith, length-level2_nodes pages))

  pub roots-end : (pages : List (List ℕ)) (old now : List ℕ) → length pages ≡ 64 → length old ≡ 2048 → now ≡ with_bytes old 0 (concat (page_roots d (take 64 pages))) → now ≡ concat (page_roots d pages)
  roots-end pages old now count size is =
      is ∙ ap (λ (ps : List (List ℕ)). with_bytes old 0 (concat (page_roots d ps))) (take_all 64 pages (omega arith)) ∙ whole_page old (concat (page_roots d pages)) (omega (arith, length-roots pages))

  -- ---- the node over eight nodes

  pub top-node : (lower : List ℕ) (digests : List (List ℕ)) → AllOfLength 32 digests → lower ≡ concat digests → concat (map d (pieces 256 8 lower)) ≡ upper_node d digests
  top-node lower digests sizes is = ap (λ (xs : List ℕ). concat (map d (pieces 256 8 xs))) is ∙ ap (λ (nodes : List (List ℕ)). concat (map d nodes)) (pieces-digests digests sizes)

  -- ---- a zone

  pub zone-root : (pages : List (List ℕ)) (lower : List ℕ) (top : Top) → lower ≡ concat (page_roots d pages) → IsTopOver d lower top → top.root ≡ zone_root d pages
  unfolding zone_root
  zone-root pages lower top is over = over.root ∙ ap d (over.node ∙ top-node lower (page_roots d pages) (page_roots_of_length d law pages) is)

  pub zone-written : (pages : List (List ℕ)) (memory : List ℕ) (at : ℕ) (level2 roots : List ℕ) (top : Top) → IsZone pages → at + 149760 ≤ length memory → level2 ≡ level2_nodes d pages → roots ≡ concat (page_roots d pages)
      → IsTopOver d roots top
      → with_bytes (with_bytes (with_bytes (with_bytes memory at (level1_nodes d pages)) (at + 131072) level2) (at + 147456) roots) (at + 149504) top.node ≡ with_bytes memory at (zone_nodes d pages)
  unfolding zone_nodes
  zone-written pages memory at level2 roots top zone fits two three over =
      let l1 : List ℕ = level1_nodes d pages in
      let l2 : List ℕ = level2_nodes d pages in
      let l3 : List ℕ = concat (page_roots d pages) in
      let l4 : List ℕ = upper_node d (page_roots d pages) in
      let four : top.node ≡ l4 = over.node ∙ top-node roots (page_roots d pages) (page_roots_of_length d law pages) three in
      let size1 : length l1 ≡ 131072 = length-level1_nodes pages ∙ ap (λ (n : ℕ). 2048 * n) zone.count in
      let size2 : length l2 ≡ 16384 = length-level2_nodes pages ∙ ap (λ (n : ℕ). 256 * n) zone.count in
      let size3 : length l3 ≡ 2048 = length-roots pages ∙ ap (λ (n : ℕ). 32 * n) zone.count in
      let size4 : length l4 ≡ 256 = ap length (sym (top-node l3 (page_roots d pages) (page_roots_of_length d law pages) refl)) ∙ length-digests d law (pieces 256 8 l3) ∙ ap (λ (n : ℕ). 32 * n) (length-pieces 256 8 l3) in
      let from2 : at + 131072 ≡ at + length l1 = omega arith in
      let from3 : at + 147456 ≡ at + length (l1 ++ l2) = omega (arith, length-append l1 l2) in
      let from4 : at + 149504 ≡ at + length (l1 ++ l2 ++ l3) = omega (arith, length-append l1 l2, length-append (l1 ++ l2) l3) in
      ap (λ (xs : List ℕ). with_bytes (with_bytes (with_bytes (with_bytes memory at l1) (at + 131072) xs) (at + 147456) roots) (at + 149504) top.node) two
      ∙ ap (λ (xs : List ℕ). with_bytes (with_bytes (with_bytes (with_bytes memory at l1) (at + 131072) l2) (at + 147456) xs) (at + 149504) top.node) three
      ∙ ap (λ (xs : List ℕ). with_bytes (with_bytes (with_bytes (with_bytes memory at l1) (at + 131072) l2) (at + 147456) l3) (at + 149504) xs) four
      ∙ ap (λ (m : List ℕ). with_bytes (with_bytes m (at + 147456) l3) (at + 149504) l4)
      (ap (λ (p : ℕ). with_bytes (with_bytes memory at l1) p l2) from2 ∙ with_bytes-more memory at l1 l2 (omega arith))
      ∙ ap (λ (m : List ℕ). with_bytes m (at + 149504) l4)
      (ap (λ (p : ℕ). with_bytes (with_bytes memory at (l1 ++ l2)) p l3) from3 ∙ with_bytes-more memory at (l1 ++ l2) l3 (omega (arith, length-append l1 l2)))
      ∙ ap (λ (p : ℕ). with_bytes (with_bytes memory at (l1 ++ l2 ++ l3)) p l4) from4 ∙ with_bytes-more memory at (l1 ++ l2 ++ l3) l4 (omega (arith, length-append l1 l2, length-append (l1 ++ l2) l3))

  pub length-zone_nodes : (pages : List (List ℕ)) → IsZone pages → length (zone_nodes d pages) ≡ 149760
  unfolding zone_nodes
  length-zone_nodes pages zone =
      let l1 : List ℕ = level1_nodes d pages in
      let l2 : List ℕ = level2_nodes d pages in
      let l3 : List ℕ = concat (page_roots d pages) in
      let l4 : List ℕ = upper_node d (page_roots d pages) in
      let size4 : length l4 ≡ 256 = ap length (sym (top-node l3 (page_roots d pages) (page_roots_of_length d law pages) refl)) ∙ length-digests d law (pieces 256 8 l3) ∙ ap (λ (n : ℕ). 32 * n) (length-pieces 256 8 l3) in
      omega (arith, length-append (l1 ++ l2 ++ l3) l4, length-append (l1 ++ l2) l3, length-append l1 l2, length-level1_nodes pages, length-level2_nodes pages, length-roots pages, zone.count)

  -- a page of the zone, while the nodes of level 1 are written behind it
  pub level1-page : (memory now : List ℕ) (zone k at : ℕ) → at + 131072 ≤ length memory → 262144 * (zone + 1) ≤ at → k < 64 → now ≡ with_bytes memory at (level1_nodes d (take k (zone_pages memory zone)))
      → page_bytes now (64 * zone + k) ≡ nth (zone_pages memory zone) k
  level1-page memory now zone k at fits behind below is =
      let pages : List (List ℕ) = zone_pages memory zone in
      let nodes : List ℕ = level1_nodes d (take k pages) in
      let size : length nodes ≡ 2048 * k = length-level1_nodes (take k pages) ∙ ap (λ (n : ℕ). 2048 * n) (length-take-le k pages (omega (arith, length-zone_pages memory zone))) in
      ap (λ (m : List ℕ). page_bytes m (64 * zone + k)) is ∙ bytes_at-with_bytes_before memory at nodes (omega arith) (4096 * (64 * zone + k)) 4096 (omega arith)
      ∙ sym (get_or-zone_pages memory zone k [] below)

-- ---- all zones, and the root table

module _ (d : List ℕ → List ℕ) (law : (m : List ℕ) → length (d m) ≡ 32) (zones : ℕ) (few : zones ≤ 64) (pages_of : ℕ → List (List ℕ)) (are : (zone : ℕ) → zone < zones → IsZone (pages_of zone)) where
  abbrev nodes_of : ℕ → List ℕ
  nodes_of zone = zone_nodes d (pages_of zone)

  abbrev root_of_zone : ℕ → List ℕ
  root_of_zone zone = zone_root d (pages_of zone)

  pub zones_of_length : (k : ℕ) → k ≤ zones → AllOfLength 149760 (map (λ zone. zone_nodes d (pages_of zone)) (take k (range_with_len 0 zones)))
  zones_of_length k most =
      All-map (λ (xs : List ℕ). length xs ≡ 149760) nodes_of (take k (range_with_len 0 zones))
      (λ i e h.
      let below : i < k = omega (arith, length-take-le k (range_with_len 0 zones) (omega (arith, length-range_with_len 0 zones))) in
      length-zone_nodes d law (pages_of (get_or (take k (range_with_len 0 zones)) i e))
      (are (get_or (take k (range_with_len 0 zones)) i e) (let is = get_or-take k (range_with_len 0 zones) i e below ∙ get_or-range_with_len 0 zones i e (omega arith) in omega arith)))

  pub length-zones : (k : ℕ) → k ≤ zones → length (concat (map (λ zone. zone_nodes d (pages_of zone)) (take k (range_with_len 0 zones)))) ≡ 149760 * k
  length-zones k most =
      length-concat 149760 (map nodes_of (take k (range_with_len 0 zones))) (zones_of_length k most)
      ∙ ap (λ (n : ℕ). 149760 * n) (length-map (take k (range_with_len 0 zones)) nodes_of ∙ length-take-le k (range_with_len 0 zones) (omega (arith, length-range_with_len 0 zones)))

  roots_of_length : (zs : List ℕ) → AllOfLength 32 (map (λ zone. zone_root d (pages_of zone)) zs)
  unfolding zone_root
  roots_of_length zs = All-map (λ (xs : List ℕ). length xs ≡ 32) root_of_zone zs (λ k e h. law _)

  pub length-zone_roots : (k : ℕ) → k ≤ zones → length (concat (map (λ zone. zone_root d (pages_of zone)) (take k (range_with_len 0 zones)))) ≡ 32 * k
  length-zone_roots k most =
      length-concat 32 (map root_of_zone (take k (range_with_len 0 zones))) (roots_of_length (take k (range_with_len 0 zones)))
      ∙ ap (λ (n : ℕ). 32 * n) (length-map (take k (range_with_len 0 zones)) root_of_zone ∙ length-take-le k (range_with_len 0 zones) (omega (arith, length-range_with_len 0 zones)))

  -- ---- the entries of the root table

  pub entries_of_length : AllOfLength 32 (zone_entries d zones pages_of)
  unfolding zone_entries table_entries
  entries_of_length =
      let roots : List (List ℕ) = map root_of_zone (range_with_len 0 zones) in
      All-append (λ (xs : List ℕ). length xs ≡ 32) roots (replicate (64 - length roots) no_root) (roots_of_length (range_with_len 0 zones)) (none_of_length (64 - length roots))

  pub length-entries : length (zone_entries d zones pages_of) ≡ 64
  unfolding zone_entries table_entries
  length-entries =
      let roots : List (List ℕ) = map root_of_zone (range_with_len 0 zones) in
      let count : length roots ≡ zones = length-map-range_with_len root_of_zone 0 zones in
      omega (arith, length-append roots (replicate (64 - length roots) no_root), length-replicate (64 - length roots) no_root)

  -- after the last zone, all else is zero
  pub entries-end : (old now : List ℕ) → length old ≡ 2048 → All (λ byte. byte ≡ 0) old → now ≡ with_bytes old 0 (concat (map (λ zone. zone_root d (pages_of zone)) (take zones (range_with_len 0 zones))))
      → now ≡ concat (zone_entries d zones pages_of)
  unfolding zone_entries table_entries
  entries-end old now size blank is =
      let roots : List (List ℕ) = map root_of_zone (range_with_len 0 zones) in
      let count : length roots ≡ zones = length-map-range_with_len root_of_zone 0 zones in
      let whole : take zones (range_with_len 0 zones) ≡ range_with_len 0 zones = take_all zones (range_with_len 0 zones) (omega (arith, length-range_with_len 0 zones)) in
      let done : length (concat roots) ≡ 32 * zones = length-concat 32 roots (roots_of_length (range_with_len 0 zones)) ∙ ap (λ (n : ℕ). 32 * n) count in
      let rest : List (List ℕ) = replicate (64 - length roots) no_root in
      let left : length (concat rest) ≡ 32 * (64 - zones) =
      length-concat 32 rest (none_of_length (64 - length roots)) ∙ ap (λ (n : ℕ). 32 * n) (length-replicate (64 - length roots) no_root ∙ ap (λ (n : ℕ). 64 - n) count) in
      is ∙ ap (λ (zs : List ℕ). with_bytes old 0 (concat (map root_of_zone zs))) whole
      ∙ ap (λ (r : List ℕ). concat roots ++ r) (zeros-same (drop (0 + length (concat roots)) old) (concat rest) (All-drop (λ byte. byte ≡ 0) (0 + length (concat roots)) old blank) (none-zero (64 - length roots)) (omega (arith, length-drop (0 + length (concat roots)) old)))
      ∙ sym (concat-append roots rest)

  -- one zone more
  module _ (k : ℕ) (below : k < zones) where
    pub zones-step : (old now new bytes : List ℕ) (at from : ℕ) → from ≡ at + 149760 * k → at + 149760 * zones ≤ length old → now ≡ with_bytes old at (concat (map (λ zone. zone_nodes d (pages_of zone)) (take k (range_with_len 0 zones))))
        → bytes ≡ zone_nodes d (pages_of k) → new ≡ with_bytes now from bytes → new ≡ with_bytes old at (concat (map (λ zone. zone_nodes d (pages_of zone)) (take (k + 1) (range_with_len 0 zones))))
    zones-step old now new bytes at from far fits so_far is wrote =
        let size : length bytes ≡ 149760 = ap length is ∙ length-zone_nodes d law (pages_of k) (are k below) in
        let own : get_or (range_with_len 0 zones) k 0 ≡ k = get_or-range_with_len 0 zones k 0 below ∙ omega arith in
        step nodes_of (range_with_len 0 zones) 0 old now new bytes at from k 149760 (omega (arith, length-range_with_len 0 zones)) (length-zones k (omega arith)) far (omega arith) so_far
        (is ∙ ap nodes_of (sym own)) wrote

    pub zone_roots-step : (old now new bytes : List ℕ) → length old ≡ 2048 → now ≡ with_bytes old 0 (concat (map (λ zone. zone_root d (pages_of zone)) (take k (range_with_len 0 zones))))
        → bytes ≡ zone_root d (pages_of k) → new ≡ with_bytes now (32 * k) bytes → new ≡ with_bytes old 0 (concat (map (λ zone. zone_root d (pages_of zone)) (take (k + 1) (range_with_len 0 zones))))
    unfolding zone_root
    zone_roots-step old now new bytes fits so_far is wrote =
        let size : length bytes ≡ 32 = ap length is ∙ law _ in
        let own : get_or (range_with_len 0 zones) k 0 ≡ k = get_or-range_with_len 0 zones k 0 below ∙ omega arith in
        step root_of_zone (range_with_len 0 zones) 0 old now new bytes 0 (32 * k) k 32 (omega (arith, length-range_with_len 0 zones)) (length-zone_roots k (omega arith)) (omega arith) (omega arith) so_far
        (is ∙ ap root_of_zone (sym own)) wrote

  -- the root table behind all zones
  pub table-root : (lower root : List ℕ) → lower ≡ concat (zone_entries d zones pages_of) → root ≡ d (concat (map d (pieces 256 8 lower))) → root ≡ table_root d (zone_entries d zones pages_of)
  unfolding table_root
  table-root lower root is own = own ∙ ap d (top-node d law lower (zone_entries d zones pages_of) entries_of_length is)

  pub table-written : (memory middle lower : List ℕ) (at from : ℕ) → from ≡ at + 149760 * zones → from + 2304 ≤ length memory → lower ≡ concat (zone_entries d zones pages_of)
      → middle ≡ with_bytes memory at (concat (map (λ zone. zone_nodes d (pages_of zone)) (range_with_len 0 zones)))
      → with_bytes middle from (lower ++ concat (map d (pieces 256 8 lower)))
      ≡ with_bytes memory at (concat (map (λ zone. zone_nodes d (pages_of zone)) (range_with_len 0 zones)) ++ table_nodes d (zone_entries d zones pages_of))
  unfolding table_nodes
  table-written memory middle lower at from far fits is so_far =
      let entries : List (List ℕ) = zone_entries d zones pages_of in
      let nodes : List ℕ = concat (map nodes_of (range_with_len 0 zones)) in
      let table : List ℕ = concat entries ++ upper_node d entries in
      let all : take zones (range_with_len 0 zones) ≡ range_with_len 0 zones = take_all zones (range_with_len 0 zones) (omega (arith, length-range_with_len 0 zones)) in
      let size : length nodes ≡ 149760 * zones = ap (λ (zs : List ℕ). length (concat (map nodes_of zs))) (sym all) ∙ length-zones zones (omega arith) in
      let own : lower ++ concat (map d (pieces 256 8 lower)) ≡ table = ap (λ (r : List ℕ). lower ++ r) (top-node d law lower entries entries_of_length is) ∙ ap (λ (r : List ℕ). r ++ upper_node d entries) is in
      let top_size : length (upper_node d entries) ≡ 256 = ap length (sym (top-node d law (concat entries) entries entries_of_length refl)) ∙ length-digests d law (pieces 256 8 (concat entries)) ∙ ap (λ (n : ℕ). 32 * n) (length-pieces 256 8 (concat entries)) in
      let low_size : length (concat entries) ≡ 2048 = length-concat 32 entries entries_of_length ∙ ap (λ (n : ℕ). 32 * n) length-entries in
      let place : from ≡ at + length nodes = omega (arith, size) in
      ap (with_bytes middle from) own ∙ ap (λ (m : List ℕ). with_bytes m from table) so_far ∙ ap (λ (p : ℕ). with_bytes (with_bytes memory at nodes) p table) place
      ∙ with_bytes-more memory at nodes table (omega (arith, length-append (concat entries) (upper_node d entries)))
