-- What of a zone's tree changes where a part of a block is written.
use Rattle.std.proofs.Common.{◌≡◌, ◌≢◌, ℕ, ◌+◌, ◌*◌, ◌/◌, ◌%◌, ◌<◌, ◌≤◌, ◌==◌, ◌&&◌, true, false, ⊎_elim, List, [], length, map, get_or, set, refl, subst, sym, ap, ◌∙◌, arith}
use Rattle.std.proofs.Math.Seq.{map-set}
use Rattle.std.proofs.lemmas.Bool.{and_parts, cases_Bool, cases_eq, cases_lt, eq-eqb, eqb-false, eqb-true}
use Rattle.std.proofs.lemmas.List.{get_or-set_other, get_or-set_same, length-set, same_lists}
use Rattle.pl_base.specs.Bytes.{with_bytes}
use Rattle.pl_base.specs.declared.place.Place.{Place}
use Rattle.pl_base.specs.declared.place.Place.TheVariants.{Block, Node, RootNode}
use Rattle.pl_digest.specs.Nodes.{with_entry}
use Rattle.pl_digest.specs.Trees.{piece, blocks, block_digests, lower_nodes, upper_node}
use Rattle.pl_digest.proofs.PieceLemmas.{get_or-pieces, length-pieces}
use Rattle.mem_geom.proofs.Parts.{bytes_at-with_bytes_after, bytes_at-with_bytes_before, bytes_at-with_bytes_inside}
use Rattle.mem_tree.specs.Changes.{BlockChanges, IsOfZone, PageChanges, PlaceBytes, above_block, above_page, bytes_after, is_under, renewed, renewed_root, with_page_part}
use Rattle.mem_tree.specs.Trees.{IsZone, nth, zone_bytes, zone_node}
use Rattle.mem_tree.proofs.DigestSteps.{digests_of_length}
use Rattle.mem_tree.proofs.PageChanges.{by_level, other_last, page_changes, picked, same_last}
use Rattle.mem_tree.proofs.TreeChanges.{at_other, changed_node, nth-lower_nodes-set, upper_node-set}
use Rattle.mem_tree.proofs.TreePaths.{length-block_digests}

-- other bytes in one block of a page
module _ (page : List ℕ) (b at : ℕ) (bytes : List ℕ) (sized : length page ≡ 4096) (in_page : b < 64) (in_block : at + length bytes ≤ 64) where
  pub changed_block : piece 64 b (with_bytes page (64 * b + at) bytes) ≡ with_bytes (piece 64 b page) at bytes
  changed_block = bytes_at-with_bytes_inside page (64 * b) 64 at bytes (omega arith) in_block

  pub other_block : (k : ℕ) → k < 64 → k ≢ b → piece 64 k (with_bytes page (64 * b + at) bytes) ≡ piece 64 k page
  other_block k below other =
      ⊎_elim
      (λ (before : k < b). bytes_at-with_bytes_before page (64 * b + at) bytes (omega arith) (64 * k) 64 (omega arith))
      (λ (past : b ≤ k). bytes_at-with_bytes_after page (64 * b + at) bytes (omega arith) (64 * k) 64 (omega arith))
      (cases_lt k b)

  pub blocks-with_bytes : blocks (with_bytes page (64 * b + at) bytes) ≡ set (blocks page) b (with_bytes (piece 64 b page) at bytes)
  blocks-with_bytes =
      let changed : List ℕ = with_bytes page (64 * b + at) bytes in
      let block : List ℕ = with_bytes (piece 64 b page) at bytes in
      same_lists (blocks changed) (set (blocks page) b block)
      (length-pieces 64 64 changed ∙ sym (length-set (blocks page) b block ∙ length-pieces 64 64 page))
      (λ k e h.
      let below : k < 64 = omega (arith, length-pieces 64 64 changed) in
      get_or-pieces 64 64 changed k e below
      ∙ ⊎_elim
      (λ (same : k ≡ b). ap (λ (m : ℕ). piece 64 m changed) same ∙ changed_block
      ∙ sym (ap (λ (m : ℕ). get_or (set (blocks page) b block) m e) same ∙ get_or-set_same (blocks page) b block e (omega (arith, length-pieces 64 64 page))))
      (λ (other : k ≢ b). other_block k below other ∙ sym (get_or-set_other (blocks page) b k block e other ∙ get_or-pieces 64 64 page k e below))
      (cases_eq k b))

module _ (d : List ℕ → List ℕ) (law : (m : List ℕ) → length (d m) ≡ 32) (pages : List (List ℕ)) (zone : IsZone pages) (page b at : ℕ) (bytes : List ℕ) (in_page : b < 64) (in_block : at + length bytes ≤ 64) where
  abbrev p : ℕ
  p = page % 64

  abbrev z : ℕ
  z = page / 64

  abbrev old_page : List ℕ
  old_page = nth pages p

  abbrev new_page : List ℕ
  new_page = with_bytes old_page (64 * b + at) bytes

  abbrev after : List (List ℕ)
  after = with_page_part pages p (64 * b + at) bytes

  abbrev block : List ℕ
  block = with_bytes (piece 64 b old_page) at bytes

  abbrev digests : List (List ℕ)
  digests = block_digests d old_page

  sized : length old_page ≡ 4096
  sized = zone.sizes p [] (omega (arith, zone.count))

  digests_after : block_digests d new_page ≡ set digests b (d block)
  digests_after = ap (map d) (blocks-with_bytes old_page b at bytes sized in_page in_block) ∙ map-set d (blocks old_page) b block

  -- the node over the block, as it was and as it becomes
  abbrev old_level1 : List ℕ
  old_level1 = zone_node d pages 1 (8 * p + b / 8)

  abbrev level1 : List ℕ
  level1 = with_entry (b % 8) (d block) old_level1

  abbrev level2 : List ℕ
  level2 = with_entry ((8 * p + b / 8) % 8) (d level1) (upper_node d digests)

  node_at : (k : ℕ) → k < 8 → zone_node d pages 1 (8 * p + k) ≡ nth (lower_nodes digests) k
  node_at k below =
      let up : (8 * p + k) / 8 ≡ p = omega arith in
      let own : (8 * p + k) % 8 ≡ k = omega arith in
      ap (λ (j : ℕ). nth (lower_nodes (block_digests d (nth pages j))) ((8 * p + k) % 8)) up ∙ ap (nth (lower_nodes digests)) own

  level1_is : level1 ≡ changed_node digests b (d block)
  level1_is = ap (with_entry (b % 8) (d block)) (node_at (b / 8) (omega arith))

  level2_is : level2 ≡ upper_node d (block_digests d new_page)
  level2_is =
      let own : (8 * p + b / 8) % 8 ≡ b / 8 = omega arith in
      ap (λ (k : ℕ). with_entry k (d level1) (upper_node d digests)) own ∙ ap (λ (n : List ℕ). with_entry (b / 8) (d n) (upper_node d digests)) level1_is
      ∙ sym (ap (upper_node d) digests_after ∙ upper_node-set digests b (d block) (length-block_digests d law old_page) (digests_of_length d law (blocks old_page)) (law block) in_page d law)

  changes : PageChanges d pages page new_page
  changes = page_changes d law pages zone page new_page

  abbrev rest : List ℕ → List PlaceBytes
  rest node = renewed d (zone_bytes d pages) (Node 2 z p) node (above_page page)

  abbrev written : List PlaceBytes
  written = renewed d (zone_bytes d pages) (Block page b) block (above_block page b)

  -- a place that isn't under the page
  above : (place : Place) → IsOfZone z place → is_under page place ≡ false → zone_bytes d after place ≡ bytes_after (rest level2) place (zone_bytes d pages place)
  above place of apart = changes.others place of apart ∙ ap (λ (n : List ℕ). bytes_after (rest n) place (zone_bytes d pages place)) (sym level2_is)

  abbrev Changes : ℕ → ℕ → Type 0
  Changes level index = zone_node d after level index ≡ bytes_after written (Node level z index) (zone_node d pages level index)

  node_after : (k : ℕ) → k < 8 → zone_node d after 1 (8 * p + k) ≡ nth (lower_nodes (set digests b (d block))) k
  node_after k below = changes.level1 k below ∙ ap (λ (all : List (List ℕ)). nth (lower_nodes all) k) digests_after

  under_level1 : (k : ℕ) → k < 8 → Changes 1 (8 * p + k)
  under_level1 k below =
      sym (picked (true && (z == z) && (8 * p + b / 8 == 8 * p + k)) level1 (zone_node d pages 1 (8 * p + k)) (zone_node d after 1 (8 * p + k))
      (λ same. let is : b / 8 ≡ k = let h = same_last z (8 * p + b / 8) (8 * p + k) same in omega arith in
      level1_is ∙ sym (nth-lower_nodes-set digests b (d block) (length-block_digests d law old_page) (digests_of_length d law (blocks old_page)) (law block) in_page)
      ∙ ap (nth (lower_nodes (set digests b (d block)))) is ∙ sym (node_after k below))
      (λ other.
      node_at k below
      ∙ sym (at_other digests b (d block) (length-block_digests d law old_page) (digests_of_length d law (blocks old_page)) (law block) in_page k [] below
      (λ same. other_last z (8 * p + b / 8) (8 * p + k) other (omega arith)))
      ∙ sym (node_after k below)))

  node_level1 : (i : ℕ) → i < 512 → Changes 1 i
  node_level1 i below =
      ⊎_elim
      (λ (under : (i / 8 == p) ≡ true). let is : 8 * p + i % 8 ≡ i = let h = eqb-true (i / 8) p under in omega arith in subst (Changes 1) is (under_level1 (i % 8) (omega arith)))
      (λ (apart : (i / 8 == p) ≡ false).
      above (Node 1 z i) (refl, below) apart
      ∙ sym (picked (true && (z == z) && (8 * p + b / 8 == i)) level1 (zone_node d pages 1 i) (zone_node d pages 1 i)
      (λ same. absurd (eqb-false (i / 8) p apart (let h = same_last z (8 * p + b / 8) i same in omega arith)))
      (λ other. refl)))
      (cases_Bool (i / 8 == p))

  own_block : (k : ℕ) → k < 64 → zone_bytes d after (Block page k) ≡ bytes_after written (Block page k) (zone_bytes d pages (Block page k))
  own_block k below =
      sym (picked ((page == page) && (b == k)) block (piece 64 k old_page) (zone_bytes d after (Block page k))
      (λ same. let is : b ≡ k = eqb-true b k (and_parts (page == page) (b == k) same).1 in
      sym (changed_block old_page b at bytes sized in_page in_block) ∙ ap (λ (j : ℕ). piece 64 j new_page) is ∙ sym (changes.blocks k))
      (λ other. let h : b ≢ k = eqb-false b k (rw (eq-eqb page page refl) at other) in
      sym (other_block old_page b at bytes sized in_page in_block k below (λ same. h (sym same))) ∙ sym (changes.blocks k)))

  place_changes : (place : Place) → IsOfZone z place → zone_bytes d after place ≡ bytes_after written place (zone_bytes d pages place)
  place_changes (Block other k) of =
      ⊎_elim
      (λ (own : (other == page) ≡ true). subst (λ (q : ℕ). zone_bytes d after (Block q k) ≡ bytes_after written (Block q k) (zone_bytes d pages (Block q k))) (sym (eqb-true other page own)) (own_block k of.1))
      (λ (apart : (other == page) ≡ false).
      above (Block other k) of apart
      ∙ sym (picked ((page == other) && (b == k)) block (zone_bytes d pages (Block other k)) (zone_bytes d pages (Block other k))
      (λ same. absurd (eqb-false other page apart (sym (eqb-true page other (and_parts (page == other) (b == k) same).0))))
      (λ differ. refl)))
      (cases_Bool (other == page))
  place_changes (Node level own index) of =
      subst (λ (k : ℕ). zone_node d after level index ≡ bytes_after written (Node level k index) (zone_node d pages level index)) (sym of.0)
      (by_level Changes node_level1 (λ i below. above (Node 2 z i) (refl, below) refl) (λ i below. above (Node 3 z i) (refl, below) refl) (above (Node 4 z 0) (refl, omega arith) refl) level index of.1)
  place_changes (RootNode level index) of = absurd of

  pub block_changes : BlockChanges d pages page b at bytes
  block_changes = record {
    places = place_changes;
    root = changes.root ∙ ap (λ (n : List ℕ). renewed_root d (zone_bytes d pages) (Node 2 z p) n (above_page page)) (sym level2_is);
  }
