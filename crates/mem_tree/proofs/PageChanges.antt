-- What of a zone's tree changes where a page is replaced.
use Rattle.std.proofs.Common.{◌≡◌, ◌≢◌, ℕ, zero, suc, ◌+◌, ◌*◌, ◌/◌, ◌%◌, ◌<◌, ◌==◌, ◌&&◌, Bool, true, false, cond, List, [], length, set, refl, subst, sym, ap, ◌∙◌, arith}
use Rattle.std.proofs.Math.Seq.{map-set}
use Rattle.std.proofs.lemmas.Bool.{and_parts, eq-eqb, eqb-false, eqb-true, false≢true}
use Rattle.std.proofs.lemmas.Bool.Decides.{nat_tests}
use Rattle.std.proofs.lemmas.List.{get_or-set_other, get_or-set_same}
use Rattle.pl_base.specs.declared.place.Place.{Place}
use Rattle.pl_base.specs.declared.place.Place.TheVariants.{Block, Node, RootNode}
use Rattle.pl_digest.specs.Nodes.{with_entry}
use Rattle.pl_digest.specs.Trees.{piece, block_digests, lower_nodes, page_root, page_roots, upper_node, zone_root}
use Rattle.mem_geom.specs.Layout.{nodes_of_level}
use Rattle.mem_tree.specs.Changes.{IsOfZone, PageChanges, PlaceBytes, above_page, bytes_after, is_under, renewed}
use Rattle.mem_tree.specs.Trees.{IsZone, nth, zone_bytes, zone_node}
use Rattle.mem_tree.proofs.TreeChanges.{at_other, changed_node, nth-lower_nodes-set, upper_node-set}
use Rattle.mem_tree.proofs.TreePaths.{length-page_roots, page_roots_of_length}

-- level by level
pub by_level : (P : ℕ → ℕ → Type 0) → ((i : ℕ) → i < 512 → P 1 i) → ((i : ℕ) → i < 64 → P 2 i) → ((i : ℕ) → i < 8 → P 3 i) → P 4 0
    → (level index : ℕ) → index < nodes_of_level level → P level index
by_level P one two three four zero index below = absurd (omega arith)
by_level P one two three four (suc zero) index below = one index below
by_level P one two three four (suc (suc zero)) index below = two index below
by_level P one two three four (suc (suc (suc zero))) index below = three index below
by_level P one two three four (suc (suc (suc (suc zero)))) index below = let none : 0 ≡ index = omega arith in subst (P 4) none four
by_level P one two three four (suc (suc (suc (suc (suc level))))) index below = absurd (no_node level index below)
  where
    no_node : (level index : ℕ) → index < nodes_of_level (suc (suc (suc (suc (suc level))))) → ⊥
    no_node level index below = grind (arith, nat_tests)

-- one of two, by a test
pub picked : (b : Bool) (new old want : List ℕ) → (b ≡ true → new ≡ want) → (b ≡ false → old ≡ want) → cond b new old ≡ want
picked true new old want here past = here refl
picked false new old want here past = past refl

-- the last part of a test whose other parts hold
pub same_last : (z i j : ℕ) → (true && (z == z) && (i == j)) ≡ true → i ≡ j
same_last z i j h = let k = and_parts (true && (z == z)) (i == j) h in eqb-true i j k.1

pub other_last : (z i j : ℕ) → (true && (z == z) && (i == j)) ≡ false → i ≢ j
other_last z i j h = eqb-false i j (rw (eq-eqb z z refl) at h)

module _ (d : List ℕ → List ℕ) (law : (m : List ℕ) → length (d m) ≡ 32) (pages : List (List ℕ)) (zone : IsZone pages) (page : ℕ) (new : List ℕ) where
  abbrev p : ℕ
  p = page % 64

  abbrev z : ℕ
  z = page / 64

  abbrev after : List (List ℕ)
  after = set pages p new

  abbrev level2 : List ℕ
  level2 = upper_node d (block_digests d new)

  abbrev roots : List (List ℕ)
  roots = page_roots d pages

  abbrev level3 : List ℕ
  level3 = changed_node roots p (d level2)

  abbrev written : List PlaceBytes
  written = renewed d (zone_bytes d pages) (Node 2 z p) level2 (above_page page)

  small : p < 64
  small = omega arith

  pub page_is : nth after p ≡ new
  page_is = get_or-set_same pages p new [] (omega (arith, zone.count))

  other_page : (k : ℕ) → k ≢ p → nth after k ≡ nth pages k
  other_page k other = get_or-set_other pages p k new [] other

  roots_after : page_roots d after ≡ set roots p (d level2)
  unfolding page_root
  roots_after = map-set (page_root d) pages p new

  node_level1 : (k : ℕ) → k < 8 → zone_bytes d after (Node 1 z (8 * p + k)) ≡ nth (lower_nodes (block_digests d new)) k
  node_level1 k below =
      let up : (8 * p + k) / 8 ≡ p = omega arith in
      let own : (8 * p + k) % 8 ≡ k = omega arith in
      ap (λ (j : ℕ). nth (lower_nodes (block_digests d (nth after j))) ((8 * p + k) % 8)) up ∙ ap (nth (lower_nodes (block_digests d (nth after p)))) own
      ∙ ap (λ (bytes : List ℕ). nth (lower_nodes (block_digests d bytes)) k) page_is

  node_level4 : upper_node d (page_roots d after) ≡ with_entry (p / 8 % 8) (d level3) (upper_node d roots)
  node_level4 =
      let same : p / 8 ≡ p / 8 % 8 = omega arith in
      ap (upper_node d) roots_after ∙ upper_node-set roots p (d level2) (length-page_roots d law pages zone) (page_roots_of_length d law pages) (law level2) small d law
      ∙ ap (λ (k : ℕ). with_entry k (d level3) (upper_node d roots)) same

  abbrev Stays : ℕ → ℕ → Type 0
  Stays level index = is_under page (Node level z index) ≡ false → zone_node d after level index ≡ bytes_after written (Node level z index) (zone_node d pages level index)

  other_level1 : (i : ℕ) → i < 512 → Stays 1 i
  other_level1 i below apart = ap (λ (bytes : List ℕ). nth (lower_nodes (block_digests d bytes)) (i % 8)) (other_page (i / 8) (eqb-false (i / 8) p apart))

  other_level2 : (i : ℕ) → i < 64 → Stays 2 i
  other_level2 i below apart =
      sym (picked (true && (z == z) && (p == i)) level2 (zone_node d pages 2 i) (zone_node d after 2 i)
      (λ same. let is : p ≡ i = same_last z p i same in
      ap (λ (bytes : List ℕ). upper_node d (block_digests d bytes)) (sym page_is) ∙ ap (λ (k : ℕ). upper_node d (block_digests d (nth after k))) is)
      (λ other. ap (λ (bytes : List ℕ). upper_node d (block_digests d bytes)) (sym (other_page i (λ same. other_last z p i other (sym same))))))

  other_level3 : (i : ℕ) → i < 8 → Stays 3 i
  other_level3 i below apart =
      sym (picked (true && (z == z) && (p / 8 == i)) level3 (zone_node d pages 3 i) (zone_node d after 3 i)
      (λ same. let is : p / 8 ≡ i = same_last z (p / 8) i same in
      sym (nth-lower_nodes-set roots p (d level2) (length-page_roots d law pages zone) (page_roots_of_length d law pages) (law level2) small)
      ∙ ap (λ (all : List (List ℕ)). nth (lower_nodes all) (p / 8)) (sym roots_after) ∙ ap (nth (lower_nodes (page_roots d after))) is)
      (λ other. sym (ap (λ (all : List (List ℕ)). nth (lower_nodes all) i) roots_after
      ∙ at_other roots p (d level2) (length-page_roots d law pages zone) (page_roots_of_length d law pages) (law level2) small i [] below (λ same. other_last z (p / 8) i other (sym same)))))

  other_level4 : Stays 4 0
  other_level4 apart =
      sym (picked (true && (z == z) && true) (with_entry (p / 8 % 8) (d level3) (upper_node d roots)) (upper_node d roots) (upper_node d (page_roots d after))
      (λ same. sym node_level4)
      (λ other. absurd (false≢true (sym other ∙ rw (eq-eqb z z refl) refl))))

  other_place : (place : Place) → IsOfZone z place → is_under page place ≡ false → zone_bytes d after place ≡ bytes_after written place (zone_bytes d pages place)
  other_place (Block other block) of apart =
      ap (piece 64 block) (other_page (other % 64) (λ same. eqb-false other page apart (let h = of.0 in omega arith)))
  other_place (Node level own index) of apart =
      subst (λ (k : ℕ). is_under page (Node level k index) ≡ false → zone_node d after level index ≡ bytes_after written (Node level k index) (zone_node d pages level index)) (sym of.0)
      (by_level Stays other_level1 other_level2 other_level3 other_level4 level index of.1) apart
  other_place (RootNode level index) of apart = absurd of

  pub page_changes : PageChanges d pages page new
  unfolding zone_root
  page_changes = record {
    blocks = λ block. ap (piece 64 block) page_is;
    level1 = node_level1;
    others = other_place;
    root = ap d node_level4;
  }
