-- The parts of a word's path in the tree over a zone's pages, after a part of its block was written.
use Rattle.std.proofs.Common.{◌≡◌, ℕ, ◌+◌, ◌*◌, ◌/◌, ◌%◌, ◌<◌, ◌≤◌, ◌==◌, ◌&&◌, true, cond, List, length, refl, sym, ap, ◌∙◌, arith}
use Rattle.std.proofs.lemmas.Bool.{eq-eqb}
use Rattle.pl_base.specs.Bytes.{with_bytes}
use Rattle.pl_base.specs.declared.place.Place.TheVariants.{Block, Node}
use Rattle.pl_digest.specs.Nodes.{with_entry}
use Rattle.pl_digest.specs.Trees.{zone_root}
use Rattle.mem_tree.specs.declared.new_path.NewPath.{NewPath}
use Rattle.mem_tree.specs.Changes.{BlockChanges, with_page_part}
use Rattle.mem_tree.specs.Trees.{IsZone, zone_bytes}
use Rattle.mem_tree.specs.Words.{word_path}
use Rattle.mem_tree.proofs.BlockChanges.{block_changes}

-- paths with the same parts
pub same_paths : (x y : NewPath) → x.block ≡ y.block → x.level1 ≡ y.level1 → x.level2 ≡ y.level2 → x.level3 ≡ y.level3 → x.level4 ≡ y.level4 → x.root ≡ y.root → x ≡ y
same_paths x y b l1 l2 l3 l4 r = λ i. record { block = b i; level1 = l1 i; level2 = l2 i; level3 = l3 i; level4 = l4 i; root = r i }

-- what was written at a node of its zone
at_own : (z i : ℕ) (new old : List ℕ) → cond (true && (z == z) && (i == i)) new old ≡ new
at_own z i new old = rw (eq-eqb z z refl, eq-eqb i i refl) refl

at_own_block : (page b : ℕ) (new old : List ℕ) → cond ((page == page) && (b == b)) new old ≡ new
at_own_block page b new old = rw (eq-eqb page page refl, eq-eqb b b refl) refl

at_top : (z : ℕ) (new old : List ℕ) → cond (true && (z == z) && true) new old ≡ new
at_top z new old = rw (eq-eqb z z refl) refl

module _ (d : List ℕ → List ℕ) (law : (m : List ℕ) → length (d m) ≡ 32) where
  -- the parts after a write, from those before it, where the digests stand at these numbers
  abbrev pub parts_with : NewPath → ℕ → List ℕ → ℕ → ℕ → ℕ → ℕ → NewPath
  parts_with old at part n1 n2 n3 n4 =
      let block : List ℕ = with_bytes old.block at part in
      let level1 : List ℕ = with_entry n1 (d block) old.level1 in
      let level2 : List ℕ = with_entry n2 (d level1) old.level2 in
      let level3 : List ℕ = with_entry n3 (d level2) old.level3 in
      let level4 : List ℕ = with_entry n4 (d level3) old.level4 in
      record { block = block; level1 = level1; level2 = level2; level3 = level3; level4 = level4; root = d level4 }

  pub parts_with-word_path : (pages : List (List ℕ)) (page b at : ℕ) (part : List ℕ) → IsZone pages → b < 64 → at + length part ≤ 64
      → let now = with_page_part pages (page % 64) (64 * b + at) part in
      parts_with (word_path (zone_root d pages) (zone_bytes d pages) page b) at part (b % 8) (b / 8) (page % 8) (page % 64 / 8) ≡ word_path (zone_root d now) (zone_bytes d now) page b
  parts_with-word_path pages page b at part zone in_page in_block =
      let z : ℕ = page / 64 in
      let p : ℕ = page % 64 in
      let i : ℕ = 8 * p + b / 8 in
      let old : NewPath = word_path (zone_root d pages) (zone_bytes d pages) page b in
      let c : BlockChanges d pages page b at part = block_changes d law pages zone page b at part in_page in_block in
      let new : NewPath = parts_with old at part (b % 8) (i % 8) (p % 8) (p / 8 % 8) in
      let e2 : b / 8 ≡ i % 8 = omega arith in
      let e3 : page % 8 ≡ p % 8 = omega arith in
      let e4 : p / 8 ≡ p / 8 % 8 = omega arith in
      ap (λ (n : ℕ). parts_with old at part (b % 8) n (page % 8) (p / 8)) e2 ∙ ap (λ (n : ℕ). parts_with old at part (b % 8) (i % 8) n (p / 8)) e3
      ∙ ap (parts_with old at part (b % 8) (i % 8) (p % 8)) e4
      ∙ same_paths new (word_path (zone_root d (with_page_part pages p (64 * b + at) part)) (zone_bytes d (with_page_part pages p (64 * b + at) part)) page b)
      (sym (c.places (Block page b) (refl, in_page) ∙ at_own_block page b new.block old.block))
      (sym (c.places (Node 1 z i) (refl, omega arith) ∙ at_own z i new.level1 old.level1))
      (sym (c.places (Node 2 z p) (refl, omega arith) ∙ at_own z p new.level2 old.level2))
      (sym (c.places (Node 3 z (p / 8)) (refl, omega arith) ∙ at_own z (p / 8) new.level3 old.level3))
      (sym (c.places (Node 4 z 0) (refl, omega arith) ∙ at_top z new.level4 old.level4))
      (sym c.root)
