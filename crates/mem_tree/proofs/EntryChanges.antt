-- What of the root table changes with one of its entries.
use Rattle.std.proofs.Common.{◌≡◌, ℕ, zero, suc, ◌/◌, ◌<◌, ◌==◌, ◌&&◌, true, List, [], ◌∷◌, length, set, subst, sym, ap, ◌∙◌, arith}
use Rattle.std.proofs.lemmas.Bool.{eqb-false, eqb-true}
use Rattle.std.proofs.lemmas.Bool.Decides.{nat_tests}
use Rattle.pl_base.specs.declared.place.Place.TheVariants.{RootNode}
use Rattle.pl_digest.specs.Nodes.{with_entry}
use Rattle.pl_digest.specs.Trees.{lower_nodes, table_root, upper_node}
use Rattle.mem_geom.specs.Layout.{root_nodes_of_level}
use Rattle.mem_tree.specs.Changes.{EntryChanges, PlaceBytes, TreesChange, bytes_after, renewed}
use Rattle.mem_tree.specs.Trees.{AreEntries, nth, table_bytes}
use Rattle.mem_tree.proofs.BlockChanges.{block_changes}
use Rattle.mem_tree.proofs.PageChanges.{page_changes, picked}
use Rattle.mem_tree.proofs.TreeChanges.{at_other, changed_node, nth-lower_nodes-set, upper_node-set}

-- level by level
pub by_root_level : (P : ℕ → ℕ → Type 0) → ((i : ℕ) → i < 8 → P 1 i) → P 2 0 → (level index : ℕ) → index < root_nodes_of_level level → P level index
by_root_level P one two zero index below = absurd (omega arith)
by_root_level P one two (suc zero) index below = one index below
by_root_level P one two (suc (suc zero)) index below = let none : 0 ≡ index = omega arith in subst (P 2) none two
by_root_level P one two (suc (suc (suc level))) index below = absurd (no_node level index below)
  where
    no_node : (level index : ℕ) → index < root_nodes_of_level (suc (suc (suc level))) → ⊥
    no_node level index below = grind (arith, nat_tests)

module _ (d : List ℕ → List ℕ) (law : (m : List ℕ) → length (d m) ≡ 32) (entries : List (List ℕ)) (are : AreEntries entries) (zone : ℕ) (small : zone < 64) (new : List ℕ) (size : length new ≡ 32) where
  abbrev after : List (List ℕ)
  after = set entries zone new

  abbrev node : List ℕ
  node = changed_node entries zone new

  abbrev written : List PlaceBytes
  written = renewed d (table_bytes d entries) (RootNode 1 (zone / 8)) node (RootNode 2 0 ∷ [])

  abbrev Changes : ℕ → ℕ → Type 0
  Changes level index = table_bytes d after (RootNode level index) ≡ bytes_after written (RootNode level index) (table_bytes d entries (RootNode level index))

  one : (i : ℕ) → i < 8 → Changes 1 i
  one i below =
      sym (picked (true && (zone / 8 == i)) node (nth (lower_nodes entries) i) (nth (lower_nodes after) i)
      (λ same. sym (nth-lower_nodes-set entries zone new are.count are.sizes size small) ∙ ap (nth (lower_nodes after)) (eqb-true (zone / 8) i same))
      (λ other. sym (at_other entries zone new are.count are.sizes size small i [] below (λ same. eqb-false (zone / 8) i other (sym same)))))

  top : upper_node d after ≡ with_entry (zone / 8) (d node) (upper_node d entries)
  top = upper_node-set entries zone new are.count are.sizes size small d law

  pub entry_changes : EntryChanges d entries zone new
  unfolding table_root
  entry_changes = record { nodes = by_root_level Changes one top; root = ap d top }

pub trees_change : (d : List ℕ → List ℕ) → ((m : List ℕ) → length (d m) ≡ 32) → TreesChange d
trees_change d law = record {
  blocks = λ pages page block at bytes zone in_page in_block. block_changes d law pages zone page block at bytes in_page in_block;
  pages = λ pages page new zone. page_changes d law pages zone page new;
  entries = λ entries zone new are small size. entry_changes d law entries are zone small new size;
}
