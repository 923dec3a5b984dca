-- A leaf that is set in a number's last table.
use Rattle.std.proofs.Common.{◌≡◌, ◌≢◌, ℕ, ◌+◌, ◌-◌, ◌<◌, eqb, List, ◌++◌, length, map, get_or, set, replicate, slice_index, refl, ap, sym, ◌∙◌, subst, arith, inl, inr}
use Rattle.std.proofs.lemmas.Bool.{cases_Bool, cond-false, eqb-true, eqb-false}
use Rattle.std.proofs.lemmas.Grind.{get_or-set_at}
use Rattle.std.proofs.lemmas.List.{get_or-set_other, length-append, length-map, length-set, map-set, set-append_left, set-append_right}
use Rattle.mon_tables.specs.declared.number_tables.Leaf.{Leaf}
use Rattle.mon_tables.specs.SpaceWalks.{NumberTables, SetsLeaf, with_word, word_address}
use Rattle.mon_tables.specs.Tables.{leaf_of, leaf_words, number_slot, slot_address, table_number, table_words}
use Rattle.mon_tables.proofs.HostWalks.{word_other, word_same}

-- behind a head of 16 words, the leaf takes the place of the one that stood there
module _ (head : List ℕ) (size : length head ≡ 16) (leaves : List Leaf) (i : ℕ) (leaf : Leaf) (below : i < length leaves) where
  zeros : List ℕ
  zeros = replicate (496 - length leaves) 0

  set_behind : head ++ (map leaf_of (set leaves i leaf) ++ replicate (496 - length (set leaves i leaf)) 0)
      ≡ set (head ++ (map leaf_of leaves ++ replicate (496 - length leaves) 0)) (16 + i) (leaf_of leaf)
  unfolding zeros
  set_behind =
      let place : 16 + i - 16 ≡ i = omega arith in
      sym (
      set-append_right head (map leaf_of leaves ++ zeros) 16 (16 + i) (leaf_of leaf) size (omega arith)
      ∙ (ap (λ n. head ++ set (map leaf_of leaves ++ zeros) n (leaf_of leaf)) place
      ∙ (ap (λ ws. head ++ ws) (set-append_left (map leaf_of leaves) zeros i (leaf_of leaf) (subst (λ n. i < n) (sym (length-map leaves leaf_of)) below))
      ∙ (ap (λ ws. head ++ (ws ++ zeros)) (sym (map-set leaf_of leaves i leaf))
      ∙ ap (λ n. head ++ (map leaf_of (set leaves i leaf) ++ replicate (496 - n) 0)) (sym (length-set leaves i leaf))))))

  reaches : 16 + i < length (head ++ (map leaf_of leaves ++ replicate (496 - length leaves) 0))
  reaches =
      let whole = length-append head (map leaf_of leaves ++ replicate (496 - length leaves) 0) in
      let rest = length-append (map leaf_of leaves) (replicate (496 - length leaves) 0) in
      let mapped = length-map leaves leaf_of in
      omega (arith, whole, rest, mapped, size)

leaf_words-set : (leaves : List Leaf) (i : ℕ) (leaf : Leaf) → i < length leaves → leaf_words (set leaves i leaf) ≡ set (leaf_words leaves) (16 + i) (leaf_of leaf)
unfolding leaf_words
leaf_words-set leaves i leaf below = set_behind (replicate 16 0) refl leaves i leaf below

leaf_words-reach : (leaves : List Leaf) (i : ℕ) → i < length leaves → 16 + i < length (leaf_words leaves)
unfolding leaf_words
leaf_words-reach leaves i below = reaches (replicate 16 0) refl leaves i (record { page = 0; perms = record { 0 = 0 } }) below

module _ (tables e index : ℕ) (words : ℕ → ℕ) (leaves : List Leaf) (leaf : Leaf) (below : index < length leaves) (stand : NumberTables tables e words leaves) (k : ℕ) (small : k < 512) where
  abbrev at : ℕ
  at = slot_address (number_slot tables e index)

  abbrev now : ℕ → ℕ
  now = with_word words at (leaf_of leaf)

  in_last : now (word_address (table_number tables e 0) k) ≡ slice_index (leaf_words (set leaves index leaf)) k
  in_last = elim (cases_Bool (eqb k (16 + index))) [
    | inl here ↦
        let is : k ≡ 16 + index = eqb-true k (16 + index) here in
        let place : word_address (table_number tables e 0) k ≡ at = omega (arith, is) in
        ap now place ∙ (word_same words at (leaf_of leaf)
        ∙ sym (ap (λ ws. get_or ws k 0) (leaf_words-set leaves index leaf below) ∙ get_or-set_at (leaf_words leaves) (16 + index) k (leaf_of leaf) 0 is (leaf_words-reach leaves index below)))
    | inr other ↦
        let apart : k ≢ 16 + index = eqb-false k (16 + index) other in
        word_other words at (leaf_of leaf) (word_address (table_number tables e 0) k) (λ p. let same : word_address (table_number tables e 0) k ≡ at = p in apart (omega arith))
        ∙ (stand 0 k (omega arith) small
        ∙ sym (ap (λ ws. get_or ws k 0) (leaf_words-set leaves index leaf below) ∙ get_or-set_other (leaf_words leaves) (16 + index) k (leaf_of leaf) 0 apart))
  ]

  in_table : (level : ℕ) → level < 3 → now (word_address (table_number tables e level) k) ≡ slice_index (table_words tables e level (set leaves index leaf)) k
  in_table level low = elim (cases_Bool (eqb level 0)) [
    | inl last ↦
        subst (λ n. now (word_address (table_number tables e n) k) ≡ slice_index (table_words tables e n (set leaves index leaf)) k) (sym (eqb-true level 0 last)) in_last
    | inr above ↦
        let apart : level ≢ 0 = eqb-false level 0 above in
        word_other words at (leaf_of leaf) (word_address (table_number tables e level) k) (λ p. let same : word_address (table_number tables e level) k ≡ at = p in apart (omega arith))
        ∙ (stand level k low small ∙ ap (λ ws. slice_index ws k) (cond-false _ _ _ above ∙ sym (cond-false _ _ _ above)))
  ]

pub sets_leaf : SetsLeaf
sets_leaf tables e index words leaves leaf few below stand level k low small = in_table tables e index words leaves leaf below stand k small level low
