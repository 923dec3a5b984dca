-- A number's three tables: what they walk to.
use Rattle.std.proofs.Common.{◌≡◌, ◌≢◌, ℕ, zero, suc, ◌+◌, ◌-◌, ◌/◌, ◌%◌, ◌^◌, ◌<◌, ◌≤◌, eqb, false, cond, Some, None, List, ◌++◌, length, map, replicate, get_or, slice_index, All, refl, ap, sym, ◌∙◌, subst, arith, inl, inr, lit<}
use Rattle.std.proofs.lemmas.Bool.{cases_Bool, cases_lt, cond-true, cond-false, eqb-true, eqb-false}
use Rattle.std.proofs.lemmas.Bool.Decides.{nat_tests}
use Rattle.std.proofs.lemmas.List.{get_or-append_right, get_or_append_left, get_or-map, get_or-replicate, length-map}
use Rattle.pl_base.specs.declared.access.Kind.{Kind}
use Rattle.pl_base.specs.declared.access.Mode.{Mode}
use Rattle.pl_base.specs.declared.access.Mode.TheVariants.{User}
use Rattle.pl_base.specs.declared.address.Vpn.{Vpn}
use Rattle.rv_sv39.specs.Walk.{WalksFrom}
use Rattle.mon_tables.specs.declared.number_tables.Leaf.{Leaf}
use Rattle.mon_tables.specs.Space.{Mapping, mapping_at}
use Rattle.mon_tables.specs.SpaceWalks.{IsMappable, NumberTables, NumberTablesWalk, leaf_mappings, translation, word_address, word_of}
use Rattle.mon_tables.specs.Tables.{leaf_of, leaf_words, pointing_words, table_number}
use Rattle.mon_tables.specs.Words.{pointer_word, ppn_of_page}
use Rattle.mon_tables.proofs.Mappings.{leaf_mapping, leaf_mappings-at, leaf_mappings-before, leaf_mappings-past}
use Rattle.mon_tables.proofs.Reaching.{breaks_at_zero, ends_at_leaf, leads_by_pointer}

pointing_words-at : (page k : ℕ) → k < 512 → slice_index (pointing_words page) k ≡ cond (eqb k 0) (pointer_word page) 0
unfolding pointing_words
pointing_words-at page zero small = refl
pointing_words-at page (suc k) small =
    let later : eqb (suc k) 0 ≡ false = grind (arith, nat_tests) in get_or-replicate 511 k 0 0 (omega arith) ∙ sym (cond-false _ _ _ later)

-- behind a head of 16 zeros
module _ (head : List ℕ) (size : length head ≡ 16) (zeros : (k : ℕ) → k < 16 → get_or head k 0 ≡ 0) (leaves : List Leaf) (few : length leaves ≤ 256) where
  rest : List ℕ
  rest = map leaf_of leaves ++ replicate (496 - length leaves) 0

  behind : (k : ℕ) → k < 512 → get_or (head ++ (map leaf_of leaves ++ replicate (496 - length leaves) 0)) k 0 ≡ word_of User (mapping_at (leaf_mappings 16 leaves) k)
  unfolding rest
  behind k small = elim (cases_lt k 16) [
    | inl first ↦
        get_or_append_left head rest 0 k (subst (λ n. k < n) (sym size) first) ∙ (zeros k first ∙ sym (ap (word_of User) (leaf_mappings-before leaves 16 k first)))
    | inr later ↦ get_or-append_right head rest 16 k 0 size later ∙ (elim (cases_lt (k - 16) (length leaves)) [
      | inl there ↦
          let none : Leaf = record { page = 0; perms = record { 0 = 0 } } in
          let at : 16 + (k - 16) ≡ k = omega arith in
          let mapped : mapping_at (leaf_mappings 16 leaves) k ≡ Some (leaf_mapping (16 + (k - 16)) (get_or leaves (k - 16) none))
          = subst (λ n. mapping_at (leaf_mappings 16 leaves) n ≡ Some (leaf_mapping (16 + (k - 16)) (get_or leaves (k - 16) none))) at (leaf_mappings-at leaves 16 (k - 16) none there) in
          get_or_append_left (map leaf_of leaves) (replicate (496 - length leaves) 0) 0 (k - 16) (subst (λ n. k - 16 < n) (sym (length-map leaves leaf_of)) there)
          ∙ (get_or-map leaf_of leaves (k - 16) none 0 there ∙ sym (ap (word_of User) mapped))
      | inr past ↦
          get_or-append_right (map leaf_of leaves) (replicate (496 - length leaves) 0) (length leaves) (k - 16) 0 (length-map leaves leaf_of) past
          ∙ (get_or-replicate (496 - length leaves) (k - 16 - length leaves) 0 0 (omega arith)
          ∙ sym (ap (word_of User) (leaf_mappings-past leaves 16 k (omega arith))))
    ])
  ]

-- the word of a page in a last table is that of its mapping
leaf_words-at : (leaves : List Leaf) (k : ℕ) → length leaves ≤ 256 → k < 512 → slice_index (leaf_words leaves) k ≡ word_of User (mapping_at (leaf_mappings 16 leaves) k)
unfolding leaf_words
leaf_words-at leaves k few small = behind (replicate 16 0) refl (λ i below. get_or-replicate 16 i 0 0 below) leaves few k small

module _ (tables e : ℕ) (words : ℕ → ℕ) (leaves : List Leaf) (low : tables ≤ 32) (number : e < 64) (few : length leaves ≤ 256)
    (all : All IsMappable (leaf_mappings 16 leaves)) (stand : NumberTables tables e words leaves) (vpn : Vpn) (inside : vpn.0 < 2 ^ 27) (mode : Mode) (kind : Kind) where
  space : List Mapping
  space = leaf_mappings 16 leaves

  -- nothing is mapped past the last table
  past : 512 ≤ vpn.0 → mapping_at space vpn.0 ≡ None
  unfolding space
  past far = leaf_mappings-past leaves 16 vpn.0 (omega arith)

  last : vpn.0 < 512 → WalksFrom words vpn mode kind 0 (ppn_of_page (table_number tables e 0)) (translation User space vpn mode kind)
  unfolding space
  last small =
      let whole : vpn.0 / 1 % 512 ≡ vpn.0 = omega arith in
      let slot : words (word_address (table_number tables e 0) (vpn.0 / 1 % 512)) ≡ word_of User (mapping_at space vpn.0)
      = stand 0 (vpn.0 / 1 % 512) (lit< tt) (omega arith) ∙ (leaf_words-at leaves (vpn.0 / 1 % 512) few (omega arith) ∙ ap (λ n. word_of User (mapping_at space n)) whole) in
      ends_at_leaf words vpn mode kind User space (ppn_of_page (table_number tables e 0)) all slot

  middle : vpn.0 < 2 ^ 18 → WalksFrom words vpn mode kind 1 (ppn_of_page (table_number tables e 1)) (translation User space vpn mode kind)
  unfolding space
  middle low18 =
      let at : ℕ = vpn.0 / 2 ^ 9 % 512 in
      let word : words (word_address (table_number tables e 1) at) ≡ cond (eqb at 0) (pointer_word (table_number tables e 0)) 0
      = stand 1 at (lit< tt) (omega arith) ∙ pointing_words-at (table_number tables e 0) at (omega arith) in
      elim (cases_Bool (eqb at 0)) [
        | inl first ↦
            let is : at ≡ 0 = eqb-true at 0 first in
            leads_by_pointer words vpn mode kind 0 (ppn_of_page (table_number tables e 1)) (table_number tables e 0) _ (omega arith) (word ∙ cond-true _ _ _ first) (last (omega arith))
        | inr later ↦
            let is : at ≢ 0 = eqb-false at 0 later in
            breaks_at_zero words vpn mode kind User space 1 (ppn_of_page (table_number tables e 1)) (word ∙ cond-false _ _ _ later) (past (omega arith))
      ]

  pub number_walks : WalksFrom words vpn mode kind 2 (ppn_of_page (table_number tables e 2)) (translation User (leaf_mappings 16 leaves) vpn mode kind)
  unfolding space
  number_walks =
      let at : ℕ = vpn.0 / 2 ^ 18 % 512 in
      let root : ℕ = ppn_of_page (table_number tables e 2) in
      let word : words (word_address (table_number tables e 2) at) ≡ cond (eqb at 0) (pointer_word (table_number tables e 1)) 0
      = stand 2 at (lit< tt) (omega arith) ∙ pointing_words-at (table_number tables e 1) at (omega arith) in
      elim (cases_Bool (eqb at 0)) [
        | inl first ↦
            let is : at ≡ 0 = eqb-true at 0 first in
            leads_by_pointer words vpn mode kind 1 root (table_number tables e 1) _ (omega arith) (word ∙ cond-true _ _ _ first) (middle (omega arith))
        | inr later ↦
            let is : at ≢ 0 = eqb-false at 0 later in
            breaks_at_zero words vpn mode kind User space 2 root (word ∙ cond-false _ _ _ later) (past (omega arith))
      ]

root_page : (tables e : ℕ) → cond (eqb (e + 1) 0) 0 (table_number tables (e + 1 - 1) 2) ≡ table_number tables e 2
root_page tables e =
    let some : eqb (e + 1) 0 ≡ false = grind (arith, nat_tests) in
    let before : e + 1 - 1 ≡ e = omega arith in
    cond-false _ _ _ some ∙ ap (λ n. table_number tables n 2) before

pub number_tables : NumberTablesWalk
number_tables tables e words leaves low number few all stand vpn inside mode kind =
    subst (λ page. WalksFrom words vpn mode kind 2 (ppn_of_page page) (translation User (leaf_mappings 16 leaves) vpn mode kind)) (sym (root_page tables e)) (
    number_walks tables e words leaves low number few all stand vpn inside mode kind)
