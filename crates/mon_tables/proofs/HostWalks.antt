-- The host's tables: what they walk to, and what a word that changes does.
use Rattle.std.proofs.Common.{Bool, Some, None, ◌≡◌, ◌≢◌, ℕ, ◌+◌, ◌*◌, ◌/◌, ◌%◌, ◌^◌, ◌<◌, ◌≤◌, eqb, ltb, true, false, cond, List, [], ◌∷◌, ◌++◌, All, ap, sym, ◌∙◌, subst, arith, inl, inr, lit<, refl}
use Rattle.std.proofs.lemmas.Bool.{cases_Bool, cond-true, cond-false, eqb-true, eqb-false, lt-ltb, ltb-true, ltb-false}
use Rattle.std.proofs.lemmas.Bool.Decides.{nat_tests}
use Rattle.pl_base.specs.declared.access.Kind.{Kind}
use Rattle.pl_base.specs.declared.access.Mode.{Mode}
use Rattle.pl_base.specs.declared.access.Mode.TheVariants.{Super}
use Rattle.pl_base.specs.declared.address.Vpn.{Vpn}
use Rattle.rv_sv39.specs.Walk.{WalksFrom}
use Rattle.mon_tables.specs.Space.{Mapping, mapping_at, without_vpn}
use Rattle.mon_tables.specs.SpaceWalks.{ClearsMapping, HostTables, IsMappable, PagesHaveNumbers, SetsMapping, translation, with_word, word_address, word_of}
use Rattle.mon_tables.specs.Tables.{host_slot, slot_address}
use Rattle.mon_tables.specs.Words.{leaf_word, pointer_word, ppn_of_page}
use Rattle.mon_tables.proofs.Mappings.{mapping_at-added_same, mapping_at-added_other, mapping_at-without_same, mapping_at-without_other}
use Rattle.mon_tables.proofs.Mappings.{same_Some, none_some}
use Rattle.mon_tables.proofs.Reaching.{breaks_at_zero, ends_at_leaf, leads_by_pointer}

-- the slot of a page below the end of the last table, and none past it
slot_below : (tables vpn : ℕ) → vpn < 512 * tables → host_slot tables vpn ≡ Some (2 + vpn / 512, 8 * (vpn % 512))
slot_below tables vpn below = cond-true _ _ _ (lt-ltb vpn (512 * tables) below)

slot_past : (tables vpn : ℕ) → 512 * tables ≤ vpn → host_slot tables vpn ≡ None
slot_past tables vpn far = cond-false _ _ _ (let no : ltb vpn (512 * tables) ≡ false = grind (arith, nat_tests) in no)

-- a page that has a slot is below the end
pub has_slot : (tables vpn : ℕ) (slot : ℕ × ℕ) → host_slot tables vpn ≡ Some slot → (vpn < 512 * tables) × ((2 + vpn / 512, 8 * (vpn % 512)) ≡ slot)
has_slot tables vpn slot is = by_test (ltb vpn (512 * tables)) refl
  where
    by_test : (t : Bool) → ltb vpn (512 * tables) ≡ t → (vpn < 512 * tables) × ((2 + vpn / 512, 8 * (vpn % 512)) ≡ slot)
    by_test true there = (ltb-true vpn (512 * tables) there, same_Some _ _ (sym (cond-true _ _ _ there) ∙ is))
    by_test false none = absurd (none_some slot (sym (cond-false _ _ _ none) ∙ is))

module _ (tables : ℕ) (words : ℕ → ℕ) (space : List Mapping) (few : tables ≤ 32) (all : All IsMappable space) (stand : HostTables tables words space)
    (vpn : Vpn) (inside : vpn.0 < 2 ^ 27) (mode : Mode) (kind : Kind) where
  last : vpn.0 < 512 * tables → WalksFrom words vpn mode kind 0 (ppn_of_page (2 + vpn.0 / 512)) (translation Super space vpn mode kind)
  last below =
      let slot : words (word_address (2 + vpn.0 / 512) (vpn.0 / 1 % 512)) ≡ word_of Super (mapping_at space vpn.0)
      = (let whole : vpn.0 / 1 % 512 ≡ vpn.0 % 512 = omega arith in ap (λ k. words (word_address (2 + vpn.0 / 512) k)) whole) ∙ stand.leaves vpn.0 _ (slot_below tables vpn.0 below) in
      ends_at_leaf words vpn mode kind Super space (ppn_of_page (2 + vpn.0 / 512)) all slot

  middle : vpn.0 < 2 ^ 18 → WalksFrom words vpn mode kind 1 (ppn_of_page 1) (translation Super space vpn mode kind)
  middle low =
      let number : vpn.0 / 512 % 512 ≡ vpn.0 / 512 = omega arith in
      let word : words (word_address 1 (vpn.0 / 512 % 512)) ≡ cond (ltb (vpn.0 / 512) tables) (pointer_word (2 + vpn.0 / 512)) 0
      = ap (λ k. words (word_address 1 k)) number ∙ stand.middle (vpn.0 / 512) (omega arith) in
      elim (cases_Bool (ltb (vpn.0 / 512) tables)) [
        | inl there ↦
            let below : vpn.0 / 512 < tables = ltb-true (vpn.0 / 512) tables there in
            leads_by_pointer words vpn mode kind 0 (ppn_of_page 1) (2 + vpn.0 / 512) _ (omega arith) (word ∙ cond-true _ _ _ there) (last (omega arith))
        | inr none ↦
            let past : tables ≤ vpn.0 / 512 = ltb-false (vpn.0 / 512) tables none in
            breaks_at_zero words vpn mode kind Super space 1 (ppn_of_page 1) (word ∙ cond-false _ _ _ none) (stand.past vpn.0 (slot_past tables vpn.0 (omega arith)))
      ]

  pub host_walks : WalksFrom words vpn mode kind 2 (ppn_of_page 0) (translation Super space vpn mode kind)
  host_walks =
      let at : ℕ = vpn.0 / 2 ^ 18 % 512 in
      let word : words (word_address 0 at) ≡ cond (eqb at 0) (pointer_word 1) 0 = stand.root at (omega arith) in
      elim (cases_Bool (eqb at 0)) [
        | inl first ↦
            let is : at ≡ 0 = eqb-true at 0 first in
            leads_by_pointer words vpn mode kind 1 (ppn_of_page 0) 1 _ (lit< tt) (word ∙ cond-true _ _ _ first) (middle (omega arith))
        | inr later ↦
            let is : at ≢ 0 = eqb-false at 0 later in
            breaks_at_zero words vpn mode kind Super space 2 (ppn_of_page 0) (word ∙ cond-false _ _ _ later) (stand.past vpn.0 (slot_past tables vpn.0 (omega arith)))
      ]

-- ---- a word that changes

pub word_same : (words : ℕ → ℕ) (at word : ℕ) → with_word words at word at ≡ word
word_same words at word = cond-true _ _ _ (let t : eqb at at ≡ true = grind (arith, nat_tests) in t)

pub word_other : (words : ℕ → ℕ) (at word address : ℕ) → address ≢ at → with_word words at word address ≡ words address
word_other words at word address other = cond-false _ _ _ (let t : eqb address at ≡ false = grind (arith, nat_tests) in t)

-- the leaf word of a page changed, and only its mapping did
changed : (tables : ℕ) (words : ℕ → ℕ) (space now : List Mapping) (vpn word : ℕ) → tables ≤ 32 → vpn < 512 * tables → word ≡ word_of Super (mapping_at now vpn)
    → ((q : ℕ) → q ≢ vpn → mapping_at now q ≡ mapping_at space q) → HostTables tables words space
    → HostTables tables (with_word words (word_address (2 + vpn / 512) (vpn % 512)) word) now
changed tables words space now vpn word few below is others stand =
    let at : ℕ = word_address (2 + vpn / 512) (vpn % 512) in
    record {
      root = λ k small. word_other words at word (word_address 0 k) (λ p. let same : word_address 0 k ≡ at = p in omega arith) ∙ stand.root k small;
      middle = λ k small. word_other words at word (word_address 1 k) (λ p. let same : word_address 1 k ≡ at = p in omega arith) ∙ stand.middle k small;
      leaves = λ q slot slot_is. subst (λ (s : ℕ × ℕ). with_word words at word (slot_address s) ≡ word_of Super (mapping_at now q)) (has_slot tables q slot slot_is).1
          (elim (cases_Bool (eqb q vpn)) [
            | inl same ↦ let e : q ≡ vpn = eqb-true q vpn same in
                subst (λ n. with_word words at word (word_address (2 + n / 512) (n % 512)) ≡ word_of Super (mapping_at now n)) (sym e) (word_same words at word ∙ is)
            | inr other ↦ let apart : q ≢ vpn = eqb-false q vpn other in
                word_other words at word (word_address (2 + q / 512) (q % 512)) (λ p. let same : word_address (2 + q / 512) (q % 512) ≡ at = p in apart (omega arith))
                ∙ (stand.leaves q _ (slot_below tables q (has_slot tables q slot slot_is).0) ∙ sym (ap (word_of Super) (others q apart)))
          ]);
      past = λ q none. others q (λ p. none_some _ (sym none ∙ subst (λ n. host_slot tables n ≡ Some (2 + n / 512, 8 * (n % 512))) (sym p) (slot_below tables vpn below))) ∙ stand.past q none;
    }

pub sets : SetsMapping
sets tables words space m slot few is none stand =
    subst (λ (s : ℕ × ℕ). HostTables tables (with_word words (slot_address s) (leaf_word m.page m.perms Super)) (space ++ m ∷ [])) (has_slot tables m.vpn slot is).1 (
    changed tables words space (space ++ m ∷ []) m.vpn (leaf_word m.page m.perms Super) few (has_slot tables m.vpn slot is).0 (sym (ap (word_of Super) (mapping_at-added_same space m none)))
    (λ q other. mapping_at-added_other space m q other) stand)

pub clears : ClearsMapping
clears tables words space vpn slot few is stand =
    subst (λ (s : ℕ × ℕ). HostTables tables (with_word words (slot_address s) 0) (without_vpn space vpn)) (has_slot tables vpn slot is).1 (
    changed tables words space (without_vpn space vpn) vpn 0 few (has_slot tables vpn slot is).0 (sym (ap (word_of Super) (mapping_at-without_same space vpn)))
    (λ q other. mapping_at-without_other space vpn q other) stand)

pub pages_have_numbers : PagesHaveNumbers
pages_have_numbers page = omega arith
