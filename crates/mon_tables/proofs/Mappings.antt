-- Mappings found in a space.
use Rattle.std.proofs.Common.{◌≡◌, ◌≢◌, ℕ, zero, suc, ◌+◌, ◌<◌, ◌≤◌, eqb, true, false, cond, List, [], ◌∷◌, ◌++◌, length, get_or, Option, Some, None, All, refl, ap, sym, ◌∙◌, subst, arith, inl, inr}
use Rattle.std.proofs.lemmas.Bool.{cases_Bool, cond-true, cond-false, eqb-true}
use Rattle.std.proofs.lemmas.Bool.Decides.{nat_tests}
use Rattle.std.proofs.lemmas.List.Elements.{All-nil, All-cons}
use Rattle.std.proofs.lemmas.List.Kept.{AllPairs-cons, AllPairs-filter}
use Rattle.std.proofs.lemmas.List.Quantifiers.{all_pairs_push}
use Rattle.std.proofs.lemmas.List.Folds.{find-append}
use Rattle.std.specs.Option.{option_or}
use Rattle.mon_tables.specs.declared.number_tables.Leaf.{Leaf}
use Rattle.mon_tables.specs.Space.{Differ, IsSpace, Mapping, mapping_at, without_vpn}
use Rattle.mon_tables.specs.SpaceWalks.{leaf_mappings, SpacesStay}

-- options
pub same_Some : {X : Type 0} (x y : X) → Some x ≡ Some y → x ≡ y
same_Some x y is = cc

pub none_some : {X : Type 0} (x : X) → None ≡ Some x → ⊥
none_some x is = cc

-- what holds of each mapping holds of the one that is found
pub found : (P : Mapping → Type 0) (space : List Mapping) (vpn : ℕ) (m : Mapping) → All P space → mapping_at space vpn ≡ Some m → P m
found P [] vpn m all is = absurd (let no : None ≡ Some m = is in cc)
found P (x ∷ xs) vpn m all is = elim (cases_Bool (eqb x.vpn vpn)) [
  | inl here ↦ let same : Some x ≡ Some m = sym (cond-true _ _ _ here) ∙ is in subst P (let e : x ≡ m = cc in e) (all 0 x (omega arith))
  | inr later ↦ found P xs vpn m (λ k d below. all (suc k) d (omega arith)) (sym (cond-false _ _ _ later) ∙ is)
]

-- one more mapping, of a page that was not mapped
pub mapping_at-added_same : (space : List Mapping) (m : Mapping) → mapping_at space m.vpn ≡ None → mapping_at (space ++ m ∷ []) m.vpn ≡ Some m
mapping_at-added_same space m none =
    find-append (λ (x : Mapping). eqb x.vpn m.vpn) space (m ∷ []) ∙ (rw none (cond-true _ _ _ (let t : eqb m.vpn m.vpn ≡ true = grind (arith, nat_tests) in t)))

pub mapping_at-added_other : (space : List Mapping) (m : Mapping) (vpn : ℕ) → vpn ≢ m.vpn → mapping_at (space ++ m ∷ []) vpn ≡ mapping_at space vpn
mapping_at-added_other space m vpn other = find-append (λ (x : Mapping). eqb x.vpn vpn) space (m ∷ []) ∙ rest (mapping_at space vpn)
  where
    no : eqb m.vpn vpn ≡ false
    no = grind (arith, nat_tests)

    rest : (o : Option Mapping) → option_or o (cond (eqb m.vpn vpn) (Some m) None) ≡ o
    rest None = cond-false _ _ _ no
    rest (Some x) = refl

-- without the mappings of a page
pub mapping_at-without_same : (space : List Mapping) (vpn : ℕ) → mapping_at (without_vpn space vpn) vpn ≡ None
mapping_at-without_same [] vpn = refl
mapping_at-without_same (x ∷ xs) vpn = elim (cases_Bool (eqb x.vpn vpn)) [
  | inl here ↦ rw here (mapping_at-without_same xs vpn)
  | inr other ↦ rw (other, other) (mapping_at-without_same xs vpn)
]

pub mapping_at-without_other : (space : List Mapping) (vpn q : ℕ) → q ≢ vpn → mapping_at (without_vpn space vpn) q ≡ mapping_at space q
mapping_at-without_other [] vpn q other = refl
mapping_at-without_other (x ∷ xs) vpn q other = elim (cases_Bool (eqb x.vpn vpn)) [
  | inl here ↦
      let no : eqb x.vpn q ≡ false = (let is : x.vpn ≡ vpn = eqb-true x.vpn vpn here in grind (arith, nat_tests)) in
      rw (here, no) (mapping_at-without_other xs vpn q other)
  | inr kept ↦ rw kept (ap (λ o. cond (eqb x.vpn q) (Some x) o) (mapping_at-without_other xs vpn q other))
]

-- ---- the mappings of leaves

abbrev pub leaf_mapping : ℕ → Leaf → Mapping
leaf_mapping vpn leaf = record { vpn = vpn; page = leaf.page; perms = leaf.perms }

pub leaf_mappings-before : (leaves : List Leaf) (from vpn : ℕ) → vpn < from → mapping_at (leaf_mappings from leaves) vpn ≡ None
leaf_mappings-before [] from vpn before = refl
leaf_mappings-before (leaf ∷ leaves) from vpn before =
    let no : eqb from vpn ≡ false = grind (arith, nat_tests) in rw no (leaf_mappings-before leaves (from + 1) vpn (omega arith))

pub leaf_mappings-past : (leaves : List Leaf) (from vpn : ℕ) → from + length leaves ≤ vpn → mapping_at (leaf_mappings from leaves) vpn ≡ None
leaf_mappings-past [] from vpn past = refl
leaf_mappings-past (leaf ∷ leaves) from vpn past =
    let no : eqb from vpn ≡ false = grind (arith, nat_tests) in rw no (leaf_mappings-past leaves (from + 1) vpn (omega arith))

pub leaf_mappings-at : (leaves : List Leaf) (from i : ℕ) (d : Leaf) → i < length leaves → mapping_at (leaf_mappings from leaves) (from + i) ≡ Some (leaf_mapping (from + i) (get_or leaves i d))
leaf_mappings-at [] from i d below = absurd (omega arith)
leaf_mappings-at (leaf ∷ leaves) from zero d below =
    let here : eqb from (from + 0) ≡ true = grind (arith, nat_tests) in
    rw here (let same : from ≡ from + 0 = omega arith in ap (λ n. let m : Mapping = record { vpn = n; page = leaf.page; perms = leaf.perms } in Some m) same)
leaf_mappings-at (leaf ∷ leaves) from (suc i) d below =
    let no : eqb from (from + suc i) ≡ false = grind (arith, nat_tests) in
    let step : from + 1 + i ≡ from + suc i = omega arith in
    rw no (subst (λ n. mapping_at (leaf_mappings (from + 1) leaves) n ≡ Some (record { vpn = n; page = (get_or leaves i d).page; perms = (get_or leaves i d).perms })) step
    (leaf_mappings-at leaves (from + 1) i d (omega arith)))

-- ---- no page is mapped twice

none_differ : (space : List Mapping) (m : Mapping) → mapping_at space m.vpn ≡ None → All (λ x. Differ x m) space
none_differ [] m none = All-nil (λ x. Differ x m)
none_differ (x ∷ xs) m none = elim (cases_Bool (eqb x.vpn m.vpn)) [
  | inl same ↦ absurd (none_some x (sym none ∙ cond-true _ _ _ same))
  | inr other ↦ All-cons (λ y. Differ y m) x xs (let no : eqb m.vpn x.vpn ≡ false = grind (arith, nat_tests) in no) (none_differ xs m (sym (cond-false _ _ _ other) ∙ none))
]

all_later : (leaves : List Leaf) (first : Mapping) (from : ℕ) → first.vpn < from → All (Differ first) (leaf_mappings from leaves)
all_later [] first from before = All-nil (Differ first)
all_later (leaf ∷ leaves) first from before =
    All-cons (Differ first) _ (leaf_mappings (from + 1) leaves) (let no : eqb from first.vpn ≡ false = grind (arith, nat_tests) in no) (all_later leaves first (from + 1) (omega arith))

leaves_are_space : (leaves : List Leaf) (vpn : ℕ) → IsSpace (leaf_mappings vpn leaves)
leaves_are_space [] vpn = λ i j d less below. absurd (omega arith)
leaves_are_space (leaf ∷ leaves) vpn =
    AllPairs-cons Differ _ (leaf_mappings (vpn + 1) leaves) (all_later leaves (leaf_mapping vpn leaf) (vpn + 1) (omega arith)) (leaves_are_space leaves (vpn + 1))

pub spaces_stay : SpacesStay
spaces_stay = record {
  set = λ space m is none. all_pairs_push Differ space m is (none_differ space m none);
  cleared = λ space vpn is. AllPairs-filter Differ _ space is;
  leaves = leaves_are_space;
}
