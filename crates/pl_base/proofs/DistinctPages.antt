-- Of distinct pages each stands at one place.
use Rattle.std.proofs.Common.{◌≡◌, ℕ, zero, suc, ◌+◌, ◌<◌, ◌≤◌, Bool, true, false, cond, eqb, ltb, List, [], ◌∷◌, Some, None, slice_get, count_by, subst, sym, ap, ◌∙◌, arith, inl, inr}
use Rattle.std.specs.List.{find}
use Rattle.std.proofs.lemmas.Bool.{cases_Bool, eqb-true, eqb-false, ltb-true, ltb-false}
use Rattle.std.proofs.lemmas.Bool.Decides.{nat_tests}
use Rattle.std.proofs.lemmas.List.Sums.{sum_by-cons}
use Rattle.pl_base.specs.Pages.{first_twice}

pub find_none : {A : Type 0} (test : A → Bool) (xs : List A) (i : ℕ) (x : A) → find test xs ≡ None → slice_get xs i ≡ Some x → test x ≡ false
find_none test [] i x none here = cc
find_none test (y ∷ ys) zero x none here = elim (cases_Bool (test y)) [
  | inl passes ↦ (let h : Some y ≡ None = rw passes at none in cc)
  | inr fails ↦ (let e : y ≡ x = cc in ap test (sym e) ∙ fails)
]
find_none test (y ∷ ys) (suc i) x none here = elim (cases_Bool (test y)) [
  | inl passes ↦ (let h : Some y ≡ None = rw passes at none in cc)
  | inr fails ↦ find_none test ys i x (rw fails at none) here
]

same_eqb : (y x : ℕ) → y ≡ x → eqb y x ≡ true
same_eqb y x e = grind (arith, nat_tests)

one_more : (t : Bool) (n : ℕ) → t ≡ true → 1 ≤ cond t 1 0 + n
one_more true n e = omega arith
one_more false n e = cc

two_more : (t : Bool) (n : ℕ) → t ≡ true → 1 ≤ n → 2 ≤ cond t 1 0 + n
two_more true n e few = omega arith
two_more false n e few = cc

later_more : (t : Bool) (n k : ℕ) → k ≤ n → k ≤ cond t 1 0 + n
later_more true n k few = omega arith
later_more false n k few = omega arith

counted_once : (xs : List ℕ) (i x : ℕ) → slice_get xs i ≡ Some x → 1 ≤ count_by (λ y. eqb y x) xs
counted_once [] i x here = cc
counted_once (y ∷ ys) zero x here = let e : y ≡ x = cc in subst (λ n. 1 ≤ n) (sym (sum_by-cons (λ z. cond (eqb z x) 1 0) y ys)) (one_more (eqb y x) (count_by (λ z. eqb z x) ys) (same_eqb y x e))
counted_once (y ∷ ys) (suc i) x here = subst (λ n. 1 ≤ n) (sym (sum_by-cons (λ z. cond (eqb z x) 1 0) y ys)) (later_more (eqb y x) (count_by (λ z. eqb z x) ys) 1 (counted_once ys i x here))

counted_twice : (xs : List ℕ) (i j x : ℕ) → i < j → slice_get xs i ≡ Some x → slice_get xs j ≡ Some x → 2 ≤ count_by (λ y. eqb y x) xs
counted_twice [] i j x before here there = cc
counted_twice (y ∷ ys) i zero x before here there = absurd (omega arith)
counted_twice (y ∷ ys) zero (suc j) x before here there =
    let e : y ≡ x = cc in subst (λ n. 2 ≤ n) (sym (sum_by-cons (λ z. cond (eqb z x) 1 0) y ys)) (two_more (eqb y x) (count_by (λ z. eqb z x) ys) (same_eqb y x e) (counted_once ys j x there))
counted_twice (y ∷ ys) (suc i) (suc j) x before here there =
    subst (λ n. 2 ≤ n) (sym (sum_by-cons (λ z. cond (eqb z x) 1 0) y ys)) (later_more (eqb y x) (count_by (λ z. eqb z x) ys) 2 (counted_twice ys i j x (omega arith) here there))

pub stands_once : (pages : List ℕ) → first_twice pages ≡ None → (i j page : ℕ) → slice_get pages i ≡ Some page → slice_get pages j ≡ Some page → i ≡ j
stands_once pages none i j page here there =
    let few : count_by (λ y. eqb y page) pages ≤ 1 = ltb-false 1 (count_by (λ y. eqb y page) pages) (find_none (λ p. ltb 1 (count_by (λ y. eqb y p) pages)) pages i page none here) in
    elim (cases_Bool (eqb i j)) [
      | inl same ↦ eqb-true i j same
      | inr other ↦ elim (cases_Bool (ltb i j)) [
        | inl before ↦ (let two = counted_twice pages i j page (ltb-true i j before) here there in absurd (omega arith))
        | inr after ↦ (let le = ltb-false i j after in let differ = eqb-false i j other in let two = counted_twice pages j i page (omega arith) there here in absurd (omega arith))
      ]
    ]
