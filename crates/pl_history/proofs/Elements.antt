-- What is known of each element of a list, and how often one stands in it.
use Rattle.std.proofs.Common.{◌≡◌, ℕ, ◌+◌, ◌<◌, ◌≤◌, ◌==◌, ◌⊎◌, zero, suc, Bool, true, false, not, ◌||◌, cond, List, [], ◌∷◌, length, filter, count_by, find, slice_index_or, Some, None, refl, sym, ◌∙◌, subst, inl, inr, arith, eq-eqb}
use Rattle.std.specs.List.{All, list_any}
use Rattle.std.proofs.lemmas.Bool.{cases_Bool, eqb-true, eqb-false, false≢true}
use Rattle.std.proofs.lemmas.List.Elements.{All-cons, All-filter, All-nil, All-tail, filter_passes}
use Rattle.std.proofs.lemmas.List.Filters.{length-filter_both, sum_by-filter_both}
use Rattle.std.proofs.lemmas.List.Sums.{length-filter, sum_by-cons}
use Rattle.pl_base.specs.Pages.{is_among}

pub weaker : {A : Type 0} (P Q : A → Type 0) (xs : List A) → ((x : A) → P x → Q x) → All P xs → All Q xs
weaker P Q xs gives all = λ k d within. gives (slice_index_or xs k d) (all k d within)

pub both : {A : Type 0} (P Q : A → Type 0) (xs : List A) → All P xs → All Q xs → All (λ x. P x × Q x) xs
both P Q xs p q = λ k d within. (p k d within, q k d within)

pub first_of : {A : Type 0} (P : A → Type 0) (x : A) (xs : List A) → All P (x ∷ xs) → P x
first_of P x xs all = all 0 x (omega arith)

either_true : (a b : Bool) → (a || b) ≡ true → (a ≡ true) ⊎ (b ≡ true)
either_true true b is = inl refl
either_true false b is = inr is

-- what holds of each page in a list holds of a page that is among them
pub among : (P : ℕ → Type 0) (pages : List ℕ) (page : ℕ) → All P pages → is_among pages page ≡ true → P page
among P [] page all is = absurd (false≢true is)
among P (x ∷ xs) page all is = elim (either_true (x == page) (list_any (λ other. other == page) xs) is) [
  | inl here ↦ subst P (eqb-true x page here) (first_of P x xs all)
  | inr later ↦ among P xs page (All-tail P x xs all) later
]

or_true : (a b : Bool) → b ≡ true → (a || b) ≡ true
or_true true b is = refl
or_true false b is = is

or_first : (a b : Bool) → a ≡ true → (a || b) ≡ true
or_first true b is = refl
or_first false b is = absurd (false≢true is)

-- each page of a list is among them
pub each_among : (pages : List ℕ) → All (λ page. is_among pages page ≡ true) pages
each_among [] = All-nil (λ page. is_among [] page ≡ true)
each_among (x ∷ xs) =
    All-cons (λ page. is_among (x ∷ xs) page ≡ true) x xs (or_first (x == x) (list_any (λ other. other == x) xs) (eq-eqb x x refl))
    (weaker (λ page. is_among xs page ≡ true) (λ page. is_among (x ∷ xs) page ≡ true) xs (λ page is. or_true (x == page) (is_among xs page) is) (each_among xs))

-- a first element that passes is one of the list
pub found : {A : Type 0} (P : A → Type 0) (test : A → Bool) (xs : List A) (x : A) → All P xs → find test xs ≡ Some x → P x
found P test [] x all is = cc
found P test (y ∷ ys) x all is = elim (cases_Bool (test y)) [
  | inl passes ↦ (let here : Some y ≡ Some x = rw passes at is in let e : y ≡ x = cc in subst P e (first_of P y ys all))
  | inr fails ↦ found P test ys x (All-tail P y ys all) (rw fails at is)
]

-- where none passes, each fails
pub none_passes : {A : Type 0} (test : A → Bool) (xs : List A) → find test xs ≡ None → All (λ x. test x ≡ false) xs
none_passes test [] is = All-nil (λ x. test x ≡ false)
none_passes test (y ∷ ys) is = elim (cases_Bool (test y)) [
  | inl passes ↦ (let e : Some y ≡ None = rw passes at is in cc)
  | inr fails ↦ All-cons (λ x. test x ≡ false) y ys fails (none_passes test ys (rw fails at is))
]

-- each element is counted, by a number that it has
one_more : (b : Bool) (n : ℕ) → b ≡ true → 1 ≤ cond b 1 0 + n
one_more true n is = omega arith
one_more false n is = absurd (false≢true is)

no_less : (b : Bool) (n : ℕ) → 1 ≤ n → 1 ≤ cond b 1 0 + n
no_less true n is = omega arith
no_less false n is = omega arith

pub each_counted : {A : Type 0} (page_of : A → ℕ) (xs : List A) → All (λ x. 1 ≤ count_by (λ y. page_of y == page_of x) xs) xs
each_counted page_of [] = All-nil (λ x. 1 ≤ count_by (λ y. page_of y == page_of x) [])
each_counted page_of (z ∷ zs) =
    All-cons (λ x. 1 ≤ count_by (λ y. page_of y == page_of x) (z ∷ zs)) z zs
    (subst (λ n. 1 ≤ n) (sym (sum_by-cons (λ y. cond (page_of y == page_of z) 1 0) z zs)) (one_more (page_of z == page_of z) (count_by (λ y. page_of y == page_of z) zs) (eq-eqb (page_of z) (page_of z) refl)))
    (weaker (λ x. 1 ≤ count_by (λ y. page_of y == page_of x) zs) (λ x. 1 ≤ count_by (λ y. page_of y == page_of x) (z ∷ zs)) zs
    (λ x is. subst (λ n. 1 ≤ n) (sym (sum_by-cons (λ y. cond (page_of y == page_of x) 1 0) z zs)) (no_less (page_of z == page_of x) (count_by (λ y. page_of y == page_of x) zs) is))
    (each_counted page_of zs))

-- ---- lists of distinct numbers

-- where none passes, none is counted
pub none_counted : {A : Type 0} (test : A → Bool) (xs : List A) → All (λ x. test x ≡ false) xs → count_by test xs ≡ 0
none_counted test [] all = refl
none_counted test (y ∷ ys) all =
    let head : test y ≡ false = first_of (λ x. test x ≡ false) y ys all in
    let rest : count_by test ys ≡ 0 = none_counted test ys (All-tail (λ x. test x ≡ false) y ys all) in
    let sum : count_by test (y ∷ ys) ≡ cond (test y) 1 0 + count_by test ys = sum_by-cons (λ x. cond (test x) 1 0) y ys in
    sum ∙ nothing_more (test y) (count_by test ys) head rest
  where
    nothing_more : (b : Bool) (n : ℕ) → b ≡ false → n ≡ 0 → cond b 1 0 + n ≡ 0
    nothing_more true n fails none = cc
    nothing_more false n fails none = omega arith

pub unfound_counted : {A : Type 0} (test : A → Bool) (xs : List A) → find test xs ≡ None → count_by test xs ≡ 0
unfound_counted test xs is = none_counted test xs (none_passes test xs is)

-- what is filtered counts no more
pub filter_counted : {A : Type 0} (test p : A → Bool) (xs : List A) → count_by test (filter p xs) ≤ count_by test xs
filter_counted test p xs =
    let both_parts = sum_by-filter_both p (λ x. not (p x)) (λ x. refl) (λ x. cond (test x) 1 0) xs in
    let sum : count_by test (filter p xs) + count_by test (filter (λ x. not (p x)) xs) ≡ count_by test xs = both_parts in
    omega arith

-- numbers below n of which none stands twice are at most n
pub few_distinct : (n : ℕ) (xs : List ℕ) → All (λ x. x < n) xs → ((v : ℕ) → count_by (λ x. x == v) xs ≤ 1) → length xs ≤ n
few_distinct zero [] below once = omega arith
few_distinct zero (x ∷ xs) below once = absurd (let none : x < 0 = first_of (λ y. y < 0) x xs below in omega arith)
few_distinct (suc n) xs below once =
    let rest : List ℕ = filter (λ x. not (x == n)) xs in
    let parts = length-filter_both (λ x. x == n) (λ x. not (x == n)) (λ x. refl) xs in
    let sum : length (filter (λ x. x == n) xs) + length rest ≡ length xs = parts in
    let one : length (filter (λ x. x == n) xs) ≤ 1 = let same = length-filter (λ x. x == n) xs in let few : count_by (λ x. x == n) xs ≤ 1 = once n in omega arith in
    let smaller : All (λ x. x < n) rest = weaker (λ x. (x < suc n) × (not (x == n) ≡ true)) (λ x. x < n) rest (λ x is. below_last x is.0 is.1)
    (both (λ x. x < suc n) (λ x. not (x == n) ≡ true) rest (All-filter (λ x. not (x == n)) (λ x. x < suc n) xs below) (filter_passes (λ x. not (x == n)) xs)) in
    let few : length rest ≤ n = few_distinct n rest smaller (λ v. let less = filter_counted (λ x. x == v) (λ x. not (x == n)) xs in let all : count_by (λ x. x == v) xs ≤ 1 = once v in omega arith) in
    omega arith
  where
    not_last : (b : Bool) → not b ≡ true → b ≡ false
    not_last true is = absurd (false≢true is)
    not_last false is = refl

    below_last : (x : ℕ) → x < suc n → not (x == n) ≡ true → x < n
    below_last x few other = let differ = eqb-false x n (not_last (x == n) other) in omega arith
