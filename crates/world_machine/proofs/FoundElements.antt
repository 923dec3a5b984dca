-- The one element of a list that passes a test, and the list without it.
use Rattle.std.proofs.Common.{◌≡◌, ℕ, suc, ◌+◌, ◌≤◌, Bool, true, false, cond, not, List, [], ◌∷◌, length, get_or, filter, find, count_by, Some, None, refl, sym, ap, ◌∙◌, arith, inl, inr}
use Rattle.std.specs.List.{All}
use Rattle.std.proofs.lemmas.Bool.{cases_Bool, cond-true, cond-false}
use Rattle.std.proofs.lemmas.List.Elements.{All-cons, All-filter, All-head, All-nil, All-tail, filter_passes}
use Rattle.std.proofs.lemmas.List.Filters.{sum_by-filter_both}
use Rattle.std.proofs.lemmas.List.Sums.{length-filter, sum_by-cons}

module _ {A : Type 0} (test : A → Bool) where
  some_same : (x y : A) → Some x ≡ Some y → x ≡ y
  some_same x y is = cc

  -- the first that passes comes first among those that pass
  first_kept : (xs : List A) (m : A) → find test xs ≡ Some m → (rest : List A) × (filter test xs ≡ m ∷ rest)
  first_kept [] m is = (let clash : None ≡ Some m = is in cc)
  first_kept (x ∷ xs) m is = elim (cases_Bool (test x)) [
    | inl here ↦ (filter test xs, cond-true _ _ _ here ∙ ap (λ y. y ∷ filter test xs) (some_same x m (sym (cond-true _ _ _ here) ∙ is)))
    | inr later ↦ (let below = first_kept xs m (sym (cond-false _ _ _ later) ∙ is) in (below.0, cond-false _ _ _ later ∙ below.1))
  ]

  none_left : (rest : List A) → suc (length rest) ≤ 1 → rest ≡ []
  none_left [] few = refl
  none_left (x ∷ rest) few = absurd (omega arith)

  -- it is the one, where no more than one passes
  pub filtered_one : (xs : List A) (m : A) → find test xs ≡ Some m → count_by test xs ≤ 1 → filter test xs ≡ m ∷ []
  filtered_one xs m is few =
      let kept = first_kept xs m is in
      let size : length (filter test xs) ≡ count_by test xs = length-filter test xs in
      let both : length (filter test xs) ≡ suc (length kept.0) = ap length kept.1 in
      kept.1 ∙ ap (λ rest. m ∷ rest) (none_left kept.0 (omega arith))

  -- of those that pass another test, the list without those that pass this one has the others
  pub counted_apart : (other : A → Bool) (xs : List A) → count_by other (filter test xs) + count_by other (filter (λ x. not (test x)) xs) ≡ count_by other xs
  counted_apart other xs = sum_by-filter_both test (λ x. not (test x)) (λ x. refl) (λ x. cond (other x) 1 0) xs

  pub counted_one : (other : A → Bool) (m : A) → count_by other (m ∷ []) ≡ cond (other m) 1 0
  counted_one other m = sum_by-cons (λ x. cond (other x) 1 0) m [] ∙ (let zero : cond {A = ℕ} (other m) 1 0 + 0 ≡ cond (other m) 1 0 = omega arith in zero)

  pub counted_without : (other : A → Bool) (xs : List A) (m : A) → find test xs ≡ Some m → count_by test xs ≤ 1
      → cond (other m) 1 0 + count_by other (filter (λ x. not (test x)) xs) ≡ count_by other xs
  counted_without other xs m is few =
      ap (λ n. n + count_by other (filter (λ x. not (test x)) xs)) (sym (ap (count_by other) (filtered_one xs m is few) ∙ counted_one other m))
      ∙ counted_apart other xs

-- what follows from a test and from what holds of all holds of those that pass
pub filtered_all : {A : Type 0} (test : A → Bool) (P Q : A → Type 0) → ((x : A) → test x ≡ true → P x → Q x) → (xs : List A) → All P xs → All Q (filter test xs)
filtered_all test P Q follows xs all =
    λ k d below. follows (get_or (filter test xs) k d) (filter_passes test xs k d below) (All-filter test P xs all k d below)

-- where none is counted, none is found
pub none_found : {A : Type 0} (test : A → Bool) (xs : List A) → count_by test xs ≡ 0 → find test xs ≡ None
none_found test [] none = refl
none_found test (x ∷ xs) none =
    let more = sum_by-cons (λ y. cond {A = ℕ} (test y) 1 0) x xs in
    elim (cases_Bool (test x)) [
      | inl passes ↦ (let one = ap (λ b. cond {A = ℕ} b 1 0) passes in absurd (omega (arith, none, more, one)))
      | inr fails ↦ (let zero_here = ap (λ b. cond {A = ℕ} b 1 0) fails in rw fails (none_found test xs (omega (arith, none, more, zero_here))))
    ]

-- and where none is found, none passes
pub unfound_each : {A : Type 0} (test : A → Bool) (xs : List A) → find test xs ≡ None → All (λ x. test x ≡ false) xs
unfound_each test [] none = All-nil (λ x. test x ≡ false)
unfound_each test (x ∷ xs) none = elim (cases_Bool (test x)) [
  | inl passes ↦ (let clash : Some x ≡ None = rw passes at none in cc)
  | inr fails ↦ All-cons (λ y. test y ≡ false) x xs fails (unfound_each test xs (rw fails at none))
]

-- where none passes, none is counted
pub none_counted : {A : Type 0} (test : A → Bool) (xs : List A) → All (λ x. test x ≡ false) xs → count_by test xs ≡ 0
none_counted test [] fail = refl
none_counted test (x ∷ xs) fail =
    let more = sum_by-cons (λ y. cond {A = ℕ} (test y) 1 0) x xs in
    let zero_here = ap (λ b. cond {A = ℕ} b 1 0) (All-head (λ y. test y ≡ false) x xs fail) in
    let later : count_by test xs ≡ 0 = none_counted test xs (All-tail (λ y. test y ≡ false) x xs fail) in
    omega (arith, more, zero_here, later)

-- what passes a test is counted by a weaker one, among what passes another weaker one
pub counted_among : {A : Type 0} (test keep other : A → Bool) → ((x : A) → test x ≡ true → (keep x ≡ true) × (other x ≡ true)) → (xs : List A) → count_by test xs ≤ count_by other (filter keep xs)
counted_among test keep other weaker [] = omega arith
counted_among test keep other weaker (x ∷ xs) =
    let more = sum_by-cons (λ y. cond {A = ℕ} (test y) 1 0) x xs in
    let rest = counted_among test keep other weaker xs in
    elim (cases_Bool (test x)) [
      | inl passes ↦ (
          let one = ap (λ b. cond {A = ℕ} b 1 0) passes in
          let still = ap (λ b. cond {A = ℕ} b 1 0) (weaker x passes).1 in
          let kept_more = sum_by-cons (λ y. cond {A = ℕ} (other y) 1 0) x (filter keep xs) in
          rw (weaker x passes).0 (omega (arith, more, rest, one, still, kept_more))
          )
      | inr fails ↦ (let zero_here = ap (λ b. cond {A = ℕ} b 1 0) fails in no_fewer (keep x) (omega (arith, more, rest, zero_here)))
    ]
  where
    no_fewer : (b : Bool) → count_by test (x ∷ xs) ≤ count_by other (filter keep xs) → count_by test (x ∷ xs) ≤ count_by other (cond b (x ∷ filter keep xs) (filter keep xs))
    no_fewer true few = (let kept_more = sum_by-cons (λ y. cond {A = ℕ} (other y) 1 0) x (filter keep xs) in omega (arith, few, kept_more))
    no_fewer false few = few
