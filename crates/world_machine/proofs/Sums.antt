-- Sums over harts, and over the elements of a list, of which one changed.
use Rattle.std.proofs.Common.{◌≡◌, ◌≢◌, ℕ, zero, suc, ◌+◌, ◌<◌, ◌≤◌, List, [], ◌∷◌, length, sum_by, slice_get, unwrap_or, sym, ap, subst, arith, inl, inr}
use Rattle.std.specs.Prelude.{slice_set}
use Rattle.std.specs.List.{range_with_len}
use Rattle.std.proofs.lemmas.Bool.{cases_lt}
use Rattle.std.proofs.lemmas.List.Sums.{sum_by-cons, sum_by-set}
use Rattle.std.proofs.lemmas.Option.{unwrap_or-slice_get}

-- one sum is at most another, where each term is
pub sums_below : (f g : ℕ → ℕ) (from n : ℕ) → ((x : ℕ) → from ≤ x → x < from + n → f x ≤ g x) → sum_by f (range_with_len from n) ≤ sum_by g (range_with_len from n)
sums_below f g from zero each = omega arith
sums_below f g from (suc n) each =
    omega (
      arith,
      sum_by-cons f from (range_with_len (from + 1) n),
      sum_by-cons g from (range_with_len (from + 1) n),
      each from (omega arith) (omega arith),
      sums_below f g (from + 1) n (λ x low below. each x (omega arith) (omega arith)),
    )

-- where all terms but one stay, the sum changes as that one does
pub sum_changes : (f g : ℕ → ℕ) (a from n : ℕ) → from ≤ a → a < from + n → ((x : ℕ) → x ≢ a → g x ≡ f x)
    → sum_by g (range_with_len from n) + f a ≤ sum_by f (range_with_len from n) + g a
sum_changes f g a from zero low high others = absurd (omega arith)
sum_changes f g a from (suc n) low high others = elim (cases_lt from a) [
  | inl later ↦
      let below : from < a = later in
      let same : g from ≡ f from = others from (λ here. let e : from ≡ a = here in omega arith) in
      omega (
        arith,
        sum_by-cons f from (range_with_len (from + 1) n),
        sum_by-cons g from (range_with_len (from + 1) n),
        same,
        sum_changes f g a (from + 1) n (omega arith) (omega arith) others,
      )
  | inr reached ↦
      let past : a ≤ from = reached in
      let here : a ≡ from = omega arith in
      let own_f : f a ≡ f from = ap f here in
      let own_g : g a ≡ g from = ap g here in
      let rest : sum_by g (range_with_len (from + 1) n) ≤ sum_by f (range_with_len (from + 1) n)
      = sums_below g f (from + 1) n (λ x low' high'. let same : g x ≡ f x = others x (λ e. let is : x ≡ a = e in omega arith) in omega arith) in
      omega (arith, sum_by-cons f from (range_with_len (from + 1) n), sum_by-cons g from (range_with_len (from + 1) n), own_f, own_g, rest)
]

-- ---- one element of a list

-- a list with another element is at most that element more
pub set_at_most : {A : Type 0} (f : A → ℕ) (xs : List A) (i : ℕ) (v : A) → sum_by f (slice_set xs i v) ≤ sum_by f xs + f v
set_at_most f [] i v = omega arith
set_at_most f (x ∷ xs) zero v = omega (arith, sum_by-cons f x xs, sum_by-cons f v xs)
set_at_most f (x ∷ xs) (suc i) v = omega (arith, sum_by-cons f x xs, sum_by-cons f x (slice_set xs i v), set_at_most f xs i v)

-- and the old one less
pub set_changes : {A : Type 0} (f : A → ℕ) (xs : List A) (i : ℕ) (v d : A) → i < length xs
    → sum_by f (slice_set xs i v) + f (unwrap_or (slice_get xs i) d) ≡ sum_by f xs + f v
set_changes f xs i v d below = subst (λ x. sum_by f (slice_set xs i v) + f x ≡ sum_by f xs + f v) (sym (unwrap_or-slice_get xs i d)) (sum_by-set f xs i v d below)

-- where one element's term falls by so much, so does the sum; a place past the end has no term
pub set_falls : {A : Type 0} (f : A → ℕ) (xs : List A) (i : ℕ) (v d : A) (n : ℕ) → f d ≡ 0 → f v + n ≤ f (unwrap_or (slice_get xs i) d) → sum_by f (slice_set xs i v) + n ≤ sum_by f xs
set_falls f [] i v d n none falls = let h : f v + n ≤ f d = falls in let z : f d ≡ 0 = none in omega arith
set_falls f (x ∷ xs) zero v d n none falls = omega (arith, sum_by-cons f x xs, sum_by-cons f v xs, falls)
set_falls f (x ∷ xs) (suc i) v d n none falls = omega (arith, sum_by-cons f x xs, sum_by-cons f x (slice_set xs i v), set_falls f xs i v d n none falls)
