-- One element of a list changed, by place.
use Rattle.std.proofs.Common.{◌≡◌, ◌≢◌, ℕ, zero, suc, ◌<◌, eqb, if◌then◌else◌, List, [], ◌∷◌, length, Some, slice_get, set, unwrap_or, refl, ap, sym, subst, arith, inl, inr, length-set}
use Rattle.std.proofs.lemmas.Bool.{cases_Bool, eqb-true, eqb-false, eq-eqb}

pub get-set_same : {A : Type 0} (xs : List A) (i : ℕ) (v : A) → i < length xs → slice_get (set xs i v) i ≡ Some v
get-set_same [] i v below = absurd (omega arith)
get-set_same (x ∷ xs) zero v below = refl
get-set_same (x ∷ xs) (suc i) v below = get-set_same xs i v (omega arith)

pub get-set_other : {A : Type 0} (xs : List A) (i j : ℕ) (v : A) → j ≢ i → slice_get (set xs i v) j ≡ slice_get xs j
get-set_other [] i j v other = refl
get-set_other (x ∷ xs) zero zero v other = absurd (other refl)
get-set_other (x ∷ xs) zero (suc j) v other = refl
get-set_other (x ∷ xs) (suc i) zero v other = refl
get-set_other (x ∷ xs) (suc i) (suc j) v other = get-set_other xs i j v (λ e. other (ap suc e))

pub or_same : {A : Type 0} (xs : List A) (i : ℕ) (v d : A) → i < length xs → unwrap_or (slice_get (set xs i v) i) d ≡ v
or_same xs i v d below = ap (λ o. unwrap_or o d) (get-set_same xs i v below)

pub or_other : {A : Type 0} (xs : List A) (i j : ℕ) (v d : A) → j ≢ i → unwrap_or (slice_get (set xs i v) j) d ≡ unwrap_or (slice_get xs j) d
or_other xs i j v d other = ap (λ o. unwrap_or o d) (get-set_other xs i j v other)

-- what holds of one number and of all others holds of all
pub everywhere : (P : ℕ → Type 0) (e : ℕ) → P e → ((f : ℕ) → f ≢ e → P f) → (f : ℕ) → P f
everywhere P e here others f = elim (cases_Bool (eqb f e)) [
  | inl same ↦ subst P (sym (eqb-true f e same)) here
  | inr apart ↦ others f (eqb-false f e apart)
]

pub if_same : {A : Type 0} (e : ℕ) (x y : A) → (if eqb e e then x else y) ≡ x
if_same e x y = ap (λ b. if b then x else y) (eq-eqb e e refl)

pub if_other : {A : Type 0} (e f : ℕ) (x y : A) → f ≢ e → (if eqb f e then x else y) ≡ y
if_other e f x y apart = elim (cases_Bool (eqb f e)) [
  | inl same ↦ absurd (apart (eqb-true f e same))
  | inr is ↦ ap (λ b. if b then x else y) is
]

-- ---- a list in which one place may have changed

pub record ChangedAt {A : Type 0} (d : A) (old new : List A) (at : ℕ) (v : A) : Type 0 where
  pub here : unwrap_or (slice_get new at) d ≡ v
  pub others : (j : ℕ) → j ≢ at → unwrap_or (slice_get new j) d ≡ unwrap_or (slice_get old j) d
  pub size : length new ≡ length old

pub changed_set : {A : Type 0} (d : A) (old : List A) (at : ℕ) (v : A) → at < length old → ChangedAt d old (set old at v) at v
changed_set d old at v below = record { here = or_same old at v d below; others = λ j other. or_other old at j v d other; size = length-set old at v }

pub changed_none : {A : Type 0} (d : A) (old : List A) (at : ℕ) → ChangedAt d old old at (unwrap_or (slice_get old at) d)
changed_none d old at = record { here = refl; others = λ j other. refl; size = refl }
