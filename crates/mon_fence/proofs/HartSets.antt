-- Which harts are in a set without one.
use Rattle.std.proofs.lemmas.Bool.Decides.{nat_tests}
use Rattle.std.proofs.Common.{◌≡◌, ◌≢◌, ℕ, ◌*◌, ◌%◌, ◌^◌, ◌<◌, ◌==◌, min, true, false, ap, sym, ◌∙◌, refl, arith, subst, inl, inr, w8, bit_and, ◌≤◌, ltb, eqb, not, ◌&&◌}
use Rattle.std.specs.Int.{bit_at, bit_not}
use Rattle.std.proofs.lemmas.Bool.{cases_lt, eqb-true, false≢true, cases_Bool, lt-ltb, and_right, eqb-false}
use Rattle.std.proofs.lemmas.Grind.{one_shifted}
use Rattle.std.proofs.lemmas.Nat.Bits.{bit_at_and, bit_at-lt, bit_at_clear_same, bit_at_ones_above, bit_at_clear_other, bit_at_ones}
use Rattle.pl_base.specs.declared.number.HartSet.{HartSet}
use Rattle.pl_base.specs.HartSet.{has_hart, harts_below, without_hart}

-- who is left was in it
pub has_hart-without : (set : HartSet) (h k : ℕ) → has_hart (without_hart set h) k ≡ true → has_hart set k ≡ true
has_hart-without set h k left =
    let both : min (bit_at set.0 k) (bit_at (bit_not w8 (2 ^ h)) k) ≡ 1 = sym (bit_at_and set.0 (bit_not w8 (2 ^ h)) k) ∙ eqb-true (bit_at (without_hart set h).0 k) 1 left in
    let small : bit_at set.0 k < 2 = bit_at-lt set.0 k in
    let one : bit_at set.0 k ≡ 1 = omega arith in
    ap (λ bit. bit == 1) one

-- the one is gone
pub has_hart-without_same : (set : HartSet) (h : ℕ) → h < 8 → has_hart (without_hart set h) h ≡ false
has_hart-without_same set h small =
    let whole : 1 * 2 ^ h % 256 ≡ 2 ^ h = (one_shifted h 255 refl small).0 in
    subst (λ n. (bit_at (bit_and set.0 (bit_not w8 n)) h == 1) ≡ false) whole (ap (λ bit. bit == 1) (bit_at_clear_same w8 set.0 h small))

pub has_hart-below_inside : (harts k : ℕ) → has_hart (harts_below harts) k ≡ true → k < harts
has_hart-below_inside harts k inside =
    elim (cases_lt k harts) [
      | inl below ↦ below
      | inr past ↦ absurd (false≢true (sym (ap (λ bit. bit == 1) (bit_at_ones_above harts k past)) ∙ inside))
    ]

-- the others than hart h
pub others_than : (harts h k : ℕ) → h < 8 → has_hart (without_hart (harts_below harts) h) k ≡ true → (k < harts) × (k ≢ h)
others_than harts h k small is = (
  has_hart-below_inside harts k (has_hart-without (harts_below harts) h k is),
  λ same. false≢true (sym (has_hart-without_same (harts_below harts) h small) ∙ subst (λ j. has_hart (without_hart (harts_below harts) h) j ≡ true) same is),
)

-- ---- exactly the others

pub has_hart-without_other : (set : HartSet) (h k : ℕ) → h < 8 → k < 8 → k ≢ h → has_hart (without_hart set h) k ≡ has_hart set k
has_hart-without_other set h k small below other =
    let whole : 1 * 2 ^ h % 256 ≡ 2 ^ h = (one_shifted h 255 refl small).0 in
    subst (λ n. (bit_at (bit_and set.0 (bit_not w8 n)) k == 1) ≡ has_hart set k) whole (ap (λ bit. bit == 1) (bit_at_clear_other w8 set.0 h small k below other))

has_hart-below_all : (harts k : ℕ) → k < harts → has_hart (harts_below harts) k ≡ true
has_hart-below_all harts k below = ap (λ bit. bit == 1) (bit_at_ones harts k below)

pub others_exactly : (harts h k : ℕ) → harts ≤ 8 → h < harts → has_hart (without_hart (harts_below harts) h) k ≡ (ltb k harts && not (eqb k h))
others_exactly harts h k few below = elim (cases_Bool (has_hart (without_hart (harts_below harts) h) k)) [
  | inl there ↦
      let both = others_than harts h k (omega arith) there in
      let inside : ltb k harts ≡ true = lt-ltb k harts both.0 in
      let other : eqb k h ≡ false = (let apart : k ≢ h = both.1 in grind (arith, nat_tests)) in
      there ∙ sym (rw (inside, other) refl)
  | inr gone ↦ gone ∙ sym (elim (cases_lt k harts) [
    | inr past ↦ let no : ltb k harts ≡ false = grind (arith, nat_tests) in rw no refl
    | inl inside ↦ elim (cases_Bool (eqb k h)) [
      | inl same ↦ and_right _ _ (ap not same)
      | inr other ↦ absurd (false≢true (sym gone ∙ (has_hart-without_other (harts_below harts) h k (omega arith) (omega arith) (eqb-false k h other) ∙ has_hart-below_all harts k inside)))
    ]
  ])
]
