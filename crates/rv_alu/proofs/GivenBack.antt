-- Quotients and remainders give back the dividend.
use Rattle.std.proofs.Common.{◌≡◌, ℕ, suc, ◌+◌, ◌*◌, ◌<◌, ◌%◌, ◌/◌, ◌^◌, ◌-◌, true, false, cond, eqb, ℤ, pos, negsuc, ◌+ℤ◌, ◌-ℤ◌, ◌*ℤ◌, w32, w64, to_z, Fits, refl, sym, ap, ◌∙◌, arith, inl, inr}
use Rattle.std.specs.Int.{Width, int_wrap}
use Rattle.std.specs.Int.RustNames.{int_div, int_rem}
use Rattle.std.proofs.Math.Facts.{to_z_inj, sfits_to_z}
use Rattle.std.proofs.lemmas.Bool.{eqb-true, cases_Bool, cases_lt, lt-ltb, le-ltb}
use Rattle.std.proofs.lemmas.Bool.Decides.{nat_tests}
use Rattle.std.proofs.lemmas.Int.{ints, quot-rem, wrapping_add-bits, wrapping_mul-bits, int_wrap-add_left, int_wrap-add_right, int_wrap-mul_left, int_wrap_fits, int_wrap-add_same}
use Rattle.std.proofs.Math.Nat.{add-mod, mod-add-mod, mod-eq_of_lt, div-le_self, mod-le}
use Rattle.std.proofs.lemmas.Nat.{mul-mod, mod_below, pow_pos, div-add-mod'}
use Rattle.rv_insn.specs.Word.{signed}
use Rattle.rv_alu.specs.Values.{wrapped, quotient, remainder, unsigned_quotient, unsigned_remainder, GivesBack}
use Rattle.rv_insn.specs.declared.insn.AluOp.TheVariants.{Div, Divu, Rem, Remu, Divw, Divuw, Remw, Remuw}
use mir.Val.{bits}

pub at_64 : (n : ℕ) → n < 2 ^ 64 → signed 64 n ≡ to_z w64 n
at_64 n h = grind (arith, ints, nat_tests)

pub at_32 : (n : ℕ) → n < 2 ^ 32 → signed 32 n ≡ to_z w32 n
at_32 n h = grind (arith, ints, nat_tests)

pub wrapped_is : (w : Width) (z : ℤ) → to_z w (wrapped (bits w) z) ≡ int_wrap w z
unfolding int_wrap
wrapped_is w z = refl

pub wrapped_below : (width : ℕ) (z : ℤ) → wrapped width z < 2 ^ width
wrapped_below width (pos a) = mod_below a (2 ^ width) (pow_pos width)
wrapped_below width (negsuc a) = let positive = pow_pos width in omega arith

by_zero : (width q a : ℕ) → a < 2 ^ width → (q * 0 % 2 ^ width + a) % 2 ^ width ≡ a
by_zero width q a h = mod-add-mod (q * 0) (2 ^ width) a ∙ ap (λ x. x % 2 ^ width) (omega arith) ∙ mod-eq_of_lt h

-- ---- the signed division at a width whose `signed` is Rust's

module _ (w : Width) (same : (n : ℕ) → n < 2 ^ bits w → signed (bits w) n ≡ to_z w n) where
  -- a product and a sum, taken modulo the width's power, are those of the whole numbers wrapped
  whole : (q r : ℤ) (b : ℕ) → b < 2 ^ bits w
      → to_z w ((wrapped (bits w) q * b % 2 ^ bits w + wrapped (bits w) r) % 2 ^ bits w) ≡ int_wrap w ((q *ℤ to_z w b) +ℤ r)
  whole q r b h =
      let Q = wrapped (bits w) q in
      let R = wrapped (bits w) r in
      let lq = wrapped_below (bits w) q in
      let lr = wrapped_below (bits w) r in
      let lp = mod_below (Q * b) (2 ^ bits w) (pow_pos (bits w)) in
      wrapping_add-bits w (Q * b % 2 ^ bits w) R lp lr
      ∙ ap (λ z. int_wrap w (z +ℤ to_z w R)) (wrapping_mul-bits w Q b lq h)
      ∙ int_wrap-add_left w (to_z w Q *ℤ to_z w b) (to_z w R)
      ∙ ap (λ z. int_wrap w ((z *ℤ to_z w b) +ℤ to_z w R)) (wrapped_is w q)
      ∙ ap (λ z. int_wrap w ((int_wrap w q *ℤ to_z w b) +ℤ z)) (wrapped_is w r)
      ∙ int_wrap-add_right w (int_wrap w q *ℤ to_z w b) r
      ∙ int_wrap-add_same w (int_wrap w q *ℤ to_z w b) (q *ℤ to_z w b) r (int_wrap-mul_left w q (to_z w b))

  divided : (a b : ℕ) → a < 2 ^ bits w → b < 2 ^ bits w → eqb b 0 ≡ false
      → (wrapped (bits w) (int_div (signed (bits w) a) (signed (bits w) b)) * b % 2 ^ bits w + wrapped (bits w) (int_rem (signed (bits w) a) (signed (bits w) b))) % 2 ^ bits w ≡ a
  divided a b ha hb nonzero =
      let x = signed (bits w) a in
      let y = signed (bits w) b in
      let sum_fits : Fits w ((wrapped (bits w) (int_div x y) * b % 2 ^ bits w + wrapped (bits w) (int_rem x y)) % 2 ^ bits w)
      = record { fits = mod_below _ (2 ^ bits w) (pow_pos (bits w)) } in
      let a_fits : Fits w a = record { fits = ha } in
      to_z_inj sum_fits a_fits
      (whole (int_div x y) (int_rem x y) b hb
      ∙ ap (λ z. int_wrap w ((int_div x y *ℤ z) +ℤ int_rem x y)) (sym (same b hb))
      ∙ ap (int_wrap w) (quot-rem x y)
      ∙ ap (int_wrap w) (same a ha)
      ∙ int_wrap_fits w (to_z w a) (sfits_to_z a_fits))

  signed_back : (a b : ℕ) → a < 2 ^ bits w → b < 2 ^ bits w → (quotient (bits w) a b * b % 2 ^ bits w + remainder (bits w) a b) % 2 ^ bits w ≡ a
  signed_back a b ha hb = elim (cases_Bool (eqb b 0)) [
    | inl none ↦ (let zero_is : b ≡ 0 = eqb-true b 0 none in rw zero_is (by_zero (bits w) (2 ^ bits w - 1) a ha))
    | inr some ↦ rw some (divided a b ha hb some)
  ]

unsigned_back : (width a b : ℕ) → a < 2 ^ width → (unsigned_quotient width a b * b % 2 ^ width + unsigned_remainder width a b) % 2 ^ width ≡ a
unsigned_back width a b ha = elim (cases_Bool (eqb b 0)) [
  | inl none ↦ (let zero_is : b ≡ 0 = eqb-true b 0 none in rw zero_is (by_zero width (2 ^ width - 1) a ha))
  | inr some ↦ rw some (mod-add-mod (a / b * b) (2 ^ width) (a % b) ∙ ap (λ x. x % 2 ^ width) (div-add-mod' a b) ∙ mod-eq_of_lt ha)
]

-- ---- at 64 bits, and at 32 below the sign

given_back : (q r a b : ℕ) → a < 2 ^ 64 → (q * b % 2 ^ 64 + r) % 2 ^ 64 ≡ a → (q * b + r) % 2 ^ 64 ≡ a % 2 ^ 64
given_back q r a b h e = sym (mod-add-mod (q * b) (2 ^ 64) r) ∙ e ∙ sym (mod-eq_of_lt h)

pub low_word : (n : ℕ) → n < 2 ^ 32 → wrapped 64 (signed 32 n) % 2 ^ 32 ≡ n
low_word n h = elim (cases_lt n (2 ^ 31)) [
  | inl low ↦ (rw (lt-ltb n (2 ^ 31) low) (omega arith))
  | inr high ↦ (let less : pos n -ℤ pos (2 ^ 32) ≡ negsuc (2 ^ 32 - suc n) = omega (arith, ints) in rw (le-ltb n (2 ^ 31) high, less) (omega arith))
]

given_back_narrow : (q r a b : ℕ) → q < 2 ^ 32 → r < 2 ^ 32 → (q * (b % 2 ^ 32) % 2 ^ 32 + r) % 2 ^ 32 ≡ a % 2 ^ 32
    → (wrapped 64 (signed 32 q) * b + wrapped 64 (signed 32 r)) % 2 ^ 32 ≡ a % 2 ^ 32
given_back_narrow q r a b hq hr e =
    add-mod (wrapped 64 (signed 32 q) * b) (wrapped 64 (signed 32 r)) (2 ^ 32)
    ∙ ap (λ x. (x + wrapped 64 (signed 32 r) % 2 ^ 32) % 2 ^ 32) (mul-mod (wrapped 64 (signed 32 q)) b (2 ^ 32))
    ∙ ap (λ x. (x * (b % 2 ^ 32) % 2 ^ 32 + wrapped 64 (signed 32 r) % 2 ^ 32) % 2 ^ 32) (low_word q hq)
    ∙ ap (λ x. (q * (b % 2 ^ 32) % 2 ^ 32 + x) % 2 ^ 32) (low_word r hr)
    ∙ e

quotient_below : (width a b : ℕ) → quotient width a b < 2 ^ width
quotient_below width a b =
    let positive = pow_pos width in
    let z = wrapped_below width (int_div (signed width a) (signed width b)) in
    elim (eqb b 0) as (λ t. cond t (2 ^ width - 1) (wrapped width (int_div (signed width a) (signed width b))) < 2 ^ width) [ true ↦ omega arith | false ↦ z ]

pub remainder_below : (width a b : ℕ) → a < 2 ^ width → remainder width a b < 2 ^ width
remainder_below width a b h =
    let z = wrapped_below width (int_rem (signed width a) (signed width b)) in
    elim (eqb b 0) as (λ t. cond t a (wrapped width (int_rem (signed width a) (signed width b))) < 2 ^ width) [ true ↦ h | false ↦ z ]

unsigned_quotient_below : (width a b : ℕ) → a < 2 ^ width → unsigned_quotient width a b < 2 ^ width
unsigned_quotient_below width a b h =
    let positive = pow_pos width in
    let less = div-le_self a b in
    elim (eqb b 0) as (λ t. cond t (2 ^ width - 1) (a / b) < 2 ^ width) [ true ↦ omega arith | false ↦ omega arith ]

pub unsigned_remainder_below : (width a b : ℕ) → a < 2 ^ width → unsigned_remainder width a b < 2 ^ width
unsigned_remainder_below width a b h =
    let less = mod-le a b in
    elim (eqb b 0) as (λ t. cond t a (a % b) < 2 ^ width) [ true ↦ h | false ↦ omega arith ]

pub low_below : (n : ℕ) → n % 2 ^ 32 < 2 ^ 32
low_below n = omega arith

pub div_rem : GivesBack 64 Div Rem
div_rem a b ha hb = given_back (quotient 64 a b) (remainder 64 a b) a b ha (signed_back w64 at_64 a b ha hb)

pub divu_remu : GivesBack 64 Divu Remu
divu_remu a b ha hb = given_back (unsigned_quotient 64 a b) (unsigned_remainder 64 a b) a b ha (unsigned_back 64 a b ha)

pub divw_remw : GivesBack 32 Divw Remw
divw_remw a b ha hb =
    let x = a % 2 ^ 32 in
    let y = b % 2 ^ 32 in
    given_back_narrow (quotient 32 x y) (remainder 32 x y) a b (quotient_below 32 x y) (remainder_below 32 x y (low_below a)) (signed_back w32 at_32 x y (low_below a) (low_below b))

pub divuw_remuw : GivesBack 32 Divuw Remuw
divuw_remuw a b ha hb =
    let x = a % 2 ^ 32 in
    let y = b % 2 ^ 32 in
    given_back_narrow (unsigned_quotient 32 x y) (unsigned_remainder 32 x y) a b (unsigned_quotient_below 32 x y (low_below a)) (unsigned_remainder_below 32 x y (low_below a)) (unsigned_back 32 x y (low_below a))

pub ruleset laws = (div_rem, divu_remu, divw_remw, divuw_remuw)
