-- Remainders are smaller than the divisor, and have the dividend's sign.
use Rattle.std.proofs.Common.{◌≡◌, ◌≢◌, ℕ, zero, suc, ◌<◌, ◌%◌, ◌^◌, Bool, true, false, eqb, ne_eqb, ltb, ◌-◌, ℤ, pos, negsuc, ◌≤ℤ◌, w32, w64, to_z, Fits, sym, ◌∙◌, subst, arith}
use Rattle.std.specs.Prelude.{unsigned_abs}
use Rattle.std.specs.Int.{Width}
use Rattle.std.specs.Int.RustNames.{int_rem, FitsSigned}
use Rattle.std.proofs.Math.Facts.{sfits_to_z}
use Rattle.std.proofs.lemmas.Int.{ints, rem_below, int_wrap_fits}
use Rattle.std.proofs.lemmas.Nat.{mod_below}
use Rattle.std.proofs.Math.Nat.{mod-le, mod-eq_of_lt}
use lib.IntN.{neg_ℤ}
use lib.Signed.{mag_rem}
use mir.Val.{bits, hbits, sel}
use Rattle.rv_insn.specs.Word.{signed}
use Rattle.rv_alu.specs.Values.{wrapped, remainder, unsigned_remainder, IsRemainder, LeavesRemainder, LeavesUnsignedRemainder}
use Rattle.rv_insn.specs.declared.insn.AluOp.TheVariants.{Rem, Remu, Remw, Remuw}
use Rattle.rv_alu.proofs.GivenBack.{at_64, at_32, wrapped_is, wrapped_below, low_word, low_below, remainder_below, unsigned_remainder_below}

negated : (n : ℕ) → neg_ℤ (pos n) ≤ℤ pos 0
negated zero = omega (arith, ints)
negated (suc n) = omega (arith, ints)

not_negative : (a d : ℤ) → pos 0 ≤ℤ a → pos 0 ≤ℤ int_rem a d
not_negative (pos a) d h = omega (arith, ints)
not_negative (negsuc a) d h = absurd (omega (arith, ints))

not_positive : (a d : ℤ) → a ≤ℤ pos 0 → int_rem a d ≤ℤ pos 0
not_positive (pos a) d h =
    let none : a ≡ 0 = omega (arith, ints) in
    let rest = mod-le a (unsigned_abs d) in
    omega (arith, ints)
not_positive (negsuc a) d h = negated (suc a % unsigned_abs d)

is_remainder : (a d : ℤ) → 0 < unsigned_abs d → IsRemainder a d (int_rem a d)
is_remainder a d some = record { smaller = rem_below a d some; not_negative = not_negative a d; not_positive = not_positive a d }

module _ (w : Width) (same : (n : ℕ) → n < 2 ^ bits w → signed (bits w) n ≡ to_z w n) where
  fits : (x : ℕ) (d : ℤ) → x < 2 ^ bits w → FitsSigned w (int_rem (signed (bits w) x) d)
  fits x d h =
      let a_fits : Fits w x = record { fits = h } in
      let whole : FitsSigned w (to_z w x) = sfits_to_z a_fits in
      let smaller = mag_rem (to_z w x) d in
      let rest : FitsSigned w (int_rem (to_z w x) d) = record { sfits = omega (arith, smaller, whole.sfits) } in
      subst (λ z. FitsSigned w (int_rem z d)) (sym (same x h)) rest

  remainder_is : (x y : ℕ) → x < 2 ^ bits w → eqb y 0 ≡ false → signed (bits w) (remainder (bits w) x y) ≡ int_rem (signed (bits w) x) (signed (bits w) y)
  remainder_is x y h some =
      let z = int_rem (signed (bits w) x) (signed (bits w) y) in
      rw some (same (wrapped (bits w) z) (wrapped_below (bits w) z) ∙ wrapped_is w z ∙ int_wrap_fits w z (fits x (signed (bits w) y) h))

  some_magnitude : (y : ℕ) → y < 2 ^ bits w → y ≢ 0 → 0 < unsigned_abs (signed (bits w) y)
  some_magnitude y h some = subst (λ z. 0 < unsigned_abs z) (sym (same y h)) (of_either (ltb y (2 ^ hbits w)))
    where
      of_either : (t : Bool) → 0 < unsigned_abs (sel t (pos y) (negsuc (2 ^ bits w - suc y)))
      of_either true = omega arith
      of_either false = omega arith

  signed_rest : (x y : ℕ) → x < 2 ^ bits w → y < 2 ^ bits w → y ≢ 0 → IsRemainder (signed (bits w) x) (signed (bits w) y) (signed (bits w) (remainder (bits w) x y))
  signed_rest x y hx hy some =
      subst (IsRemainder (signed (bits w) x) (signed (bits w) y)) (sym (remainder_is x y hx (ne_eqb y 0 some)))
      (is_remainder (signed (bits w) x) (signed (bits w) y) (some_magnitude y hy some))

unsigned_rest : (width x y : ℕ) → y ≢ 0 → unsigned_remainder width x y < y
unsigned_rest width x y some = rw (ne_eqb y 0 some) (mod_below x y (omega arith))

-- below the power of two the low bits are the number
at_low : (P : ℕ → ℕ → ℕ → Type 0) (n a b r : ℕ) → a < n → b < n → r < n → P a b r → P (a % n) (b % n) (r % n)
at_low P n a b r ha hb hr p =
    subst (λ z. P z (b % n) (r % n)) (sym (mod-eq_of_lt ha)) (subst (λ z. P a z (r % n)) (sym (mod-eq_of_lt hb)) (subst (P a b) (sym (mod-eq_of_lt hr)) p))

low_some : (n b : ℕ) → b < n → b % n ≢ 0 → b ≢ 0
low_some n b h some zero_is = some (mod-eq_of_lt h ∙ zero_is)

pub rem_rest : LeavesRemainder 64 Rem
rem_rest a b ha hb some =
    at_low (λ x y r. IsRemainder (signed 64 x) (signed 64 y) (signed 64 r)) (2 ^ 64) a b (remainder 64 a b) ha hb (remainder_below 64 a b ha)
    (signed_rest w64 at_64 a b ha hb (low_some (2 ^ 64) b hb some))

pub remu_rest : LeavesUnsignedRemainder 64 Remu
remu_rest a b ha hb some =
    at_low (λ x y r. r < y) (2 ^ 64) a b (unsigned_remainder 64 a b) ha hb (unsigned_remainder_below 64 a b ha)
    (unsigned_rest 64 a b (low_some (2 ^ 64) b hb some))

pub remw_rest : LeavesRemainder 32 Remw
remw_rest a b ha hb some =
    let x = a % 2 ^ 32 in
    let y = b % 2 ^ 32 in
    subst (λ r. IsRemainder (signed 32 x) (signed 32 y) (signed 32 r)) (sym (low_word (remainder 32 x y) (remainder_below 32 x y (low_below a))))
    (signed_rest w32 at_32 x y (low_below a) (low_below b) some)

pub remuw_rest : LeavesUnsignedRemainder 32 Remuw
remuw_rest a b ha hb some =
    let x = a % 2 ^ 32 in
    let y = b % 2 ^ 32 in
    subst (λ r. r < y) (sym (low_word (unsigned_remainder 32 x y) (unsigned_remainder_below 32 x y (low_below a)))) (unsigned_rest 32 x y some)

pub ruleset remainders = (rem_rest, remu_rest, remw_rest, remuw_rest)
