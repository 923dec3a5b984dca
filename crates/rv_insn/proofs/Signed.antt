-- Two's complement numbers of any width.
use Rattle.std.proofs.Common.{◌≡◌, ℕ, suc, ◌+◌, ◌-◌, ◌*◌, ◌/◌, ◌%◌, ◌^◌, ◌<◌, ◌≤◌, ℤ, pos, negsuc, ◌-ℤ◌, to_z, of_z, w32, FitsSigned, sym, refl, ap, ◌∙◌, arith, ⊎_elim}
use Rattle.std.specs.Int.{int_shr}
use Rattle.std.specs.Int.Signed.{mag, mag_shr}
use Rattle.std.proofs.Math.Nat.{mul-le-mul_right, mod-eq_of_lt}
use Rattle.std.proofs.lemmas.Int.{ints, to_z-of_z, to_z_pos}
use Rattle.std.proofs.lemmas.Nat.{pow-add, shl-shr, shl_below, shl_whole, shr_high, pow_pos, mod_low}
use Rattle.std.proofs.lemmas.Bool.{cases_lt, lt-ltb, le-ltb}
use Rattle.rv_insn.specs.Word.{signed}

pub less : (a b : ℕ) → a < b → pos a -ℤ pos b ≡ negsuc (b - suc a)
less a b h = omega (arith, ints)

pub signed-low : (width n : ℕ) → n < 2 ^ (width - 1) → signed width n ≡ pos n
signed-low width n h = rw (lt-ltb n (2 ^ (width - 1)) h) refl

pub signed-high : (width n : ℕ) → 2 ^ (width - 1) ≤ n → n < 2 ^ width → signed width n ≡ negsuc (2 ^ width - suc n)
signed-high width n h k = rw (le-ltb n (2 ^ (width - 1)) h) (less n (2 ^ width) k)

-- what is left of a number below a multiple, over the factor
below_multiple : (w n k : ℕ) → n < w → (w * 2 ^ k - suc (n * 2 ^ k)) / 2 ^ k ≡ w - suc n
below_multiple w n k h =
    let d = w - suc n in
    let positive = pow_pos k in
    let whole : w * 2 ^ k ≡ (d + suc n) * 2 ^ k = ap (λ x. x * 2 ^ k) (omega arith) in
    let parts : w * 2 ^ k - suc (n * 2 ^ k) ≡ d * 2 ^ k + (2 ^ k - 1) = omega (arith, whole) in
    ap (λ x. x / 2 ^ k) parts ∙ shr_high d k (2 ^ k - 1) (omega arith)

-- the top bit, moved up to bit 31 and down again, is copied into the bits above
module _ (width k n : ℕ) (some : 1 ≤ width) (all : width + k ≡ 32) (fits : n < 2 ^ width) where
  whole : (n * 2 ^ k) % 2 ^ 32 ≡ n * 2 ^ k
  whole = shl_whole n width k 32 fits (omega arith)

  shifted-low : n < 2 ^ (width - 1) → int_shr (to_z w32 (n * 2 ^ k)) k ≡ signed width n
  shifted-low h =
      let e : width - 1 + k ≡ 31 = omega arith in
      ap (λ z. int_shr z k) (to_z_pos w32 (n * 2 ^ k) (rw e at (shl_below n (width - 1) k h))) ∙ ap pos (shl-shr n k) ∙ sym (signed-low width n h)

  shifted-high : 2 ^ (width - 1) ≤ n → int_shr (to_z w32 (n * 2 ^ k)) k ≡ signed width n
  shifted-high h =
      let e : width - 1 + k ≡ 31 = omega arith in
      let half : 2 ^ (width - 1) * 2 ^ k ≡ 2 ^ 31 = sym (pow-add 2 (width - 1) k) ∙ ap (λ x. 2 ^ x) e in
      let all_bits : 2 ^ width * 2 ^ k ≡ 2 ^ 32 = sym (pow-add 2 width k) ∙ ap (λ x. 2 ^ x) all in
      let low : 2 ^ 31 ≤ n * 2 ^ k = omega (arith, half, mul-le-mul_right (2 ^ k) h) in
      let high : n * 2 ^ k < 2 ^ width * 2 ^ k = rw all_bits (rw all at (shl_below n width k fits)) in
      let top : to_z w32 (n * 2 ^ k) ≡ negsuc (2 ^ 32 - suc (n * 2 ^ k)) = rw (le-ltb (n * 2 ^ k) (2 ^ 31) low) refl in
      ap (λ z. int_shr z k) top
      ∙ ap (λ x. negsuc ((x - suc (n * 2 ^ k)) / 2 ^ k)) (sym all_bits)
      ∙ ap negsuc (below_multiple (2 ^ width) n k fits)
      ∙ sym (signed-high width n h fits)

  shifted : int_shr (to_z w32 (n * 2 ^ k)) k ≡ signed width n
  shifted = ⊎_elim shifted-low shifted-high (cases_lt n (2 ^ (width - 1)))

  -- what the two shifts of the code give
  pub signed_by_shifts : (z : ℤ) → z ≡ to_z w32 ((n * 2 ^ k) % 2 ^ 32) → mag z < 2 ^ 31 → to_z w32 (of_z w32 (int_shr (to_z w32 (of_z w32 z)) k)) ≡ signed width n
  signed_by_shifts z e small =
      let up : z ≡ to_z w32 (n * 2 ^ k) = e ∙ ap (to_z w32) whole in
      let fits_up : FitsSigned w32 z = record { sfits = small } in
      let fits_down : FitsSigned w32 (int_shr z k) = record { sfits = omega (arith, mag_shr z (2 ^ k)) } in
      ap (λ x. to_z w32 (of_z w32 (int_shr x k))) (to_z-of_z w32 z fits_up)
      ∙ to_z-of_z w32 (int_shr z k) fits_down
      ∙ ap (λ x. int_shr x k) up
      ∙ shifted

-- ---- and back: the low bits of the 32 that it has in the code

module _ (width k n : ℕ) (some : 1 ≤ width) (all : width + k ≡ 32) (fits : n < 2 ^ width) where
  back-high : 2 ^ (width - 1) ≤ n → of_z w32 (signed width n) % 2 ^ width ≡ n
  back-high h =
      let sum : k + width ≡ 32 = omega arith in
      let all_bits : 2 ^ k * 2 ^ width ≡ 2 ^ 32 = sym (pow-add 2 k width) ∙ ap (λ x. 2 ^ x) sum in
      let positive = pow_pos k in
      let rest : 2 ^ k * 2 ^ width ≡ (2 ^ k - 1 + 1) * 2 ^ width = ap (λ x. x * 2 ^ width) (omega arith) in
      let parts : 2 ^ 32 - suc (2 ^ width - suc n) ≡ (2 ^ k - 1) * 2 ^ width + n = omega (arith, all_bits, rest) in
      ap (λ z. of_z w32 z % 2 ^ width) (signed-high width n h fits) ∙ ap (λ x. x % 2 ^ width) parts ∙ mod_low (2 ^ k - 1) width n fits

  back : of_z w32 (signed width n) % 2 ^ width ≡ n
  back =
      ⊎_elim
      (λ h. ap (λ z. of_z w32 z % 2 ^ width) (signed-low width n h) ∙ mod-eq_of_lt fits)
      back-high
      (cases_lt n (2 ^ (width - 1)))

pub unsigned-signed : (width n : ℕ) → 1 ≤ width → width ≤ 32 → n < 2 ^ width → of_z w32 (signed width n) % 2 ^ width ≡ n
unsigned-signed width n some most fits = back width (32 - width) n some (omega arith) fits
