-- The range that a register names by its trailing ones: it ends below 2 ^ 58, and each range has its register.
use Rattle.std.proofs.Common.{◌≡◌, ℕ, ◌+◌, ◌*◌, ◌/◌, ◌%◌, ◌^◌, ◌<◌, ◌≤◌, ◌-◌, ◌⊎◌, sym, ap, subst, ◌∙◌, ⊎_elim, arith}
use Rattle.std.specs.Int.{trailing_ones, bit_at, w64}
use Rattle.std.proofs.lemmas.Bool.{cases_lt, cases_order}
use Rattle.std.proofs.lemmas.Nat.{pow_pos, pow_below, pow-add, shr_split, shr_high, shl_whole}
use Rattle.std.proofs.lemmas.Nat.Bits.{bit_at-trailing_ones, bit_at_above, bit_at_ones, bit_at_ones_above, bit_at_cat_low}
use Rattle.rv_pmp.specs.Rule.{nth_span, aligned_span}

pub trailing_ones-le : (addr : ℕ) → addr < 2 ^ 54 → trailing_ones w64 addr ≤ 54
trailing_ones-le addr small =
    let ones = bit_at-trailing_ones w64 addr (omega arith) in
    ⊎_elim
    (λ (above : 54 < trailing_ones w64 addr). absurd (let set : bit_at addr 54 ≡ 1 = ones.2 54 above in let clear : bit_at addr 54 ≡ 0 = bit_at_above addr 54 54 small (omega arith) in cc))
    (λ (within : trailing_ones w64 addr ≤ 54). within)
    (cases_lt 54 (trailing_ones w64 addr))

pub size_is : (k : ℕ) → k ≤ 54 → 8 * 2 ^ k % 2 ^ 64 ≡ 2 ^ (k + 3)
size_is k h =
    let eight : 2 ^ (k + 3) ≡ 2 ^ k * 8 = pow-add 2 k 3 in
    let whole : 8 * 2 ^ k % 2 ^ 64 ≡ 8 * 2 ^ k = shl_whole 8 4 k 64 (omega arith) (omega arith) in
    whole ∙ omega (arith, eight)

pub size_below : (k : ℕ) → k ≤ 54 → 2 ^ (k + 3) < 2 ^ 58
size_below k h = pow_below (k + 3) 58 (omega arith)

fourfold : (q p r addr : ℕ) → q * (p * 2) + r ≡ addr → addr < 2 ^ 54 → q * (p * 8) < 2 ^ 56
fourfold q p r addr split small = omega arith

pub start_below : (addr k : ℕ) → addr < 2 ^ 54 → addr / 2 ^ (k + 1) * 2 ^ (k + 3) < 2 ^ 56
start_below addr k small =
    let two : 2 ^ (k + 1) ≡ 2 ^ k * 2 = pow-add 2 k 1 in
    let split : addr / 2 ^ (k + 1) * (2 ^ k * 2) + addr % 2 ^ (k + 1) ≡ addr = ap (λ n. addr / 2 ^ (k + 1) * n + addr % 2 ^ (k + 1)) (sym two) ∙ shr_split addr (k + 1) in
    subst (λ n. addr / 2 ^ (k + 1) * n < 2 ^ 56) (sym (pow-add 2 k 3)) (fourfold (addr / 2 ^ (k + 1)) (2 ^ k) (addr % 2 ^ (k + 1)) addr split small)

ones_below : (k : ℕ) → 2 ^ k - 1 < 2 ^ (k + 1)
ones_below k =
    let two : 2 ^ (k + 1) ≡ 2 ^ k * 2 = pow-add 2 k 1 in
    let some = pow_pos k in
    omega arith

one_at : (number k i : ℕ) → i < k → bit_at (number * 2 ^ (k + 1) + (2 ^ k - 1)) i ≡ 1
one_at number k i h = bit_at_cat_low number (k + 1) (2 ^ k - 1) i (omega arith) ∙ bit_at_ones k i h

zero_at : (number k : ℕ) → bit_at (number * 2 ^ (k + 1) + (2 ^ k - 1)) k ≡ 0
zero_at number k = bit_at_cat_low number (k + 1) (2 ^ k - 1) k (omega arith) ∙ bit_at_ones_above k k (omega arith)

-- so many ones trail
trailing_ones-is : (number k : ℕ) → number * 2 ^ (k + 1) + (2 ^ k - 1) < 2 ^ 54 → trailing_ones w64 (number * 2 ^ (k + 1) + (2 ^ k - 1)) ≡ k
trailing_ones-is number k small =
    let addr : ℕ = number * 2 ^ (k + 1) + (2 ^ k - 1) in
    let t : ℕ = trailing_ones w64 addr in
    let ones = bit_at-trailing_ones w64 addr (omega arith) in
    ⊎_elim
    (λ (same : t ≡ k). same)
    (λ (apart : (t < k) ⊎ (k < t)). ⊎_elim
    (λ (fewer : t < k). absurd (let a = one_at number k t fewer in let b = ones.1 in cc))
    (λ (more : k < t). absurd (let a = zero_at number k in let b = ones.2 k more in cc))
    apart)
    (cases_order t k)

pub aligned_span-is : (number k : ℕ) → number * 2 ^ (k + 1) + (2 ^ k - 1) < 2 ^ 54
    → aligned_span (number * 2 ^ (k + 1) + (2 ^ k - 1)) ≡ nth_span number (2 ^ (k + 3))
aligned_span-is number k small =
    ap (λ t. nth_span ((number * 2 ^ (k + 1) + (2 ^ k - 1)) / 2 ^ (t + 1)) (2 ^ (t + 3))) (trailing_ones-is number k small)
    ∙ ap (λ n. nth_span n (2 ^ (k + 3))) (shr_high number (k + 1) (2 ^ k - 1) (ones_below k))
