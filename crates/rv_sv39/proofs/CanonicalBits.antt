-- Bits 63:39 of an address equal bit 38 exactly where bits 63:38 are all zeros or all ones.
use Rattle.std.proofs.Common.{◌≡◌, ℕ, ◌+◌, ◌-◌, ◌/◌, ◌%◌, ◌^◌, ◌<◌, ◌≤◌, ◌⊎◌, ⊎_elim, inl, inr, sym, ap, ◌∙◌, arith}
use Rattle.std.specs.Int.{bit_at}
use Rattle.std.proofs.lemmas.Bool.{cases_lt, cases_eq}
use Rattle.std.proofs.lemmas.Nat.{shr-shr, shr_below}
use Rattle.std.proofs.lemmas.Nat.Bits.{bit_at-zero, bit_at-lt, bit_at_ones, same_from_bits_below}
use Rattle.rv_sv39.specs.Canonical.{ExtendsBit38}

-- a bit of the number is one of its top
bit_of_top : (va i : ℕ) → 38 ≤ i → bit_at va i ≡ bit_at (va / 2 ^ 38) (i - 38)
bit_of_top va i h =
    let e : 38 + (i - 38) ≡ i = omega arith in
    ap (λ k. va / 2 ^ k % 2) (sym e) ∙ ap (λ n. n % 2) (sym (shr-shr va 38 (i - 38)))

pub ExtendsBit38-from_zeros : (va : ℕ) → va / 2 ^ 38 ≡ 0 → ExtendsBit38 va
ExtendsBit38-from_zeros va zeros i low high =
    let zero_at : (k : ℕ) → 38 ≤ k → bit_at va k ≡ 0 = λ k h. bit_of_top va k h ∙ ap (λ n. bit_at n (k - 38)) zeros ∙ bit_at-zero (k - 38) in
    zero_at i (omega arith) ∙ sym (zero_at 38 (omega arith))

pub ExtendsBit38-from_ones : (va : ℕ) → va / 2 ^ 38 ≡ 2 ^ 26 - 1 → ExtendsBit38 va
ExtendsBit38-from_ones va ones i low high =
    let one_at : (k : ℕ) → 38 ≤ k → k < 64 → bit_at va k ≡ 1 = λ k h l. bit_of_top va k h ∙ ap (λ n. bit_at n (k - 38)) ones ∙ bit_at_ones 26 (k - 38) (omega arith) in
    one_at i (omega arith) high ∙ sym (one_at 38 (omega arith) (omega arith))

-- all bits of the top are bit 38
top_bit : (va i : ℕ) → ExtendsBit38 va → i < 26 → bit_at (va / 2 ^ 38) i ≡ bit_at va 38
top_bit va i same h =
    let here : bit_at va (38 + i) ≡ bit_at (va / 2 ^ 38) i = bit_of_top va (38 + i) (omega arith) ∙ ap (bit_at (va / 2 ^ 38)) (omega arith) in
    ⊎_elim
    (λ (later : 0 < i). sym here ∙ same (38 + i) (omega arith) (omega arith))
    (λ (first : i ≤ 0). let zero : i ≡ 0 = omega arith in ap (bit_at (va / 2 ^ 38)) zero ∙ sym (bit_of_top va 38 (omega arith)))
    (cases_lt 0 i)

pub top_from_ExtendsBit38 : (va : ℕ) → va < 2 ^ 64 → ExtendsBit38 va → (va / 2 ^ 38 ≡ 0) ⊎ (va / 2 ^ 38 ≡ 2 ^ 26 - 1)
top_from_ExtendsBit38 va fits same =
    let top : va / 2 ^ 38 < 2 ^ 26 = shr_below va 26 38 fits in
    let bit = bit_at-lt va 38 in
    ⊎_elim
    (λ (zero : bit_at va 38 ≡ 0). inl (same_from_bits_below 26 (va / 2 ^ 38) 0 top (omega arith) (λ i h. top_bit va i same h ∙ zero ∙ sym (bit_at-zero i))))
    (λ (other : bit_at va 38 ≡ 0 → ⊥).
    let one : bit_at va 38 ≡ 1 = omega (arith, bit, other) in
    inr (same_from_bits_below 26 (va / 2 ^ 38) (2 ^ 26 - 1) top (omega arith) (λ i h. top_bit va i same h ∙ one ∙ sym (bit_at_ones 26 i h))))
    (cases_eq (bit_at va 38) 0)
