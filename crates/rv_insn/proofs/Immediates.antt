-- Where the bits of an immediate lie in the word.
use Rattle.std.proofs.Common.{◌≡◌, ℕ, ◌+◌, ◌-◌, ◌*◌, ◌<◌, ◌%◌, ◌^◌, w32, of_z, refl, sym, ap, ◌∙◌, arith, inl, inr}
use Rattle.std.proofs.lemmas.Bool.{cases_lt}
use Rattle.rv_insn.specs.Table.{IsEven}
use Rattle.rv_insn.specs.Word.{bits, signed, i_immediate, b_immediate, u_immediate, j_immediate}
use Rattle.rv_insn.proofs.Signed.{unsigned-signed, signed-low, signed-high}

j_parts : (u a b c d : ℕ) → a < 2 → b < 256 → c < 2 → d < 1024 → u % 2 ^ 21 ≡ a * 2 ^ 20 + b * 2 ^ 12 + c * 2 ^ 11 + d * 2 ^ 1
    → bits u 20 20 * 2 ^ 19 + bits u 10 1 * 2 ^ 9 + bits u 11 11 * 2 ^ 8 + bits u 19 12 ≡ a * 2 ^ 19 + d * 2 ^ 9 + c * 2 ^ 8 + b
j_parts u a b c d la lb lc ld e =
    let top : bits u 20 20 ≡ a = omega (arith, e) in
    let low : bits u 10 1 ≡ d = omega (arith, e) in
    let mid : bits u 11 11 ≡ c = omega (arith, e) in
    let rest : bits u 19 12 ≡ b = omega (arith, e) in
    rw (top, low, mid, rest) refl

pub j_bits : (word u : ℕ) → u ≡ of_z w32 (j_immediate word) → bits word 31 12 ≡ bits u 20 20 * 2 ^ 19 + bits u 10 1 * 2 ^ 9 + bits u 11 11 * 2 ^ 8 + bits u 19 12
j_bits word u is =
    let n = bits word 31 31 * 2 ^ 20 + bits word 19 12 * 2 ^ 12 + bits word 20 20 * 2 ^ 11 + bits word 30 21 * 2 ^ 1 in
    let e : u % 2 ^ 21 ≡ n = ap (λ x. x % 2 ^ 21) is ∙ unsigned-signed 21 n (omega arith) (omega arith) (omega arith) in
    let there : bits word 31 12 ≡ bits word 31 31 * 2 ^ 19 + bits word 30 21 * 2 ^ 9 + bits word 20 20 * 2 ^ 8 + bits word 19 12 = omega arith in
    there ∙ sym (j_parts u (bits word 31 31) (bits word 19 12) (bits word 20 20) (bits word 30 21) (omega arith) (omega arith) (omega arith) (omega arith) e)

pub u_bits : (word u : ℕ) → u ≡ of_z w32 (u_immediate word) → bits u 31 12 ≡ bits word 31 12
u_bits word u is =
    let n = bits word 31 12 * 2 ^ 12 in
    let e : u % 2 ^ 32 ≡ n = ap (λ x. x % 2 ^ 32) is ∙ unsigned-signed 32 n (omega arith) (omega arith) (omega arith) in
    omega (arith, e)

pub i_bits : (word u : ℕ) → u ≡ of_z w32 (i_immediate word) → bits word 31 20 ≡ u % 2 ^ 12
i_bits word u is = sym (ap (λ x. x % 2 ^ 12) is ∙ unsigned-signed 12 (bits word 31 20) (omega arith) (omega arith) (omega arith))

-- an even number of so many bits is even as a signed one
signed_even : (width n : ℕ) → 2 ^ width % 2 ≡ 0 → n < 2 ^ width → n % 2 ≡ 0 → IsEven (signed width n)
signed_even width n power fits even = elim (cases_lt n (2 ^ (width - 1))) [
  | inl low ↦ rw (signed-low width n low) even
  | inr high ↦ rw (signed-high width n high fits) (omega arith)
]

pub b_even : (word : ℕ) → IsEven (b_immediate word)
b_even word = signed_even 13 (bits word 31 31 * 2 ^ 12 + bits word 7 7 * 2 ^ 11 + bits word 30 25 * 2 ^ 5 + bits word 11 8 * 2 ^ 1) refl (omega arith) (omega arith)

pub j_even : (word : ℕ) → IsEven (j_immediate word)
j_even word = signed_even 21 (bits word 31 31 * 2 ^ 20 + bits word 19 12 * 2 ^ 12 + bits word 20 20 * 2 ^ 11 + bits word 30 21 * 2 ^ 1) refl (omega arith) (omega arith)
