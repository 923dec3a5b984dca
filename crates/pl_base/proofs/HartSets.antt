-- The first harts as a set.
use Rattle.std.proofs.Common.{◌≡◌, ℕ, ◌*◌, ◌%◌, ◌-◌, ◌^◌, ◌≤◌, ◌==◌, ltb, ap, sym, ◌∙◌, refl, arith, subst, inl, inr}
use Rattle.std.proofs.lemmas.Bool.{cases_Bool, ltb-true, ltb-false}
use Rattle.std.proofs.lemmas.Grind.{one_shifted}
use Rattle.std.proofs.lemmas.Nat.Bits.{bit_at_ones, bit_at_ones_above}
use Rattle.pl_base.specs.HartSet.{has_hart}

pub has_hart-below : (harts k : ℕ) → harts ≤ 8 → has_hart (record { 0 = 1 * 2 ^ harts % 65536 - 1 }) k ≡ ltb k harts
has_hart-below harts k few =
    let whole : 1 * 2 ^ harts % 65536 ≡ 2 ^ harts = (one_shifted harts 65535 refl (omega arith)).0 in
    subst (λ n. has_hart (record { 0 = n - 1 }) k ≡ ltb k harts) (sym whole) (elim (cases_Bool (ltb k harts)) [
      | inl inside ↦ ap (λ bit. bit == 1) (bit_at_ones harts k (ltb-true k harts inside)) ∙ sym inside
      | inr past ↦ ap (λ bit. bit == 1) (bit_at_ones_above harts k (ltb-false k harts past)) ∙ sym past
    ])
