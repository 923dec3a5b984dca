-- Where no acknowledgement is due, no fence waits for a hart.
use Rattle.std.proofs.Common.{◌≡◌, ℕ, zero, suc, ◌/◌, ◌<◌, ◌≤◌, eqb, ltb, Bool, false, cond, List, length, position, slice_get, unwrap_or, Option, Some, None, refl, sym, ap, ◌∙◌, arith, inl, inr}
use Rattle.std.specs.Int.{bit_at}
use Rattle.std.specs.List.{position_or_len}
use Rattle.std.proofs.lemmas.Bool.{cases_Bool, cases_lt}
use Rattle.std.proofs.lemmas.Bool.Decides.{nat_tests}
use Rattle.std.proofs.lemmas.List.Sums.{fails_before_first}
use Rattle.std.proofs.lemmas.Nat.Bits.{bit_at-lt, bit_at-suc, bit_at_lowest}
use Rattle.std.proofs.lemmas.Option.{slice_get_past, unwrap_or-slice_get}
use Rattle.mon_fence.specs.declared.fences.Fence.{Fence}
use Rattle.mon_fence.specs.Fences.{AreFences, fence_of, lacking, needs}
use Rattle.world_machine.specs.Acknowledging.{owed}

-- where no position is found, it would be past the end, and the test fails on all elements
pub none_below : (p n : ℕ) → cond (ltb p n) (Some p) None ≡ None → n ≤ p
none_below p n none = grind (arith, nat_tests)

none_passes : {A : Type 0} (p : A → Bool) (xs : List A) (at : ℕ) (d : A) → position p xs ≡ None → p d ≡ false → p (unwrap_or (slice_get xs at) d) ≡ false
none_passes p xs at d none fails = elim (cases_lt at (length xs)) [
  | inl below ↦
      let past : length xs ≤ position_or_len p xs = none_below (position_or_len p xs) (length xs) none in
      let b : at < length xs = below in
      ap p (unwrap_or-slice_get xs at d) ∙ fails_before_first p xs at d (omega arith)
  | inr past ↦ ap (λ o. p (unwrap_or o d)) (slice_get_past xs at past) ∙ fails
]

-- a number without a bit is 0
no_bits : (most n : ℕ) → n ≤ most → ((i : ℕ) → bit_at n i ≡ 0) → n ≡ 0
no_bits zero n few clear = omega arith
no_bits (suc most) n few clear =
    let half : n / 2 ≡ 0 = no_bits most (n / 2) (omega arith) (λ i. sym (bit_at-suc n i) ∙ clear (suc i)) in
    omega (arith, half, bit_at_lowest n, clear zero)

module _ (fences : List (Option Fence)) (are : AreFences fences) (nobody : (hart : ℕ) → hart < length fences → owed fences hart ≡ None) where
  no_need : (requester hart : ℕ) → needs (fence_of fences requester) hart ≡ false
  no_need requester hart = elim (cases_Bool (needs (fence_of fences requester) hart)) [
    | inr not_needed ↦ not_needed
    | inl needed ↦ none_passes (λ fence. needs fence hart) fences requester None (nobody hart (are.others requester hart needed).0) refl
  ]

  no_harts : (fence : Option Fence) → ((hart : ℕ) → needs fence hart ≡ false) → lacking fence ≡ None
  no_harts None free = refl
  no_harts (Some fence) free =
      let clear : (i : ℕ) → bit_at fence.need.0 i ≡ 0
      = λ i. (let few : bit_at fence.need.0 i < 2 = bit_at-lt fence.need.0 i in let test : eqb (bit_at fence.need.0 i) 1 ≡ false = free i in grind (arith, nat_tests)) in
      let zero_set : fence.need.0 ≡ 0 = no_bits fence.need.0 fence.need.0 (omega arith) clear in
      ap (λ n. cond (eqb n 0) None (Some fence.need)) zero_set

  pub nobody_lacking : (requester : ℕ) → lacking (fence_of fences requester) ≡ None
  nobody_lacking requester = no_harts (fence_of fences requester) (no_need requester)
