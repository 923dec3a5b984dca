-- What a copy of the front of a list leaves.
use Rattle.std.proofs.Common.{◌≡◌, ℕ, ◌+◌, ◌-◌, ◌<◌, ◌≤◌, min, List, [], ◌∷◌, ◌++◌, length, take, drop, refl, sym, ap, ◌∙◌, arith, length-append, length-drop}
use Rattle.std.proofs.lemmas.List.{take_all, take_at, length-take-le, take-append-drop, drop-drop}

-- a list without items
none_left : (xs : List ℕ) → length xs ≡ 0 → xs ≡ []
none_left [] e = refl
none_left (x ∷ xs) e = absurd (omega arith)

front_taken : (xs into after : List ℕ) (at n : ℕ) → n ≡ min (length (drop at xs)) (length into) → after ≡ take n (drop at xs) ++ drop n into
    → (drop at xs ≡ take n after ++ drop (at + n) xs) × (n ≡ 0 → 0 < length after → drop (at + n) xs ≡ [])
front_taken xs into after at n count copied =
    let rest = drop at xs in
    let fits : n ≤ length rest = omega arith in
    let taken : take n after ≡ take n rest = ap (take n) copied ∙ take_at (take n rest) (drop n into) n (length-take-le n rest fits) in (
      rw (taken, ← drop-drop n at xs) (sym (take-append-drop n rest)),
      λ none some.
          none_left (drop (at + n) xs) (omega (arith, ap length copied, length-append (take n rest) (drop n into), length-take-le n rest fits, length-drop n into, length-drop at xs, length-drop (at + n) xs)),
    )

-- the same, where what was copied is a range of the bytes to their end
pub front_read : (whole xs into after : List ℕ) (at n : ℕ) → whole ≡ xs → n ≡ min (length (take (length whole - at) (drop at whole))) (length into)
    → after ≡ take n (take (length whole - at) (drop at whole)) ++ drop n into
    → (drop at xs ≡ take n after ++ drop (at + n) xs) × (n ≡ 0 → 0 < length after → drop (at + n) xs ≡ [])
front_read whole xs into after at n same count copied =
    let all : take (length whole - at) (drop at whole) ≡ drop at whole = take_all (length whole - at) (drop at whole) (omega (arith, length-drop at whole)) in
    front_taken xs into after at n (rw (all, same) at count) (rw (all, same) at copied)
