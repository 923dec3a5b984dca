-- What a write leaves of a list of bytes.
use Rattle.std.proofs.Common.{◌≡◌, ℕ, ◌+◌, ◌-◌, ◌≤◌, List, ◌++◌, length, take, drop, arith, ap, ◌∙◌, sym, refl, length-append, length-drop}
use Rattle.std.proofs.Math.Seq.{take-append-add}
use Rattle.std.proofs.lemmas.List.{length-take-le, take_at, drop_at, take-append-le, drop-append-le, drop-drop, drop-take, take-take}
use Rattle.pl_base.specs.Bytes.{bytes_at, with_bytes}

module _ (all : List ℕ) (at : ℕ) (bytes : List ℕ) (fits : at + length bytes ≤ length all) where
  front : length (take at all) ≡ at
  front = length-take-le at all (omega arith)

  -- as many bytes as before
  pub length-with_bytes : length (with_bytes all at bytes) ≡ length all
  length-with_bytes = simp (length-append, length-drop, front) (omega arith)

  -- what was written
  pub bytes_at-with_bytes : bytes_at (with_bytes all at bytes) at (length bytes) ≡ bytes
  bytes_at-with_bytes =
      ap (take (length bytes)) (drop_at (take at all) (bytes ++ drop (at + length bytes) all) at front)
      ∙ take_at bytes (drop (at + length bytes) all) (length bytes) refl

  -- what stands before it
  pub bytes_at-with_bytes_before : (from n : ℕ) → from + n ≤ at → bytes_at (with_bytes all at bytes) from n ≡ bytes_at all from n
  bytes_at-with_bytes_before from n before =
      let rest : List ℕ = bytes ++ drop (at + length bytes) all in
      let kept : take at all ≡ take (from + (at - from)) all = ap (λ (m : ℕ). take m all) (omega arith) in
      ap (take n) (drop-append-le from (take at all) rest (omega (arith, front)))
      ∙ take-append-le n (drop from (take at all)) rest (simp (length-drop, front) (omega arith))
      ∙ ap (λ (xs : List ℕ). take n (drop from xs)) kept
      ∙ ap (take n) (drop-take from (at - from) all)
      ∙ take-take n (at - from) (drop from all) (omega arith)

  -- what stands after it
  pub bytes_at-with_bytes_after : (from n : ℕ) → at + length bytes ≤ from → bytes_at (with_bytes all at bytes) from n ≡ bytes_at all from n
  bytes_at-with_bytes_after from n after =
      let end : ℕ = at + length bytes in
      let rest : List ℕ = bytes ++ drop end all in
      let far : from ≡ (at + length bytes) + (from - end) = omega arith in
      let past : drop (at + length bytes) (with_bytes all at bytes) ≡ drop end all =
      sym (drop-drop (length bytes) at (with_bytes all at bytes)) ∙ ap (drop (length bytes)) (drop_at (take at all) rest at front) ∙ drop_at bytes (drop end all) (length bytes) refl in
      ap (take n) (ap (λ (k : ℕ). drop k (with_bytes all at bytes)) far
      ∙ sym (drop-drop (from - end) end (with_bytes all at bytes)) ∙ ap (drop (from - end)) past ∙ drop-drop (from - end) end all ∙ ap (λ (k : ℕ). drop k all) (sym far))

-- a part of what is written inside it
pub bytes_at-with_bytes_inside : (all : List ℕ) (from n at : ℕ) (bytes : List ℕ) → from + n ≤ length all → at + length bytes ≤ n
    → bytes_at (with_bytes all (from + at) bytes) from n ≡ with_bytes (bytes_at all from n) at bytes
bytes_at-with_bytes_inside all from n at bytes fits inside =
    let far : List ℕ = drop from all in
    let end : ℕ = at + length bytes in
    let front : length (take at far) ≡ at = length-take-le at far (omega (arith, length-drop from all)) in
    let begins : drop from (take (from + at) all) ≡ take at far = drop-take from at all in
    let past : drop (from + at + length bytes) all ≡ drop end far = let e : from + at + length bytes ≡ from + end = omega arith in ap (λ (k : ℕ). drop k all) e ∙ sym (drop-drop end from all) in
    let whole : drop from (with_bytes all (from + at) bytes) ≡ take at far ++ (bytes ++ drop end far) =
    drop-append-le from (take (from + at) all) (bytes ++ drop (from + at + length bytes) all) (omega (arith, length-take-le (from + at) all (omega arith)))
    ∙ ap (λ (r : List ℕ). r ++ (bytes ++ drop (from + at + length bytes) all)) begins ∙ ap (λ (r : List ℕ). take at far ++ (bytes ++ r)) past in
    let rest : ℕ = n - end in
    let first : n ≡ length (take at far) + (length bytes + rest) = omega (arith, front) in
    let cut : take n (take at far ++ (bytes ++ drop end far)) ≡ take at far ++ (bytes ++ take rest (drop end far)) =
    ap (λ (k : ℕ). take k (take at far ++ (bytes ++ drop end far))) first ∙ take-append-add (take at far) (bytes ++ drop end far) (length bytes + rest)
    ∙ ap (λ (r : List ℕ). take at far ++ r) (take-append-add bytes (drop end far) rest) in
    let size : n ≡ end + rest = omega arith in
    let kept : take rest (drop end far) ≡ drop end (take n far) = sym (ap (λ (k : ℕ). drop end (take k far)) size ∙ drop-take end rest far) in
    ap (take n) whole ∙ cut ∙ ap (λ (r : List ℕ). take at far ++ (bytes ++ r)) kept ∙ ap (λ (r : List ℕ). r ++ (bytes ++ drop end (take n far))) (sym (take-take at n far (omega arith)))

-- a part of a part
pub bytes_at-bytes_at : (all : List ℕ) (from n at m : ℕ) → at + m ≤ n → bytes_at (bytes_at all from n) at m ≡ bytes_at all (from + at) m
bytes_at-bytes_at all from n at m inside =
    let split : n ≡ at + (n - at) = omega arith in
    ap (λ (k : ℕ). take m (drop at (take k (drop from all)))) split ∙ ap (take m) (drop-take at (n - at) (drop from all))
    ∙ take-take m (n - at) (drop at (drop from all)) (omega arith) ∙ ap (take m) (drop-drop at from all)
