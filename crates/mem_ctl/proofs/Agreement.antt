-- Two memories in which the same bytes are written at the same places: where they agreed, they still do.
use Rattle.std.proofs.Common.{◌≡◌, ◌≢◌, ℕ, zero, suc, ◌+◌, ◌-◌, ◌<◌, ◌≤◌, ⊎_elim, Some, List, [], ◌∷◌, ◌++◌, length, take, drop, get_or, refl, sym, ap, ◌∙◌, arith, length-drop}
use Rattle.std.specs.Prelude.{slice_get}
use mathlib.Core.Logic.{inl, inr, ◌⊎◌}
use Rattle.std.proofs.lemmas.Bool.{cases_eq, cases_lt}
use Rattle.std.proofs.lemmas.List.{get_or-append_right, get_or-drop, get_or-take, get_or_append_left, length-take-le}
use Rattle.std.proofs.lemmas.Option.{slice_get-get_or, slice_get_past}
use Rattle.pl_base.specs.Bytes.{bytes_at, with_bytes}
use Rattle.mem_geom.specs.Layout.{memory_size, place_start}
use Rattle.mem_geom.proofs.Parts.{length-with_bytes}
use Rattle.mem_geom.proofs.Places.{stands_inside}
use Rattle.mem_tree.specs.Changes.{PlaceBytes}
use Rattle.mem_ctl.specs.Writes.{with_place, with_places}
use Rattle.mem_ctl.proofs.WriteLemmas.{AllFit, length-with_place}

-- where two memories agree, two others do
abbrev pub StillAgree : List ℕ → List ℕ → List ℕ → List ℕ → Type 0
StillAgree a b a' b' = (k : ℕ) → slice_get a k ≡ slice_get b k → slice_get a' k ≡ slice_get b' k

pub StillAgree-then : (a b c d e f : List ℕ) → StillAgree a b c d → StillAgree c d e f → StillAgree a b e f
StillAgree-then a b c d e f first second = λ k same. second k (first k same)

-- ---- one byte after a write

module _ (all : List ℕ) (at : ℕ) (bytes : List ℕ) (fits : at + length bytes ≤ length all) where
  front : length (take at all) ≡ at
  front = length-take-le at all (omega arith)

  same_size : length (with_bytes all at bytes) ≡ length all
  same_size = length-with_bytes all at bytes fits

  -- a byte that is written
  pub byte_inside : (k : ℕ) → at ≤ k → k < at + length bytes → slice_get (with_bytes all at bytes) k ≡ Some (get_or bytes (k - at) 0)
  byte_inside k from to =
      slice_get-get_or (with_bytes all at bytes) k 0 (omega (arith, same_size))
      ∙ ap Some (get_or-append_right (take at all) (bytes ++ drop (at + length bytes) all) at k 0 front from ∙ get_or_append_left bytes (drop (at + length bytes) all) 0 (k - at) (omega arith))

  -- one before or behind
  byte_before : (k : ℕ) → k < at → slice_get (with_bytes all at bytes) k ≡ slice_get all k
  byte_before k below =
      slice_get-get_or (with_bytes all at bytes) k 0 (omega (arith, same_size))
      ∙ ap Some (get_or_append_left (take at all) (bytes ++ drop (at + length bytes) all) 0 k (omega (arith, front)) ∙ get_or-take at all k 0 below)
      ∙ sym (slice_get-get_or all k 0 (omega arith))

  byte_behind : (k : ℕ) → at + length bytes ≤ k → k < length all → slice_get (with_bytes all at bytes) k ≡ slice_get all k
  byte_behind k past below =
      let back : at + length bytes + (k - at - length bytes) ≡ k = omega arith in
      slice_get-get_or (with_bytes all at bytes) k 0 (omega (arith, same_size))
      ∙ ap Some (get_or-append_right (take at all) (bytes ++ drop (at + length bytes) all) at k 0 front (omega arith)
      ∙ get_or-append_right bytes (drop (at + length bytes) all) (length bytes) (k - at) 0 refl (omega arith)
      ∙ get_or-drop (at + length bytes) all (k - at - length bytes) 0 ∙ ap (λ (j : ℕ). get_or all j 0) back)
      ∙ sym (slice_get-get_or all k 0 below)

  byte_past : (k : ℕ) → length all ≤ k → slice_get (with_bytes all at bytes) k ≡ slice_get all k
  byte_past k past = slice_get_past (with_bytes all at bytes) k (omega (arith, same_size)) ∙ sym (slice_get_past all k past)

  pub byte_outside : (k : ℕ) → (k < at) ⊎ (at + length bytes ≤ k) → slice_get (with_bytes all at bytes) k ≡ slice_get all k
  byte_outside k out =
      ⊎_elim (byte_before k)
      (λ (past : at + length bytes ≤ k). ⊎_elim (byte_behind k past) (byte_past k) (cases_lt k (length all)))
      out

-- ---- the same bytes in two memories

pub with_bytes-agree : (a b : List ℕ) (at : ℕ) (bytes : List ℕ) → at + length bytes ≤ length a → at + length bytes ≤ length b → StillAgree a b (with_bytes a at bytes) (with_bytes b at bytes)
with_bytes-agree a b at bytes fits fits' k same =
    let outside = λ (out : (k < at) ⊎ (at + length bytes ≤ k)). byte_outside a at bytes fits k out ∙ same ∙ sym (byte_outside b at bytes fits' k out) in
    ⊎_elim
    (λ (before : k < at). outside (inl before))
    (λ (from : at ≤ k). ⊎_elim
    (λ (to : k < at + length bytes). byte_inside a at bytes fits k from to ∙ sym (byte_inside b at bytes fits' k from to))
    (λ (past : at + length bytes ≤ k). outside (inr past))
    (cases_lt k (at + length bytes)))
    (cases_lt k at)

pub with_places-agree : (zones : ℕ) (ws : List PlaceBytes) (a b : List ℕ) → AllFit zones ws → length a ≡ memory_size zones → length b ≡ memory_size zones
    → StillAgree a b (with_places zones a ws) (with_places zones b ws)
with_places-agree zones [] a b fit sized sized' = λ k same. same
with_places-agree zones (w ∷ ws) a b fit sized sized' =
    let inside = stands_inside zones w.place fit.0.0 in
    let at : ℕ = place_start zones w.place - 0x80000000 in
    let ends : at + length w.bytes ≤ memory_size zones = omega (arith, inside.0, inside.1, fit.0.1) in
    let a' : List ℕ = with_place zones a w in
    let b' : List ℕ = with_place zones b w in
    StillAgree-then a b a' b' (with_places zones a' ws) (with_places zones b' ws)
    (with_bytes-agree a b at w.bytes (omega arith) (omega arith))
    (with_places-agree zones ws a' b' fit.1 (length-with_place zones w a fit.0.0 fit.0.1 sized) (length-with_place zones w b fit.0.0 fit.0.1 sized'))

-- ---- lists that differ differ in an element

pub first_difference : (xs ys : List ℕ) → length xs ≡ length ys → xs ≢ ys → (k : ℕ) × (k < length xs) × (slice_get xs k ≢ slice_get ys k)
first_difference [] [] size differ = absurd (differ refl)
first_difference [] (y ∷ ys) size differ = absurd (omega arith)
first_difference (x ∷ xs) [] size differ = absurd (omega arith)
first_difference (x ∷ xs) (y ∷ ys) size differ =
    ⊎_elim
    (λ (here : x ≡ y).
    let rest = first_difference xs ys (omega arith) (λ (same : xs ≡ ys). differ (ap (λ (h : ℕ). h ∷ xs) here ∙ ap (λ (t : List ℕ). y ∷ t) same)) in
    (suc rest.0, omega (arith, rest.1), rest.2))
    (λ (other : x ≢ y). (zero, omega arith, λ (same : Some x ≡ Some y). other (cc)))
    (cases_eq x y)

-- an element of a part
pub slice_get-bytes_at : (all : List ℕ) (from n k : ℕ) → k < n → from + n ≤ length all → slice_get (bytes_at all from n) k ≡ slice_get all (from + k)
slice_get-bytes_at all from n k below fits =
    slice_get-get_or (bytes_at all from n) k 0 (omega (arith, length-take-le n (drop from all) (omega (arith, length-drop from all))))
    ∙ ap Some (get_or-take n (drop from all) k 0 below ∙ get_or-drop from all k 0) ∙ sym (slice_get-get_or all (from + k) 0 (omega arith))
