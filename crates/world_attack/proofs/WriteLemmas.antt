-- What a write and a keeping leave, byte by byte.
use Rattle.std.proofs.Common.{◌≡◌, ℕ, ◌+◌, ◌-◌, ◌<◌, ◌≤◌, false, not, List, [], ◌∷◌, ◌++◌, length, take, drop, slice_get, suc, zero, refl, sym, ap, ◌∙◌, arith, length-drop}
use Rattle.std.proofs.lemmas.List.{length-take-le, take-append-drop, take_all, drop_at, drop-drop}
use Rattle.std.proofs.lemmas.Slice.Eq.{bytes_eq-Decides}
use Rattle.std.specs.Str.{bytes_eq}
use Rattle.pl_base.specs.Bytes.{bytes_at, with_bytes}
use Rattle.mem_geom.proofs.Parts.{length-with_bytes, bytes_at-with_bytes}
use Rattle.world_attack.specs.Laws.{WritesLeave, KeepsLeave}

-- ---- an element of a list by its place

pub slice_get-append_left : (xs ys : List ℕ) (i : ℕ) → i < length xs → slice_get (xs ++ ys) i ≡ slice_get xs i
slice_get-append_left [] ys i inside = absurd (omega arith)
slice_get-append_left (x ∷ xs) ys zero inside = refl
slice_get-append_left (x ∷ xs) ys (suc i) inside = slice_get-append_left xs ys i (omega arith)

pub slice_get-append_right : (xs ys : List ℕ) (n i : ℕ) → n ≡ length xs + i → slice_get (xs ++ ys) n ≡ slice_get ys i
slice_get-append_right [] ys n i sum = let same : n ≡ i = omega arith in ap (slice_get ys) same
slice_get-append_right (x ∷ xs) ys zero i sum = absurd (omega arith)
slice_get-append_right (x ∷ xs) ys (suc n) i sum = slice_get-append_right xs ys n i (omega arith)

pub slice_get-take : (xs : List ℕ) (n i : ℕ) → i < n → slice_get (take n xs) i ≡ slice_get xs i
slice_get-take xs zero i inside = absurd (omega arith)
slice_get-take [] (suc n) i inside = refl
slice_get-take (x ∷ xs) (suc n) zero inside = refl
slice_get-take (x ∷ xs) (suc n) (suc i) inside = slice_get-take xs n i (omega arith)

pub slice_get-drop : (xs : List ℕ) (n i k : ℕ) → k ≡ n + i → slice_get (drop n xs) i ≡ slice_get xs k
slice_get-drop xs zero i k sum = let same : i ≡ k = omega arith in ap (slice_get xs) same
slice_get-drop [] (suc n) i k sum = refl
slice_get-drop (x ∷ xs) (suc n) i zero sum = absurd (omega arith)
slice_get-drop (x ∷ xs) (suc n) i (suc k) sum = slice_get-drop xs n i k (omega arith)

module _ (all : List ℕ) (at : ℕ) (bytes : List ℕ) (fits : at + length bytes ≤ length all) where
  front : length (take at all) ≡ at
  front = length-take-le at all (omega arith)

  pub byte_before : (i : ℕ) → i < at → slice_get (with_bytes all at bytes) i ≡ slice_get all i
  byte_before i before =
      slice_get-append_left (take at all) (bytes ++ drop (at + length bytes) all) i (omega (arith, front))
      ∙ slice_get-take all at i before

  pub byte_inside : (i : ℕ) → i < length bytes → slice_get (with_bytes all at bytes) (at + i) ≡ slice_get bytes i
  byte_inside i inside =
      slice_get-append_right (take at all) (bytes ++ drop (at + length bytes) all) (at + i) i (omega (arith, front))
      ∙ slice_get-append_left bytes (drop (at + length bytes) all) i inside

  pub byte_beyond : (i : ℕ) → at + length bytes ≤ i → slice_get (with_bytes all at bytes) i ≡ slice_get all i
  byte_beyond i beyond =
      slice_get-append_right (take at all) (bytes ++ drop (at + length bytes) all) i (i - at) (omega (arith, front))
      ∙ slice_get-append_right bytes (drop (at + length bytes) all) (i - at) (i - (at + length bytes)) (omega arith)
      ∙ slice_get-drop all (at + length bytes) (i - (at + length bytes)) i (omega arith)

-- bytes that stand there already change nothing
with_bytes-same : (all : List ℕ) (at : ℕ) (bytes : List ℕ) → bytes_at all at (length bytes) ≡ bytes → with_bytes all at bytes ≡ all
with_bytes-same all at bytes same =
    ap (λ (b : List ℕ). take at all ++ (b ++ drop (at + length bytes) all)) (sym same)
    ∙ ap (λ (rest : List ℕ). take at all ++ (take (length bytes) (drop at all) ++ rest)) (sym (drop-drop (length bytes) at all))
    ∙ ap (λ (rest : List ℕ). take at all ++ rest) (take-append-drop (length bytes) (drop at all))
    ∙ take-append-drop at all

pub same_bytes : (xs ys : List ℕ) → not (bytes_eq xs ys) ≡ false → xs ≡ ys
same_bytes xs ys equal = (bytes_eq-Decides xs ys).0 (grind arith)

-- the bytes that were added last
pub added-last : (bytes more : List ℕ) (count : ℕ) → length more ≡ count → bytes_at (bytes ++ more) (length bytes) count ≡ more
added-last bytes more count size = ap (take count) (drop_at bytes more (length bytes) refl) ∙ take_all count more (omega arith)

pub writes_leave : WritesLeave
writes_leave setup at x what off =
    let start : ℕ = what.address - 0x80000000 in
    let fits : start + length what.bytes ≤ length x.off_chip = omega (arith, off.from, off.to) in
    record {
      named = λ changed. added-last x.history.bytes what.bytes (length what.bytes) refl;
      size = length-with_bytes x.off_chip start what.bytes fits;
      written = bytes_at-with_bytes x.off_chip start what.bytes fits;
      before = byte_before x.off_chip start what.bytes fits;
      inside = byte_inside x.off_chip start what.bytes fits;
      beyond = byte_beyond x.off_chip start what.bytes fits;
      same = λ unchanged. with_bytes-same x.off_chip start what.bytes (same_bytes (bytes_at x.off_chip start (length what.bytes)) what.bytes unchanged);
    }

pub keeps_leave : KeepsLeave
keeps_leave setup at x address count off =
    let start : ℕ = address - 0x80000000 in
    let size : length (bytes_at x.off_chip start count) ≡ count = length-take-le count (drop start x.off_chip) (omega (arith, off.from, off.to, length-drop start x.off_chip)) in
    record {
      size = size;
      named = added-last x.history.bytes (bytes_at x.off_chip start count) count size;
    }
