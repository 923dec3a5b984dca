-- A write at a place changes that place alone.
use Rattle.std.proofs.Common.{◌≡◌, ℕ, ◌+◌, ◌-◌, ◌<◌, ◌≤◌, ⊎_elim, true, false, min, max, List, [], ◌∷◌, ◌++◌, length, take, drop, arith, lit<, ap, ◌∙◌, sym}
use Rattle.std.proofs.lemmas.Bool.{cases_lt, cases_Bool, ltb-false}
use Rattle.std.proofs.lemmas.List.{take-append-drop}
use Rattle.pl_base.specs.declared.place.Place.{Place}
use Rattle.pl_base.specs.declared.place.Place.TheVariants.{Block, Node, RootNode}
use Rattle.pl_base.specs.Bytes.{bytes_at, with_bytes}
use Rattle.mem_geom.specs.Layout.{Exists, memory_end, memory_size, place_start, place_end, place_length, place_bytes}
use Rattle.mem_geom.specs.Laws.{AreApart, WritesChangeOnePlace, WritesChangeRange}
use Rattle.mem_geom.specs.Ranges.{overlaps_place}
use Rattle.mem_geom.proofs.Parts.{length-with_bytes, bytes_at-with_bytes, bytes_at-with_bytes_before, bytes_at-with_bytes_after}
use Rattle.mem_geom.proofs.Places.{one_or_apart, stands_inside}

pub one_place_changes : WritesChangeOnePlace
one_place_changes zones place memory bytes exists sized size =
    let at : ℕ = place_start zones place - 0x80000000 in
    let inside = stands_inside zones place exists in
    let fits : at + length bytes ≤ length memory = omega (arith, inside.0, inside.1) in
    record {
      length = length-with_bytes memory at bytes fits;
      changed = ap (bytes_at (with_bytes memory at bytes) at) (sym size) ∙ bytes_at-with_bytes memory at bytes fits;
      others = λ other there differs.
          let here = stands_inside zones other there in
          ⊎_elim
          (λ (same : place ≡ other). absurd (differs (sym same)))
          (λ (apart : AreApart zones place other). ⊎_elim
          (λ (below : place_end zones place ≤ place_start zones other). bytes_at-with_bytes_after memory at bytes fits (place_start zones other - 0x80000000) (place_length other) (omega (arith, inside.0, here.0)))
          (λ (above : place_end zones other ≤ place_start zones place). bytes_at-with_bytes_before memory at bytes fits (place_start zones other - 0x80000000) (place_length other) (omega (arith, inside.0, here.0)))
          apart)
          (one_or_apart zones place other exists there);
    }

-- nothing written changes nothing
pub with_bytes-none : (all : List ℕ) (at : ℕ) (bytes : List ℕ) → length bytes ≡ 0 → with_bytes all at bytes ≡ all
with_bytes-none all at [] none = let same : at + 0 ≡ at = omega arith in ap (λ (k : ℕ). take at all ++ drop k all) same ∙ take-append-drop at all
with_bytes-none all at (byte ∷ bytes) none = absurd (omega arith)

-- a place has bytes
has_bytes : (place : Place) → 0 < place_length place
has_bytes (Block page block) = lit< tt
has_bytes (Node level zone index) = lit< tt
has_bytes (RootNode level index) = lit< tt

module _ (zones address : ℕ) (memory bytes : List ℕ) (sized : length memory ≡ memory_size zones) (from : 0x80000000 ≤ address) (to : address + length bytes ≤ memory_end zones) where
  fits_memory : address - 0x80000000 + length bytes ≤ length memory
  fits_memory = omega arith

  place_stays : (place : Place) → Exists zones place → overlaps_place zones address (length bytes) place ≡ false
      → place_bytes zones (with_bytes memory (address - 0x80000000) bytes) place ≡ place_bytes zones memory place
  place_stays place exists apart =
      let at : ℕ = address - 0x80000000 in
      let start : ℕ = place_start zones place in
      let inside = stands_inside zones place exists in
      let some = has_bytes place in
      let test : min (address + length bytes) (place_end zones place) ≤ max address start = ltb-false (max address start) (min (address + length bytes) (place_end zones place)) apart in
      ⊎_elim
      (λ (past : address + length bytes < start + 1). bytes_at-with_bytes_after memory at bytes fits_memory (start - 0x80000000) (place_length place) (omega (arith, inside.0)))
      (λ (not_past : start + 1 ≤ address + length bytes). ⊎_elim
      (λ (above : place_end zones place < address + 1). bytes_at-with_bytes_before memory at bytes fits_memory (start - 0x80000000) (place_length place) (omega (arith, inside.0)))
      (λ (not_above : address + 1 ≤ place_end zones place). let none : length bytes ≡ 0 = omega (arith, inside.0) in ap (λ (all : List ℕ). place_bytes zones all place) (with_bytes-none memory at bytes none))
      (cases_lt (place_end zones place) (address + 1)))
      (cases_lt (address + length bytes) (start + 1))

pub range_changes : WritesChangeRange
range_changes zones address memory bytes sized from to =
    let at : ℕ = address - 0x80000000 in
    let fits : at + length bytes ≤ length memory = fits_memory zones address memory bytes sized from to in
    let stays = place_stays zones address memory bytes sized from to in
    record {
      size = length-with_bytes memory at bytes fits;
      changed = bytes_at-with_bytes memory at bytes fits;
      before = bytes_at-with_bytes_before memory at bytes fits;
      after = bytes_at-with_bytes_after memory at bytes fits;
      others = stays;
      met = λ place exists differs.
          ⊎_elim
          (λ (meets : overlaps_place zones address (length bytes) place ≡ true). meets)
          (λ (apart : overlaps_place zones address (length bytes) place ≡ false). absurd (differs (stays place exists apart)))
          (cases_Bool (overlaps_place zones address (length bytes) place));
    }
