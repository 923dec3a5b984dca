-- What a write of the attacker does to the host's pages, byte by byte.
use Rattle.std.proofs.Common.{◌≡◌, ℕ, suc, ◌+◌, ◌-◌, ◌*◌, ◌<◌, ◌≤◌, ltb, List, [], ◌∷◌, ◌++◌, length, take, drop, slice_get, unwrap_or, refl, sym, ap, ◌∙◌, arith, inl, inr, length-drop, length-append, min}
use Rattle.std.proofs.lemmas.Bool.{cases_Bool}
use Rattle.std.proofs.lemmas.Bool.Decides.{nat_tests}
use Rattle.std.proofs.lemmas.List.{length-take-le, length-take}
use Rattle.pl_base.specs.Bytes.{with_bytes}
use Rattle.mem_geom.specs.Parts.{page_bytes}
use Rattle.mem_geom.proofs.Parts.{length-with_bytes}
use Rattle.world_attack.proofs.WriteLemmas.{byte_before, byte_beyond, byte_inside, slice_get-append_left, slice_get-drop, slice_get-take}

-- lists with the same elements
pub same_elements : (xs ys : List ℕ) → length xs ≡ length ys → ((i : ℕ) → i < length xs → slice_get xs i ≡ slice_get ys i) → xs ≡ ys
same_elements [] [] size each = refl
same_elements [] (y ∷ ys) size each = absurd (let h : 0 ≡ suc (length ys) = size in omega arith)
same_elements (x ∷ xs) [] size each = absurd (let h : suc (length xs) ≡ 0 = size in omega arith)
same_elements (x ∷ xs) (y ∷ ys) size each =
    let head : x ≡ y = ap (λ o. unwrap_or o x) (each 0 (omega arith)) in
    let tail : xs ≡ ys = same_elements xs ys (let h : suc (length xs) ≡ suc (length ys) = size in omega arith) (λ i few. each (suc i) (omega arith)) in
    λ i. head i ∷ tail i

-- a byte of a page is one of off-chip memory
pub byte_of_page : (memory : List ℕ) (page i : ℕ) → i < 4096 → slice_get (page_bytes memory page) i ≡ slice_get memory (4096 * page + i)
byte_of_page memory page i few = slice_get-take (drop (4096 * page) memory) 4096 i few ∙ slice_get-drop memory (4096 * page) i (4096 * page + i) (omega arith)

pub page_size : (memory : List ℕ) (page : ℕ) → 4096 * page + 4096 ≤ length memory → length (page_bytes memory page) ≡ 4096
page_size memory page inside = length-take-le 4096 (drop (4096 * page) memory) (let n : length (drop (4096 * page) memory) ≡ length memory - 4096 * page = length-drop (4096 * page) memory in omega arith)

-- an element of a list in which a piece is replaced that ends within it
module _ (all piece : List ℕ) (start : ℕ) (fits : length piece ≤ length all - start) where
  replaced_size : length (with_bytes all start piece) ≡ length all
  replaced_size =
      let whole : length (with_bytes all start piece) ≡ length (take start all) + (length piece + length (drop (start + length piece) all))
      = length-append (take start all) (piece ++ drop (start + length piece) all) ∙ ap (λ n. length (take start all) + n) (length-append piece (drop (start + length piece) all)) in
      let front : length (take start all) ≡ min start (length all) = length-take start all in
      let back : length (drop (start + length piece) all) ≡ length all - (start + length piece) = length-drop (start + length piece) all in
      omega arith

  replaced_before : (i : ℕ) → i < start → i < length all → slice_get (with_bytes all start piece) i ≡ slice_get all i
  replaced_before i before within =
      slice_get-append_left (take start all) (piece ++ drop (start + length piece) all) i (let front : length (take start all) ≡ min start (length all) = length-take start all in omega arith)
      ∙ slice_get-take all start i before

  replaced_inside : (i : ℕ) → start ≤ i → i < start + length piece → slice_get (with_bytes all start piece) i ≡ slice_get piece (i - start)
  replaced_inside i from to =
      ap (slice_get (with_bytes all start piece)) (let h : i ≡ start + (i - start) = omega arith in h)
      ∙ byte_inside all start piece (omega arith) (i - start) (omega arith)

  replaced_beyond : (i : ℕ) → start + length piece ≤ i → i < length all → slice_get (with_bytes all start piece) i ≡ slice_get all i
  replaced_beyond i beyond within = byte_beyond all start piece (omega arith) i beyond

-- a page, after bytes were written off chip
module _ (memory bytes : List ℕ) (at page : ℕ) (fits : at + length bytes ≤ length memory) (inside : 4096 * page + 4096 ≤ length memory) where
  abbrev start : ℕ
  start = at - 4096 * page

  abbrev piece : List ℕ
  piece = take (4096 - start) (drop (4096 * page - at) bytes)

  abbrev old : List ℕ
  old = page_bytes memory page

  old_size : length old ≡ 4096
  old_size = page_size memory page inside

  new_size : length (page_bytes (with_bytes memory at bytes) page) ≡ 4096
  new_size = page_size (with_bytes memory at bytes) page (let n : length (with_bytes memory at bytes) ≡ length memory = length-with_bytes memory at bytes fits in omega arith)

  piece_size : length piece ≡ min (4096 - start) (length bytes - (4096 * page - at))
  piece_size = length-take (4096 - start) (drop (4096 * page - at) bytes) ∙ ap (min (4096 - start)) (length-drop (4096 * page - at) bytes)

  piece_fits : length piece ≤ length old - start
  piece_fits = let p : length piece ≡ min (4096 - start) (length bytes - (4096 * page - at)) = piece_size in let o : length old ≡ 4096 = old_size in omega arith

  each_byte : (i : ℕ) → i < 4096 → slice_get (with_bytes memory at bytes) (4096 * page + i) ≡ slice_get (with_bytes old start piece) i
  each_byte i few =
      let p : length piece ≡ min (4096 - start) (length bytes - (4096 * page - at)) = piece_size in
      let o : length old ≡ 4096 = old_size in
      elim (cases_Bool (ltb (4096 * page + i) at)) [
        | inl before ↦
            let b : 4096 * page + i < at = grind (arith, nat_tests) in
            byte_before memory at bytes fits (4096 * page + i) b ∙ sym (byte_of_page memory page i few)
            ∙ sym (replaced_before old piece start piece_fits i (omega arith) (omega arith))
        | inr from ↦
            let a : at ≤ 4096 * page + i = grind (arith, nat_tests) in
            elim (cases_Bool (ltb (4096 * page + i) (at + length bytes))) [
              | inl within ↦
                  let w : 4096 * page + i < at + length bytes = grind (arith, nat_tests) in
                  ap (slice_get (with_bytes memory at bytes)) (let h : 4096 * page + i ≡ at + (4096 * page + i - at) = omega arith in h)
                  ∙ byte_inside memory at bytes fits (4096 * page + i - at) (omega arith)
                  ∙ sym (slice_get-drop bytes (4096 * page - at) (i - start) (4096 * page + i - at) (omega arith))
                  ∙ sym (slice_get-take (drop (4096 * page - at) bytes) (4096 - start) (i - start) (omega arith))
                  ∙ sym (replaced_inside old piece start piece_fits i (omega arith) (omega arith))
              | inr past ↦
                  let q : at + length bytes ≤ 4096 * page + i = grind (arith, nat_tests) in
                  byte_beyond memory at bytes fits (4096 * page + i) q ∙ sym (byte_of_page memory page i few)
                  ∙ sym (replaced_beyond old piece start piece_fits i (omega arith) (omega arith))
            ]
      ]

  pub page_overwritten : page_bytes (with_bytes memory at bytes) page ≡ with_bytes old start piece
  page_overwritten = same_elements _ _ (new_size ∙ sym (replaced_size old piece start piece_fits ∙ old_size))
      (λ i few. let n : length (page_bytes (with_bytes memory at bytes) page) ≡ 4096 = new_size in
      byte_of_page (with_bytes memory at bytes) page i (omega arith) ∙ each_byte i (omega arith))
