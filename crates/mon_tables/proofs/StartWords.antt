-- The start words, one after another.
use Rattle.std.proofs.Common.{◌≡◌, List, get_or, subst, ◌<◌, ◌≢◌, ℕ, zero, suc, ◌+◌, ◌*◌, ◌/◌, ◌%◌, ◌≤◌, eqb, ltb, true, false, cond, [], ◌∷◌, ◌++◌, length, map, find, Option, Some, None, ap, sym, ◌∙◌, refl, arith, zero-add, inl, inr}
use Rattle.std.specs.Prelude.{AllPairs}
use Rattle.std.specs.List.{range_with_len}
use Rattle.std.specs.Option.{option_map_or, option_or}
use Rattle.std.proofs.lemmas.Bool.{ne_eqb, cases_Bool, cases_lt, cond-false, eqb-true, eqb-false, lt-ltb}
use Rattle.std.proofs.lemmas.Bool.Decides.{nat_tests}
use Rattle.std.proofs.lemmas.List.Folds.{find-append}
use Rattle.std.proofs.lemmas.List.FromFn.{get_or-map-range_with_len, get_or-range_with_len, length-range_with_len, map-range_with_len_more, length-map-range_with_len}
use Rattle.std.proofs.lemmas.List.Elements.{All-cons, All-map}
use Rattle.std.proofs.lemmas.List.Kept.{AllPairs-cons}
use Rattle.pl_base.specs.ListedWords.{AreWordsOf, listed_word, stands_at}
use Rattle.mon_tables.specs.SpaceWalks.{StartsEmpty}
use Rattle.mon_tables.specs.Tables.{slot_address, start_words}
use Rattle.mon_tables.proofs.HostWalks.{has_slot}
use Rattle.mon_tables.specs.Words.{pointer_word}

pub length-start_words : (n : ℕ) → length (start_words n) ≡ n + 1
length-start_words n = let size = length-map-range_with_len (λ (i : ℕ). let w : ℕ × ℕ × ℕ = (1, 8 * i, pointer_word (2 + i)) in w) 0 n in omega (arith, size)

pub start_words-more : (n : ℕ) → start_words (n + 1) ≡ start_words n ++ (1, 8 * n, pointer_word (2 + n)) ∷ []
start_words-more n = ap (λ ws. (0, 0, pointer_word 1) ∷ ws) (map-range_with_len_more (λ (i : ℕ). let w : ℕ × ℕ × ℕ = (1, 8 * i, pointer_word (2 + i)) in w) 0 n n (zero-add n))

-- ---- the words of the host's tables at the start

at_start : ℕ → ℕ × ℕ × ℕ
at_start i = (1, 8 * i, pointer_word (2 + i))

at_start-more : (n : ℕ) → map at_start (range_with_len 0 (suc n)) ≡ map at_start (range_with_len 0 n) ++ at_start n ∷ []
at_start-more n = let one : suc n ≡ n + 1 = omega arith in ap (λ m. map at_start (range_with_len 0 m)) one ∙ map-range_with_len_more at_start 0 n n (zero-add n)

one_more : (page offset n : ℕ) → find (stands_at page offset) (map at_start (range_with_len 0 (suc n)))
    ≡ option_or (find (stands_at page offset) (map at_start (range_with_len 0 n))) (cond (stands_at page offset (at_start n)) (Some (at_start n)) None)
one_more page offset n = ap (find (stands_at page offset)) (at_start-more n) ∙ find-append (stands_at page offset) (map at_start (range_with_len 0 n)) (at_start n ∷ [])

-- in page 1 the k-th word is that of the k-th last-level table
find_middle : (tables k : ℕ) → find (stands_at 1 (8 * k)) (map at_start (range_with_len 0 tables)) ≡ cond (ltb k tables) (Some (at_start k)) None
unfolding at_start
find_middle zero k = sym (cond-false _ _ _ (let no : ltb k 0 ≡ false = grind (arith, nat_tests) in no))
find_middle (suc n) k = one_more 1 (8 * k) n ∙ (ap (λ o. option_or o (cond (stands_at 1 (8 * k) (at_start n)) (Some (at_start n)) None)) (find_middle n k) ∙ elim (cases_lt k n) [
  | inl before ↦
      let there : ltb k n ≡ true = lt-ltb k n before in
      let still : ltb k (suc n) ≡ true = lt-ltb k (suc n) (omega arith) in
      rw (there, still) refl
  | inr not_before ↦
      let none : ltb k n ≡ false = grind (arith, nat_tests) in
      rw none (last not_before)
])
  where
    last : n ≤ k → cond (stands_at 1 (8 * k) (at_start n)) (Some (at_start n)) None ≡ cond (ltb k (suc n)) (Some (at_start k)) None
    last not_before = elim (cases_Bool (eqb n k)) [
      | inl same ↦
          let is : n ≡ k = eqb-true n k same in
          let here : eqb (8 * n) (8 * k) ≡ true = grind (arith, nat_tests) in
          let below : ltb k (suc n) ≡ true = lt-ltb k (suc n) (omega arith) in
          rw (here, below) (ap (λ i. Some (at_start i)) is)
      | inr other ↦
          let apart : n ≢ k = eqb-false n k other in
          let no : eqb (8 * n) (8 * k) ≡ false = grind (arith, nat_tests) in
          let past : ltb k (suc n) ≡ false = grind (arith, nat_tests) in
          rw (no, past) refl
    ]

-- none of them stands in another page
find_elsewhere : (tables page offset : ℕ) → page ≢ 1 → find (stands_at page offset) (map at_start (range_with_len 0 tables)) ≡ None
unfolding at_start
find_elsewhere zero page offset other = refl
find_elsewhere (suc n) page offset other = one_more page offset n ∙ (ap (λ o. option_or o (cond (stands_at page offset (at_start n)) (Some (at_start n)) None)) (find_elsewhere n page offset other) ∙ last)
  where
    last : cond (stands_at page offset (at_start n)) (Some (at_start n)) None ≡ None
    last = let no : eqb 1 page ≡ false = grind (arith, nat_tests) in rw no refl

value_of : Option (ℕ × ℕ × ℕ) → ℕ
value_of o = option_map_or (λ (w : ℕ × ℕ × ℕ). w.2) o 0

pub starts_empty : StartsEmpty
unfolding at_start value_of
starts_empty tables words few start = record {
  root = λ k small. start 0 k (omega arith) small ∙ first k;
  middle = λ k small. start 1 k (omega arith) small ∙ (ap value_of (find_middle tables k) ∙ second k);
  leaves = λ vpn slot is.
      let below : vpn < 512 * tables = (has_slot tables vpn slot is).0 in
      subst (λ (s : ℕ × ℕ). words (slot_address s) ≡ 0) (has_slot tables vpn slot is).1
      (start (2 + vpn / 512) (vpn % 512) (omega arith) (omega arith) ∙ third (2 + vpn / 512) (8 * (vpn % 512)) (omega arith));
  past = λ vpn none. refl;
}
  where
    first : (k : ℕ) → listed_word (start_words tables) 0 (8 * k) ≡ cond (eqb k 0) (pointer_word 1) 0
    first k = elim (cases_Bool (eqb k 0)) [
      | inl none ↦
          let is : k ≡ 0 = eqb-true k 0 none in
          let here : eqb 0 (8 * k) ≡ true = grind (arith, nat_tests) in
          rw (none, here) refl
      | inr some ↦
          let apart : k ≢ 0 = eqb-false k 0 some in
          let no : eqb 0 (8 * k) ≡ false = grind (arith, nat_tests) in
          rw (some, no) (ap value_of (find_elsewhere tables 0 (8 * k) (λ p. let same : 0 ≡ 1 = p in omega arith)))
    ]

    second : (k : ℕ) → value_of (cond (ltb k tables) (Some (at_start k)) None) ≡ cond (ltb k tables) (pointer_word (2 + k)) 0
    second k = elim (ltb k tables) as (λ b. value_of (cond b (Some (at_start k)) None) ≡ cond b (pointer_word (2 + k)) 0) [ true ↦ refl | false ↦ refl ]

    third : (page offset : ℕ) → 2 ≤ page → listed_word (start_words tables) page offset ≡ 0
    third page offset past =
        let no : eqb 0 page ≡ false = grind (arith, nat_tests) in
        rw no (ap value_of (find_elsewhere tables page offset (λ p. let same : page ≡ 1 = p in omega arith)))

-- ---- they stand in the first two pages, no two at one place

abbrev Word : Type 0
Word = ℕ × ℕ × ℕ

module _ (tables : ℕ) (few : tables ≤ 32) where
  abbrev numbers : List ℕ
  numbers = range_with_len 0 tables

  abbrev middle : List Word
  middle = map at_start numbers

  small : (k : ℕ) → k < length numbers → (e : ℕ) → get_or numbers k e < 32
  small k h e = let below = get_or-range_with_len 0 tables k e (omega (arith, length-range_with_len 0 tables)) in omega (arith, length-range_with_len 0 tables)

  apart : AllPairs (λ (v : Word) (w : Word). stands_at w.0 w.1 v ≡ false) middle
  unfolding at_start
  apart i j d before below =
      let size : length middle ≡ tables = length-map-range_with_len at_start 0 tables in
      let at = λ (k : ℕ) (h : k < tables). get_or-map-range_with_len at_start 0 tables k k d h (omega arith) in
      let ne : 8 * i ≢ 8 * j = omega arith in
      let is : stands_at (at_start j).0 (at_start j).1 (at_start i) ≡ false = ne_eqb (8 * i) (8 * j) ne in
      subst (λ (v : Word). stands_at (get_or middle j d).0 (get_or middle j d).1 v ≡ false) (sym (at i (omega arith))) (subst (λ (w : Word). stands_at w.0 w.1 (at_start i) ≡ false) (sym (at j (omega arith))) is)

  pub start_words-AreWordsOf : AreWordsOf 2 (start_words tables)
  unfolding at_start
  start_words-AreWordsOf =
      let first : Word = (0, 0, pointer_word 1) in
      record {
        inside = All-cons (λ (w : Word). w.0 < 2) first middle (omega arith) (All-map (λ (w : Word). w.0 < 2) at_start numbers (λ k e h. omega arith));
        offsets = All-cons (λ (w : Word). w.1 < 4096) first middle (omega arith) (All-map (λ (w : Word). w.1 < 4096) at_start numbers (λ k e h. let below = small k h e in omega arith));
        aligned = All-cons (λ (w : Word). w.1 % 8 ≡ 0) first middle refl (All-map (λ (w : Word). w.1 % 8 ≡ 0) at_start numbers (λ k e h. omega arith));
        apart = AllPairs-cons (λ (v : Word) (w : Word). stands_at w.0 w.1 v ≡ false) first middle (All-map (λ (w : Word). stands_at w.0 w.1 first ≡ false) at_start numbers (λ k e h. refl)) apart;
      }
