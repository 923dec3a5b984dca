-- Lists that are joined or written one after another.
use Rattle.std.proofs.Common.{◌≡◌, ℕ, zero, suc, ◌+◌, ◌*◌, ◌<◌, ◌≤◌, List, [], ◌∷◌, ◌++◌, length, map, take, drop, refl, sym, ap, ◌∙◌, arith, length-append, length-drop}
use Rattle.std.proofs.Math.Seq.{drop-append-add, drop-cons, take-add, take-append-add}
use Rattle.std.proofs.lemmas.List.{append-nil, append_assoc, drop-append-le, drop-drop, drop_all, length-take-le, map_push, same_lists, take-append-le, take_at}
use Rattle.std.proofs.lemmas.List.FromFn.{get_or-map-range_with_len, length-map-range_with_len}
use Rattle.std.specs.List.{concat, range_with_len}
use Rattle.pl_base.specs.Bytes.{bytes_at, with_bytes}
use Rattle.pl_digest.specs.Trees.{piece, pieces}
use Rattle.pl_digest.proofs.PieceLemmas.{AllOfLength, concat-push, drop-concat, pieces_more, pieces_none}
use Rattle.mem_tree.specs.Trees.{nth}

-- ---- parts of joined lists

pub bytes_at-left : (xs ys : List ℕ) (at m : ℕ) → at + m ≤ length xs → bytes_at (xs ++ ys) at m ≡ bytes_at xs at m
bytes_at-left xs ys at m inside =
    ap (take m) (drop-append-le at xs ys (omega arith)) ∙ take-append-le m (drop at xs) ys (omega (arith, length-drop at xs))

pub bytes_at-right : (xs ys : List ℕ) (n at m : ℕ) → n ≡ length xs + at → bytes_at (xs ++ ys) n m ≡ bytes_at ys at m
bytes_at-right xs ys n at m far = ap (λ (k : ℕ). take m (drop k (xs ++ ys))) far ∙ ap (take m) (drop-append-add xs ys at)

pub concat-at : (n : ℕ) (xss : List (List ℕ)) → AllOfLength n xss → (from k at m : ℕ) → from ≡ n * k + at → k < length xss → at + m ≤ n
    → bytes_at (concat xss) from m ≡ bytes_at (nth xss k) at m
concat-at n xss same from k at m is there inside =
    let one : List ℕ = nth xss k in
    let size : length one ≡ n = same k [] there in
    ap (λ (j : ℕ). take m (drop j (concat xss))) is ∙ ap (take m) (sym (drop-drop at (n * k) (concat xss)))
    ∙ ap (λ (xs : List ℕ). take m (drop at xs)) (drop-concat n k xss same ∙ ap concat (drop-cons xss k [] there))
    ∙ bytes_at-left one (concat (drop (suc k) xss)) at m (omega arith)

-- the first pieces of a list are the first part of it
pub concat-pieces_of : (n count : ℕ) (xs : List ℕ) → concat (pieces n count xs) ≡ take (n * count) xs
concat-pieces_of n zero xs = let none : 0 ≡ n * 0 = omega arith in ap concat (pieces_none n xs) ∙ ap (λ (k : ℕ). take k xs) none
concat-pieces_of n (suc count) xs =
    let one : suc count ≡ count + 1 = omega arith in
    let more : n * count + n ≡ n * suc count = omega arith in
    ap (λ (k : ℕ). concat (pieces n k xs)) one ∙ ap concat (pieces_more n count xs) ∙ concat-push (pieces n count xs) (piece n count xs)
    ∙ ap (λ (r : List ℕ). r ++ piece n count xs) (concat-pieces_of n count xs) ∙ sym (take-add (n * count) n xs) ∙ ap (λ (k : ℕ). take k xs) more

-- the values of two functions that agree
pub map-range_same : {A : Type 0} (f g : ℕ → A) (n : ℕ) → ((k : ℕ) → k < n → f k ≡ g k) → map f (range_with_len 0 n) ≡ map g (range_with_len 0 n)
map-range_same f g n same =
    same_lists (map f (range_with_len 0 n)) (map g (range_with_len 0 n)) (length-map-range_with_len f 0 n ∙ sym (length-map-range_with_len g 0 n))
    (λ k d h.
    let below : k < n = omega (arith, length-map-range_with_len f 0 n) in
    get_or-map-range_with_len f 0 n k k d below (omega arith) ∙ same k below ∙ sym (get_or-map-range_with_len g 0 n k k d below (omega arith)))

pub concat-map_push : {A : Type 0} (f : A → List ℕ) (xs : List A) (x : A) → concat (map f (xs ++ x ∷ [])) ≡ concat (map f xs) ++ f x
concat-map_push f xs x = ap concat (map_push f xs x) ∙ concat-push (map f xs) (f x)

-- ---- bytes written one after another

module _ (all : List ℕ) (at : ℕ) (xs ys : List ℕ) (fits : at + length xs + length ys ≤ length all) where
  abbrev head : List ℕ
  head = take at all

  abbrev rest : List ℕ
  rest = drop (at + length xs) all

  front : length head ≡ at
  front = length-take-le at all (omega arith)

  before : take (at + length xs) (head ++ (xs ++ rest)) ≡ head ++ xs
  before =
      let e : at + length xs ≡ length head + length xs = omega (arith, front) in
      ap (λ (n : ℕ). take n (head ++ (xs ++ rest))) e ∙ take-append-add head (xs ++ rest) (length xs) ∙ ap (λ (r : List ℕ). head ++ r) (take_at xs rest (length xs) refl)

  after : drop (at + length xs + length ys) (head ++ (xs ++ rest)) ≡ drop (at + length (xs ++ ys)) all
  after =
      let e : at + length xs + length ys ≡ length head + (length xs + length ys) = omega (arith, front) in
      let same : at + length xs + length ys ≡ at + length (xs ++ ys) = omega (arith, length-append xs ys) in
      ap (λ (n : ℕ). drop n (head ++ (xs ++ rest))) e ∙ drop-append-add head (xs ++ rest) (length xs + length ys) ∙ drop-append-add xs rest (length ys)
      ∙ drop-drop (length ys) (at + length xs) all ∙ ap (λ (n : ℕ). drop n all) same

  pub with_bytes-more : with_bytes (with_bytes all at xs) (at + length xs) ys ≡ with_bytes all at (xs ++ ys)
  with_bytes-more =
      ap (λ (r : List ℕ). r ++ (ys ++ drop (at + length xs + length ys) (head ++ (xs ++ rest)))) before
      ∙ ap (λ (r : List ℕ). (head ++ xs) ++ (ys ++ r)) after
      ∙ append_assoc head xs (ys ++ drop (at + length (xs ++ ys)) all) ∙ ap (λ (r : List ℕ). head ++ r) (sym (append_assoc xs ys (drop (at + length (xs ++ ys)) all)))

-- up to the end
pub with_bytes-last : (all : List ℕ) (at : ℕ) (bytes : List ℕ) → length all ≤ at + length bytes → with_bytes all at bytes ≡ take at all ++ bytes
with_bytes-last all at bytes last =
    ap (λ (r : List ℕ). take at all ++ (bytes ++ r)) (drop_all (at + length bytes) all last) ∙ ap (λ (r : List ℕ). take at all ++ r) (append-nil bytes)
