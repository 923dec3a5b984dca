-- Pieces of lists, and lists of one length joined end to end.
use Rattle.std.proofs.Common.{◌≡◌, ℕ, zero, suc, ◌+◌, ◌*◌, ◌<◌, List, [], ◌∷◌, ◌++◌, length, map, take, drop, get_or, refl, sym, ap, ◌∙◌, arith, length-append}
use Rattle.std.proofs.Math.Seq.{take-add, take-append-add, drop-append-add, take-nil, drop-nil}
use Rattle.std.proofs.lemmas.List.{append_assoc, append-nil, length-map, map-append, get_or-map, same_lists}
use Rattle.std.proofs.lemmas.List.FromFn.{length-map-range_with_len, get_or-map-range_with_len, map-range_with_len_more}
use Rattle.std.proofs.lemmas.List.Elements.{All-head, All-tail, All-drop}
use Rattle.std.specs.List.{All, concat}
use Rattle.pl_digest.specs.Trees.{piece, pieces}

-- ---- the pieces of a list

pub length-pieces : {A : Type 0} (n count : ℕ) (xs : List A) → length (pieces n count xs) ≡ count
unfolding pieces
length-pieces n count xs = length-map-range_with_len (λ (k : ℕ). piece n k xs) 0 count

pub get_or-pieces : {A : Type 0} (n count : ℕ) (xs : List A) (k : ℕ) (d : List A) → k < count → get_or (pieces n count xs) k d ≡ piece n k xs
unfolding pieces
get_or-pieces n count xs k d below = get_or-map-range_with_len (λ (j : ℕ). piece n j xs) 0 count k k d below (omega arith)

pub pieces_none : {A : Type 0} (n : ℕ) (xs : List A) → pieces n 0 xs ≡ []
unfolding pieces
pieces_none n xs = refl

pub pieces_more : {A : Type 0} (n count : ℕ) (xs : List A) → pieces n (count + 1) xs ≡ pieces n count xs ++ piece n count xs ∷ []
unfolding pieces
pieces_more n count xs = map-range_with_len_more (λ (k : ℕ). piece n k xs) 0 count count (omega arith)

-- ---- lists joined end to end

pub concat-append : (xss yss : List (List ℕ)) → concat (xss ++ yss) ≡ concat xss ++ concat yss
concat-append [] yss = refl
concat-append (xs ∷ xss) yss = ap (λ (r : List ℕ). xs ++ r) (concat-append xss yss) ∙ sym (append_assoc xs (concat xss) (concat yss))

pub concat-push : (xss : List (List ℕ)) (xs : List ℕ) → concat (xss ++ xs ∷ []) ≡ concat xss ++ xs
concat-push xss xs = concat-append xss (xs ∷ []) ∙ ap (λ (r : List ℕ). concat xss ++ r) (append-nil xs)

-- each list has n elements
abbrev pub AllOfLength : ℕ → List (List ℕ) → Type 0
AllOfLength n xss = All (λ (xs : List ℕ). length xs ≡ n) xss

pub length-concat : (n : ℕ) (xss : List (List ℕ)) → AllOfLength n xss → length (concat xss) ≡ n * length xss
length-concat n [] same = omega arith
length-concat n (xs ∷ xss) same =
    let first : length xs ≡ n = All-head (λ (ys : List ℕ). length ys ≡ n) xs xss same in
    let rest = length-concat n xss (All-tail (λ (ys : List ℕ). length ys ≡ n) xs xss same) in
    omega (arith, length-append xs (concat xss))

pub drop-concat : (n k : ℕ) (xss : List (List ℕ)) → AllOfLength n xss → drop (n * k) (concat xss) ≡ concat (drop k xss)
drop-concat n zero xss same = let none : n * 0 ≡ 0 = omega arith in ap (λ (m : ℕ). drop m (concat xss)) none
drop-concat n (suc k) [] same = drop-nil (n * suc k)
drop-concat n (suc k) (xs ∷ xss) same =
    let first : length xs ≡ n = All-head (λ (ys : List ℕ). length ys ≡ n) xs xss same in
    let more : n * suc k ≡ length xs + n * k = omega arith in
    ap (λ (m : ℕ). drop m (xs ++ concat xss)) more ∙ drop-append-add xs (concat xss) (n * k) ∙ drop-concat n k xss (All-tail (λ (ys : List ℕ). length ys ≡ n) xs xss same)

pub take-concat : (n k : ℕ) (xss : List (List ℕ)) → AllOfLength n xss → take (n * k) (concat xss) ≡ concat (take k xss)
take-concat n zero xss same = let none : n * 0 ≡ 0 = omega arith in ap (λ (m : ℕ). take m (concat xss)) none
take-concat n (suc k) [] same = take-nil (n * suc k)
take-concat n (suc k) (xs ∷ xss) same =
    let first : length xs ≡ n = All-head (λ (ys : List ℕ). length ys ≡ n) xs xss same in
    let more : n * suc k ≡ length xs + n * k = omega arith in
    ap (λ (m : ℕ). take m (xs ++ concat xss)) more ∙ take-append-add xs (concat xss) (n * k)
    ∙ ap (λ (r : List ℕ). xs ++ r) (take-concat n k xss (All-tail (λ (ys : List ℕ). length ys ≡ n) xs xss same))

-- a piece of joined lists is the join of some of them
pub piece-concat : (n m k : ℕ) (xss : List (List ℕ)) → AllOfLength n xss → piece (n * m) k (concat xss) ≡ concat (piece m k xss)
piece-concat n m k xss same =
    let at : n * m * k ≡ n * (m * k) = omega arith in
    ap (λ (j : ℕ). take (n * m) (drop j (concat xss))) at ∙ ap (take (n * m)) (drop-concat n (m * k) xss same)
    ∙ take-concat n m (drop (m * k) xss) (All-drop (λ (xs : List ℕ). length xs ≡ n) (m * k) xss same)

pub pieces-concat : (n m count : ℕ) (xss : List (List ℕ)) → AllOfLength n xss → pieces (n * m) count (concat xss) ≡ map concat (pieces m count xss)
pieces-concat n m count xss same =
    same_lists (pieces (n * m) count (concat xss)) (map concat (pieces m count xss))
    (length-pieces (n * m) count (concat xss) ∙ sym (length-map (pieces m count xss) concat ∙ length-pieces m count xss))
    (λ k d h.
    let below : k < count = omega (arith, length-pieces (n * m) count (concat xss)) in
    let there : k < length (pieces m count xss) = omega (arith, length-pieces m count xss) in
    get_or-pieces (n * m) count (concat xss) k d below ∙ piece-concat n m k xss same
    ∙ sym (get_or-map concat (pieces m count xss) k [] d there ∙ ap concat (get_or-pieces m count xss k [] below)))

-- the join of the first pieces is the join of the elements that they have
pub concat-pieces : (n count : ℕ) (xss : List (List ℕ)) → concat (map concat (pieces n count xss)) ≡ concat (take (n * count) xss)
concat-pieces n zero xss = let none : n * 0 ≡ 0 = omega arith in ap (λ (ps : List (List (List ℕ))). concat (map concat ps)) (pieces_none n xss) ∙ sym (ap (λ (m : ℕ). concat (take m xss)) none)
concat-pieces n (suc count) xss =
    let one : suc count ≡ count + 1 = omega arith in
    let more : n * suc count ≡ n * count + n = omega arith in
    ap (λ (m : ℕ). concat (map concat (pieces n m xss))) one ∙ ap (λ (ps : List (List (List ℕ))). concat (map concat ps)) (pieces_more n count xss)
    ∙ ap concat (map-append concat (pieces n count xss) (piece n count xss ∷ [])) ∙ concat-push (map concat (pieces n count xss)) (concat (piece n count xss))
    ∙ ap (λ (r : List ℕ). r ++ concat (piece n count xss)) (concat-pieces n count xss)
    ∙ sym (ap (λ (m : ℕ). concat (take m xss)) more ∙ ap concat (take-add (n * count) n xss) ∙ concat-append (take (n * count) xss) (piece n count xss))
