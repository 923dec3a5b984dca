-- The words of a last table, leaf by leaf.
use Rattle.std.proofs.Common.{◌≡◌, ℕ, suc, ◌+◌, ◌-◌, ◌<◌, ◌≤◌, List, [], ◌∷◌, ◌++◌, length, map, get_or, take, set, replicate, refl, ap, sym, ◌∙◌, subst, arith, length-take-le}
use Rattle.std.proofs.Math.Seq.{set-append_seam, take-length}
use Rattle.std.proofs.lemmas.List.{append_assoc, length-map, map-append, set-append_right, take_more}
use Rattle.mon_tables.specs.declared.number_tables.Leaf.{Leaf}
use Rattle.mon_tables.specs.Tables.{leaf_of, leaf_words, pointing_words}
use Rattle.mon_tables.specs.Words.{pointer_word}

-- behind a head of n words, the next leaf takes the place of the first zero
next_leaf : (head : List ℕ) (n : ℕ) (leaves : List Leaf) (i : ℕ) (d : Leaf) → length head ≡ n → i < length leaves → length leaves ≤ 256
    → set (head ++ (map leaf_of (take i leaves) ++ replicate (496 - i) 0)) (n + i) (leaf_of (get_or leaves i d))
    ≡ head ++ (map leaf_of (take (i + 1) leaves) ++ replicate (496 - (i + 1)) 0)
next_leaf head n leaves i d size below few =
    let before : List ℕ = map leaf_of (take i leaves) in
    let now : ℕ = leaf_of (get_or leaves i d) in
    let rest : List ℕ = replicate (496 - (i + 1)) 0 in
    let place : n + i - n ≡ i = omega arith in
    let taken : length (take i leaves) ≡ i = length-take-le i leaves (omega arith) in
    let written : length before ≡ i = length-map (take i leaves) leaf_of ∙ taken in
    let zero_first : replicate (496 - i) 0 ≡ 0 ∷ rest = ap (λ m. replicate m 0) (let e : 496 - i ≡ suc (496 - (i + 1)) = omega arith in e) in
    let more : map leaf_of (take (i + 1) leaves) ≡ before ++ now ∷ [] = ap (map leaf_of) (take_more leaves i d below) ∙ map-append leaf_of (take i leaves) (get_or leaves i d ∷ []) in
    set-append_right head (before ++ replicate (496 - i) 0) n (n + i) now size (omega arith)
    ∙ ap (λ ws. head ++ ws) (
    ap (λ m. set (before ++ replicate (496 - i) 0) m now) (place ∙ sym written)
    ∙ (ap (λ zeros. set (before ++ zeros) (length before) now) zero_first
    ∙ (set-append_seam before 0 rest now
    ∙ (sym (append_assoc before (now ∷ []) rest) ∙ ap (λ ws. ws ++ rest) (sym more)))))

-- with so many leaves written
pub leaves_written : List Leaf → ℕ → List ℕ
leaves_written leaves i = replicate 16 0 ++ (map leaf_of (take i leaves) ++ replicate (496 - i) 0)

pub none_written : (leaves : List Leaf) → replicate 512 0 ≡ leaves_written leaves 0
unfolding leaves_written
none_written leaves = refl

pub one_more : (leaves : List Leaf) (i : ℕ) (d : Leaf) → i < length leaves → length leaves ≤ 256
    → set (leaves_written leaves i) (16 + i) (leaf_of (get_or leaves i d)) ≡ leaves_written leaves (i + 1)
unfolding leaves_written
one_more leaves i d below few = next_leaf (replicate 16 0) 16 leaves i d refl below few

pub all_written : (leaves : List Leaf) (i : ℕ) → i ≡ length leaves → leaves_written leaves i ≡ leaf_words leaves
unfolding leaves_written leaf_words
all_written leaves i is =
    subst (λ n. replicate 16 0 ++ (map leaf_of (take n leaves) ++ replicate (496 - n) 0) ≡ replicate 16 0 ++ (map leaf_of leaves ++ replicate (496 - length leaves) 0)) (sym is)
    (ap (λ all. replicate 16 0 ++ (map leaf_of all ++ replicate (496 - length leaves) 0)) (take-length leaves))

pub pointing : (page : ℕ) → set (replicate 512 0) 0 (pointer_word page) ≡ pointing_words page
unfolding pointing_words
pointing page = refl
