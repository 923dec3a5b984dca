-- A list that fills with the digests of pieces, one after another.
use Rattle.std.proofs.Common.{◌≡◌, ℕ, ◌+◌, ◌*◌, ◌≤◌, List, ◌++◌, length, map, take, drop, sym, ap, ◌∙◌, arith}
use Rattle.std.proofs.lemmas.List.{append-nil, append_assoc, drop-drop, drop_all, drop_at, length-map, map_push, take_at}
use Rattle.std.proofs.lemmas.List.Elements.{All-map}
use Rattle.std.specs.List.{concat}
use Rattle.pl_digest.specs.Trees.{piece, pieces}
use Rattle.pl_digest.proofs.PieceLemmas.{AllOfLength, concat-push, length-concat, length-pieces, pieces_more, pieces_none}
use borrow.Rule.Slice.PartMut.{put_mid}

module _ (d : List ℕ → List ℕ) (law : (m : List ℕ) → length (d m) ≡ 32) where
  pub digests_of_length : (xss : List (List ℕ)) → AllOfLength 32 (map d xss)
  digests_of_length xss = All-map (λ (xs : List ℕ). length xs ≡ 32) d xss (λ k e h. law _)

  pub length-digests : (xss : List (List ℕ)) → length (concat (map d xss)) ≡ 32 * length xss
  length-digests xss = length-concat 32 (map d xss) (digests_of_length xss) ∙ ap (λ (n : ℕ). 32 * n) (length-map xss d)

  module _ (bytes old : List ℕ) (size : ℕ) where
    pub digests_none : old ≡ concat (map d (pieces size 0 bytes)) ++ old
    digests_none = sym (ap (λ (ps : List (List ℕ)). concat (map d ps) ++ old) (pieces_none size bytes))

    pub digests_more : (k w : ℕ) (now : List ℕ) → w ≡ 32 → now ≡ concat (map d (pieces size k bytes)) ++ drop (32 * k) old
        → put_mid (32 * k) w now (d (piece size k bytes)) ≡ concat (map d (pieces size (k + 1) bytes)) ++ drop (32 * (k + 1)) old
    digests_more k w now width is =
        let before : List ℕ = concat (map d (pieces size k bytes)) in
        let new : List ℕ = d (piece size k bytes) in
        let count : length before ≡ 32 * k = length-digests (pieces size k bytes) ∙ ap (λ (n : ℕ). 32 * n) (length-pieces size k bytes) in
        let more : concat (map d (pieces size (k + 1) bytes)) ≡ before ++ new =
        ap (λ (ps : List (List ℕ)). concat (map d ps)) (pieces_more size k bytes) ∙ ap concat (map_push d (pieces size k bytes) (piece size k bytes)) ∙ concat-push (map d (pieces size k bytes)) new in
        let rest : drop w (drop (32 * k) now) ≡ drop (32 * (k + 1)) old =
        let far : 32 * k + w ≡ 32 * (k + 1) = omega arith in
        ap (λ (xs : List ℕ). drop w (drop (32 * k) xs)) is ∙ ap (drop w) (drop_at before (drop (32 * k) old) (32 * k) count) ∙ drop-drop w (32 * k) old ∙ ap (λ (n : ℕ). drop n old) far in
        ap (λ (r : List ℕ). r ++ (new ++ drop w (drop (32 * k) now))) (ap (take (32 * k)) is ∙ take_at before (drop (32 * k) old) (32 * k) count)
        ∙ ap (λ (r : List ℕ). before ++ (new ++ r)) rest ∙ sym (append_assoc before new (drop (32 * (k + 1)) old)) ∙ ap (λ (r : List ℕ). r ++ drop (32 * (k + 1)) old) (sym more)

    pub digests_all : (k : ℕ) (now : List ℕ) → length old ≤ 32 * k → now ≡ concat (map d (pieces size k bytes)) ++ drop (32 * k) old → now ≡ concat (map d (pieces size k bytes))
    digests_all k now all is = is ∙ ap (λ (r : List ℕ). concat (map d (pieces size k bytes)) ++ r) (drop_all (32 * k) old all) ∙ append-nil (concat (map d (pieces size k bytes)))
