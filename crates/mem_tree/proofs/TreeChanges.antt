-- What of a tree changes with one of its leaves.
use Rattle.std.proofs.Common.{◌≡◌, ◌≢◌, ℕ, zero, suc, ◌+◌, ◌-◌, ◌*◌, ◌/◌, ◌%◌, ◌<◌, ◌≤◌, ⊎_elim, List, [], ◌∷◌, ◌++◌, length, map, take, drop, get_or, set, sym, ap, ◌∙◌, arith}
use Rattle.std.proofs.Math.Seq.{take-set-le, take-set-lt, take-append-add, drop-append-add, map-set}
use Rattle.std.proofs.lemmas.Bool.{cases_lt, cases_eq}
use Rattle.std.proofs.lemmas.List.{append_assoc, length-drop, length-take-le, drop-set-add, drop-set-lt, drop_at, get_or-set_other, get_or-set_same, length-map, length-set, same_lists}
use Rattle.std.proofs.lemmas.List.Elements.{All-head, All-tail, All-take, All-drop}
use Rattle.std.specs.List.{concat}
use Rattle.pl_digest.specs.Trees.{piece, lower_nodes, upper_node}
use Rattle.pl_digest.proofs.PieceLemmas.{AllOfLength}
use Rattle.pl_base.specs.Bytes.{with_bytes}
use Rattle.pl_digest.specs.Nodes.{with_entry}
use Rattle.mem_tree.specs.Trees.{nth}
use Rattle.mem_tree.proofs.DigestSteps.{digests_of_length}
use Rattle.mem_tree.proofs.TreeNodes.{length-lower_nodes, nth-lower_nodes}

-- ---- one element of a list

-- the piece that has it
piece-set_same : (n k j : ℕ) (x : List ℕ) (xss : List (List ℕ)) → j < n → piece n k (set xss (n * k + j) x) ≡ set (piece n k xss) j x
piece-set_same n k j x xss below = ap (take n) (drop-set-add (n * k) xss j x) ∙ take-set-lt n (drop (n * k) xss) j x below

-- a piece before it
piece-set_before : (n k i : ℕ) (x : List ℕ) (xss : List (List ℕ)) → i < n * k → piece n k (set xss i x) ≡ piece n k xss
piece-set_before n k i x xss before = ap (take n) (drop-set-lt (n * k) xss i x before)

-- a piece after it
piece-set_after : (n k i : ℕ) (x : List ℕ) (xss : List (List ℕ)) → n * k + n ≤ i → piece n k (set xss i x) ≡ piece n k xss
piece-set_after n k i x xss after =
    let far : i ≡ n * k + (i - n * k) = omega arith in
    ap (λ (m : ℕ). piece n k (set xss m x)) far ∙ ap (take n) (drop-set-add (n * k) xss (i - n * k) x) ∙ take-set-le n (drop (n * k) xss) (i - n * k) x (omega arith)

-- ---- lists joined end to end

with_bytes-append : (xs ys : List ℕ) (at : ℕ) (bytes : List ℕ) → with_bytes (xs ++ ys) (length xs + at) bytes ≡ xs ++ with_bytes ys at bytes
with_bytes-append xs ys at bytes =
    let end : length xs + at + length bytes ≡ length xs + (at + length bytes) = omega arith in
    ap (λ (r : List ℕ). r ++ (bytes ++ drop (length xs + at + length bytes) (xs ++ ys))) (take-append-add xs ys at)
    ∙ ap (λ (r : List ℕ). (xs ++ take at ys) ++ (bytes ++ r)) (ap (λ (k : ℕ). drop k (xs ++ ys)) end ∙ drop-append-add xs ys (at + length bytes))
    ∙ append_assoc xs (take at ys) (bytes ++ drop (at + length bytes) ys)

-- lists of n elements, where one becomes another
concat-set : (n : ℕ) (xss : List (List ℕ)) (j : ℕ) (x : List ℕ) → AllOfLength n xss → length x ≡ n → j < length xss → concat (set xss j x) ≡ with_bytes (concat xss) (n * j) x
concat-set n [] j x sizes size there = absurd (omega arith)
concat-set n (y ∷ xss) zero x sizes size there =
    let first : length y ≡ n = All-head (λ (ys : List ℕ). length ys ≡ n) y xss sizes in
    let none : n * 0 ≡ 0 = omega arith in
    let rest : drop (0 + length x) (y ++ concat xss) ≡ concat xss = drop_at y (concat xss) (0 + length x) (omega arith) in
    ap (λ (r : List ℕ). x ++ r) (sym rest) ∙ ap (λ (k : ℕ). with_bytes (y ++ concat xss) k x) (sym none)
concat-set n (y ∷ xss) (suc j) x sizes size there =
    let first : length y ≡ n = All-head (λ (ys : List ℕ). length ys ≡ n) y xss sizes in
    let more : n * suc j ≡ length y + n * j = omega arith in
    ap (λ (r : List ℕ). y ++ r) (concat-set n xss j x (All-tail (λ (ys : List ℕ). length ys ≡ n) y xss sizes) size (omega arith))
    ∙ sym (with_bytes-append y (concat xss) (n * j) x) ∙ ap (λ (k : ℕ). with_bytes (y ++ concat xss) k x) (sym more)

-- ---- one digest of a tree

-- the lower node that has digest number i, with x in its place
abbrev pub changed_node : List (List ℕ) → ℕ → List ℕ → List ℕ
changed_node digests i x = with_entry (i % 8) x (nth (lower_nodes digests) (i / 8))

module _ (digests : List (List ℕ)) (i : ℕ) (x : List ℕ) (count : length digests ≡ 64) (sizes : AllOfLength 32 digests) (size : length x ≡ 32) (below : i < 64) where
  eight : length (piece 8 (i / 8) digests) ≡ 8
  eight = length-take-le 8 (drop (8 * (i / 8)) digests) (omega (arith, length-drop (8 * (i / 8)) digests))

  at_changed : (e : List ℕ) → get_or (lower_nodes (set digests i x)) (i / 8) e ≡ changed_node digests i x
  at_changed e =
      let k : ℕ = i / 8 in
      let j : ℕ = i % 8 in
      let split : i ≡ 8 * k + j = omega arith in
      nth-lower_nodes (set digests i x) k e (omega arith) ∙ ap (λ (m : ℕ). concat (piece 8 k (set digests m x))) split ∙ ap concat (piece-set_same 8 k j x digests (omega arith))
      ∙ concat-set 32 (piece 8 k digests) j x (All-take (λ (xs : List ℕ). length xs ≡ 32) 8 (drop (8 * k) digests) (All-drop (λ (xs : List ℕ). length xs ≡ 32) (8 * k) digests sizes)) size (omega (arith, eight))
      ∙ ap (with_entry j x) (sym (nth-lower_nodes digests k [] (omega arith)))

  pub at_other : (k : ℕ) (e : List ℕ) → k < 8 → k ≢ i / 8 → get_or (lower_nodes (set digests i x)) k e ≡ get_or (lower_nodes digests) k e
  at_other k e in_range other =
      nth-lower_nodes (set digests i x) k e in_range
      ∙ ap concat (⊎_elim (λ (before : i < 8 * k). piece-set_before 8 k i x digests before) (λ (past : 8 * k ≤ i). piece-set_after 8 k i x digests (omega arith)) (cases_lt i (8 * k)))
      ∙ sym (nth-lower_nodes digests k e in_range)

  pub lower_nodes-set : lower_nodes (set digests i x) ≡ set (lower_nodes digests) (i / 8) (changed_node digests i x)
  lower_nodes-set =
      same_lists (lower_nodes (set digests i x)) (set (lower_nodes digests) (i / 8) (changed_node digests i x))
      (length-lower_nodes (set digests i x) ∙ sym (length-set (lower_nodes digests) (i / 8) (changed_node digests i x) ∙ length-lower_nodes digests))
      (λ k e h.
      let in_range : k < 8 = omega (arith, length-lower_nodes (set digests i x)) in
      ⊎_elim
      (λ (same : k ≡ i / 8). ap (λ (m : ℕ). get_or (lower_nodes (set digests i x)) m e) same ∙ at_changed e
      ∙ sym (ap (λ (m : ℕ). get_or (set (lower_nodes digests) (i / 8) (changed_node digests i x)) m e) same ∙ get_or-set_same (lower_nodes digests) (i / 8) (changed_node digests i x) e (omega (arith, length-lower_nodes digests))))
      (λ (other : k ≢ i / 8). at_other k e in_range other ∙ sym (get_or-set_other (lower_nodes digests) (i / 8) k (changed_node digests i x) e other))
      (cases_eq k (i / 8)))

  pub nth-lower_nodes-set : nth (lower_nodes (set digests i x)) (i / 8) ≡ changed_node digests i x
  nth-lower_nodes-set = at_changed []

  module _ (d : List ℕ → List ℕ) (law : (m : List ℕ) → length (d m) ≡ 32) where
    pub upper_node-set : upper_node d (set digests i x) ≡ with_entry (i / 8) (d (changed_node digests i x)) (upper_node d digests)
    upper_node-set =
        ap (λ (nodes : List (List ℕ)). concat (map d nodes)) lower_nodes-set ∙ ap concat (map-set d (lower_nodes digests) (i / 8) (changed_node digests i x))
        ∙ concat-set 32 (map d (lower_nodes digests)) (i / 8) (d (changed_node digests i x)) (digests_of_length d law (lower_nodes digests)) (law (changed_node digests i x)) (omega (arith, length-map (lower_nodes digests) d, length-lower_nodes digests))
