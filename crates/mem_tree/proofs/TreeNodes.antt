-- The nodes of a tree as lists of digests, one after another.
use Rattle.std.proofs.Common.{◌≡◌, ℕ, suc, ◌+◌, ◌*◌, ◌/◌, ◌%◌, ◌<◌, List, [], length, map, take, drop, get_or, sym, ap, ◌∙◌, arith}
use Rattle.std.proofs.Math.Seq.{drop-cons}
use Rattle.std.proofs.lemmas.List.{get_or-drop, get_or-map, get_or-take, length-drop, length-map, length-take-le, take_all, take_at}
use Rattle.std.proofs.lemmas.List.Elements.{All-take, All-drop}
use Rattle.std.specs.List.{concat}
use Rattle.pl_digest.specs.Trees.{piece, pieces, blocks, lower_nodes, upper_node, block_digests}
use Rattle.pl_digest.proofs.PieceLemmas.{AllOfLength, concat-pieces, drop-concat, get_or-pieces, length-pieces, pieces-concat}
use Rattle.pl_digest.specs.Nodes.{entry}
use Rattle.mem_tree.specs.Trees.{nth}
use Rattle.mem_tree.proofs.DigestSteps.{digests_of_length}

pub length-lower_nodes : (digests : List (List ℕ)) → length (lower_nodes digests) ≡ 8
length-lower_nodes digests = length-map (pieces 8 8 digests) concat ∙ length-pieces 8 8 digests

pub nth-lower_nodes : (digests : List (List ℕ)) (k : ℕ) (e : List ℕ) → k < 8 → get_or (lower_nodes digests) k e ≡ concat (piece 8 k digests)
nth-lower_nodes digests k e below =
    get_or-map concat (pieces 8 8 digests) k [] e (omega (arith, length-pieces 8 8 digests)) ∙ ap concat (get_or-pieces 8 8 digests k [] below)

-- the lower nodes, one after another, are the digests, one after another
pub concat-lower_nodes : (digests : List (List ℕ)) → length digests ≡ 64 → concat (lower_nodes digests) ≡ concat digests
concat-lower_nodes digests count = concat-pieces 8 8 digests ∙ ap concat (take_all 64 digests (omega arith))

-- the pieces of 256 bytes of the digests, one after another, are the lower nodes
pub pieces-digests : (digests : List (List ℕ)) → AllOfLength 32 digests → pieces 256 8 (concat digests) ≡ lower_nodes digests
pieces-digests digests sizes = pieces-concat 32 8 8 digests sizes

module _ (d : List ℕ → List ℕ) (law : (m : List ℕ) → length (d m) ≡ 32) (page : List ℕ) where
  length-block_digests : length (block_digests d page) ≡ 64
  length-block_digests = length-map (blocks page) d ∙ length-pieces 64 64 page

  pub page_level1 : concat (block_digests d page) ≡ concat (lower_nodes (block_digests d page))
  page_level1 = sym (concat-lower_nodes (block_digests d page) length-block_digests)

  pub page_level2 : concat (map d (pieces 256 8 (concat (block_digests d page)))) ≡ upper_node d (block_digests d page)
  page_level2 = ap (λ (nodes : List (List ℕ)). concat (map d nodes)) (pieces-digests (block_digests d page) (digests_of_length d law (blocks page)))

-- ---- entries

-- number k of digests, one after another
pub entry-concat : (digests : List (List ℕ)) (k : ℕ) (e : List ℕ) → AllOfLength 32 digests → k < length digests → entry k (concat digests) ≡ get_or digests k e
entry-concat digests k e sizes there =
    let one : List ℕ = get_or digests k e in
    let rest : List (List ℕ) = drop (suc k) digests in
    ap (take 32) (drop-concat 32 k digests sizes ∙ ap concat (drop-cons digests k e there)) ∙ take_at one (concat rest) 32 (sizes k e there)

pub entry-upper_node : (d : List ℕ → List ℕ) → ((m : List ℕ) → length (d m) ≡ 32) → (digests : List (List ℕ)) (k : ℕ) → k < 8 → entry k (upper_node d digests) ≡ d (nth (lower_nodes digests) k)
entry-upper_node d law digests k below =
    let there : k < length (lower_nodes digests) = omega (arith, length-lower_nodes digests) in
    entry-concat (map d (lower_nodes digests)) k [] (digests_of_length d law (lower_nodes digests)) (omega (arith, length-map (lower_nodes digests) d)) ∙ get_or-map d (lower_nodes digests) k [] [] there

pub entry-lower_nodes : (digests : List (List ℕ)) (i : ℕ) → length digests ≡ 64 → AllOfLength 32 digests → i < 64 → entry (i % 8) (nth (lower_nodes digests) (i / 8)) ≡ nth digests i
entry-lower_nodes digests i count sizes below =
    let eight : List (List ℕ) = piece 8 (i / 8) digests in
    let there : i % 8 < length eight = omega (arith, length-take-le 8 (drop (8 * (i / 8)) digests) (omega (arith, length-drop (8 * (i / 8)) digests))) in
    let at : 8 * (i / 8) + i % 8 ≡ i = omega arith in
    ap (entry (i % 8)) (nth-lower_nodes digests (i / 8) [] (omega arith))
    ∙ entry-concat eight (i % 8) [] (All-take (λ (xs : List ℕ). length xs ≡ 32) 8 (drop (8 * (i / 8)) digests) (All-drop (λ (xs : List ℕ). length xs ≡ 32) (8 * (i / 8)) digests sizes)) there
    ∙ get_or-take 8 (drop (8 * (i / 8)) digests) (i % 8) [] (omega arith) ∙ get_or-drop (8 * (i / 8)) digests (i % 8) [] ∙ ap (nth digests) at
