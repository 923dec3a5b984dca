-- The digests held along the path of a word, and so the first place that breaks.
use Rattle.std.proofs.Common.{◌≡◌, ℕ, ◌+◌, ◌*◌, ◌/◌, ◌%◌, ◌<◌, not, if◌then◌else◌, List, [], ◌∷◌, Option, Some, None, refl, ap, ◌∙◌, arith}
use Rattle.std.proofs.lemmas.Bool.{eq-eqb}
use Rattle.std.proofs.lemmas.List.Elements.{All-nil, All-cons}
use Rattle.std.specs.Str.{bytes_eq}
use Rattle.mem_geom.specs.PathPlaces.{word_places}
use Rattle.pl_base.specs.declared.place.Place.{Place}
use Rattle.pl_base.specs.declared.place.Place.TheVariants.{Block, Node}
use Rattle.pl_digest.specs.Nodes.{entry}
use Rattle.mem_tree.specs.declared.taken.Taken.{Taken}
use Rattle.mem_tree.specs.Paths.{first_break, held}
use Rattle.mem_tree.specs.Words.{PartsAnswerAlike, part_bytes, taken_path, word_path}
use Rattle.mem_tree.proofs.Differences.{own_bytes_matter}
use Rattle.mem_tree.proofs.LinkedPaths.{paths_are_top_down}

module _ {D : _} (t : Taken D) (block : t.block_no < 64) where
  held4 : held (taken_path t) (Node 4 (t.page / 64) 0) ≡ t.root
  held4 = rw (eq-eqb (t.page / 64) (t.page / 64) refl) refl

  held3 : held (taken_path t) (Node 3 (t.page / 64) (t.page % 64 / 8)) ≡ entry (t.page % 64 / 8) t.level4
  held3 = ap (λ (k : ℕ). entry k t.level4) (omega arith)

  held1 : held (taken_path t) (Node 1 (t.page / 64) (8 * (t.page % 64) + t.block_no / 8)) ≡ entry (t.block_no / 8) t.level2
  held1 = ap (λ (k : ℕ). entry k t.level2) (omega arith)

  module _ (digest_of : List ℕ → List ℕ) where
    -- the five tests, from the top
    abbrev pub tests : List ℕ → List ℕ → List ℕ → List ℕ → List ℕ → Option Place
    tests h4 h3 h2 h1 h0 =
        if not (bytes_eq (digest_of t.level4) h4) then Some (Node 4 (t.page / 64) 0)
        else (if not (bytes_eq (digest_of t.level3) h3) then Some (Node 3 (t.page / 64) (t.page % 64 / 8))
        else (if not (bytes_eq (digest_of t.level2) h2) then Some (Node 2 (t.page / 64) (t.page % 64))
        else (if not (bytes_eq (digest_of t.level1) h1) then Some (Node 1 (t.page / 64) (8 * (t.page % 64) + t.block_no / 8))
        else (if not (bytes_eq (digest_of t.block) h0) then Some (Block t.page t.block_no) else None))))

    abbrev pub word_break : Option Place
    word_break = tests t.root (entry (t.page % 64 / 8) t.level4) (entry (t.page % 64 % 8) t.level3) (entry (t.block_no / 8) t.level2) (entry (t.block_no % 8) t.level1)

    pub first_break-taken_path : first_break digest_of (taken_path t) ≡ word_break
    first_break-taken_path =
        let h3 : List ℕ = held (taken_path t) (Node 3 (t.page / 64) (t.page % 64 / 8)) in
        let h1 : List ℕ = held (taken_path t) (Node 1 (t.page / 64) (8 * (t.page % 64) + t.block_no / 8)) in
        let e3 : List ℕ = entry (t.page % 64 / 8) t.level4 in
        let e2 : List ℕ = entry (t.page % 64 % 8) t.level3 in
        let e0 : List ℕ = entry (t.block_no % 8) t.level1 in
        ap (λ (h : List ℕ). tests h h3 e2 h1 e0) held4 ∙ ap (λ (h : List ℕ). tests t.root h e2 h1 e0) held3 ∙ ap (λ (h : List ℕ). tests t.root e3 e2 h e0) held1

pub parts_answer_alike : (d : List ℕ → List ℕ) → PartsAnswerAlike d
parts_answer_alike d root bytes page block below =
    let same = λ (p : Place). part_bytes (word_path root bytes page block) p ≡ bytes p in
    let z : ℕ = page / 64 in
    let n3 : Place = Node 3 z (page % 64 / 8) in
    let n2 : Place = Node 2 z (page % 64) in
    let n1 : Place = Node 1 z (8 * (page % 64) + block / 8) in
    let last : List Place = Block page block ∷ [] in
    own_bytes_matter d root (word_places page block) (part_bytes (word_path root bytes page block)) bytes (paths_are_top_down.words page block below)
    (All-cons same (Node 4 z 0) (n3 ∷ n2 ∷ n1 ∷ last) refl (All-cons same n3 (n2 ∷ n1 ∷ last) refl (All-cons same n2 (n1 ∷ last) refl (All-cons same n1 last refl (All-cons same (Block page block) [] refl (All-nil same))))))
