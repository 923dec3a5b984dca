-- Paths that go from the top down, and that hold since each place's digest stands in the node above it.
use Rattle.std.proofs.Common.{◌≡◌, ℕ, zero, suc, ◌+◌, ◌*◌, ◌/◌, ◌%◌, ◌<◌, Bool, true, false, cond, not, List, [], ◌∷◌, ◌++◌, length, get_or, Option, Some, None, refl, subst, sym, ap, ◌∙◌, arith}
use Rattle.std.proofs.lemmas.Bool.{cond-false, cond-true, eq-eqb}
use Rattle.std.proofs.lemmas.List.{append-nil, append_assoc}
use Rattle.std.proofs.lemmas.List.Elements.{All-head, All-tail}
use Rattle.std.proofs.lemmas.List.FromFn.{get_or-map-range_with_len, length-map-range_with_len}
use Rattle.std.specs.List.{All, find}
use Rattle.std.specs.Option.{option_map_or}
use Rattle.std.specs.Str.{bytes_eq}
use Rattle.pl_base.specs.declared.place.Place.{Place}
use Rattle.pl_base.specs.declared.place.Place.TheVariants.{Block, Node}
use Rattle.mem_geom.specs.Tree.{parent, entry_number}
use Rattle.mem_geom.specs.PathPlaces.{block_places, level1_places, page_places, replaced_places, root_places, word_places}
use Rattle.pl_digest.specs.Nodes.{entry}
use Rattle.mem_tree.specs.Paths.{Path, breaks, first_break, held, path_of, same_place}
use Rattle.mem_tree.specs.Checks.{IsTopDown, IsTopDownFrom, has_place}
use Rattle.mem_tree.specs.Trees.{PathsAreTopDown}
use Rattle.mem_tree.proofs.Differences.{bytes_eq-same}
use Rattle.mem_tree.proofs.PathPlaces.{has_at, has_more, same_place-refl}

-- ---- a path whose places are linked

-- a place's digest stands in the node above it
abbrev pub IsLinked : (List ℕ → List ℕ) → (Place → List ℕ) → Place → Type 0
IsLinked d bytes p = d (bytes p) ≡ option_map_or (λ (above : Place). entry (entry_number p) (bytes above)) (parent p) []

passes : (b : Bool) (p : Place) (rest : Option Place) → b ≡ true → rest ≡ None → cond (not b) (Some p) rest ≡ None
passes true p rest h r = r
passes false p rest h r = cc

module _ (d : List ℕ → List ℕ) (root : List ℕ) (first : Place) (places : List Place) (bytes : Place → List ℕ) where
  abbrev whole : Path
  whole = path_of root (first ∷ places) bytes

  rest_passes : (above ps : List Place) → IsTopDownFrom (first ∷ above) ps → All (IsLinked d bytes) ps → find (breaks d whole) ps ≡ None
  rest_passes above [] down linked = refl
  rest_passes above (p ∷ ps) down linked =
      let link : IsLinked d bytes p = All-head (IsLinked d bytes) p ps linked in
      let is : d (bytes p) ≡ held whole p = link ∙ sym (cond-false (same_place first p) root _ down.0.0) in
      passes (bytes_eq (d (bytes p)) (held whole p)) p (find (breaks d whole) ps) (bytes_eq-same (d (bytes p)) (held whole p) is)
      (rest_passes (above ++ p ∷ []) ps down.1 (All-tail (IsLinked d bytes) p ps linked))

  pub linked_path-holds : IsTopDown (first ∷ places) → d (bytes first) ≡ root → All (IsLinked d bytes) places → first_break d whole ≡ None
  linked_path-holds down top linked =
      let is : d (bytes first) ≡ held whole first = top ∙ sym (cond-true (same_place first first) root _ (same_place-refl first)) in
      passes (bytes_eq (d (bytes first)) (held whole first)) first (find (breaks d whole) places) (bytes_eq-same (d (bytes first)) (held whole first) is)
      (rest_passes [] places down linked)

-- ---- many places under ones that stand above already

abbrev IsUnder : Place → List Place → Place → Type 0
IsUnder u us p = (same_place u p ≡ false) × (option_map_or (has_place (u ∷ us)) (parent p) false ≡ true)

all_under : (u : Place) (us ps : List Place) → All (IsUnder u us) ps → IsTopDownFrom (u ∷ us) ps
all_under u us [] all = tt
all_under u us (p ∷ ps) all =
    (all zero p (omega arith), all_under u (us ++ p ∷ []) ps (λ k e h. let g = all (suc k) e (omega arith) in (g.0, has_more (u ∷ us) (p ∷ []) (parent (get_or ps k e)) g.1)))

down-append : (u : Place) (us xs ys : List Place) → IsTopDownFrom (u ∷ us) xs → IsTopDownFrom (u ∷ us ++ xs) ys → IsTopDownFrom (u ∷ us) (xs ++ ys)
down-append u us [] ys x y = subst (λ (l : List Place). IsTopDownFrom (u ∷ l) ys) (append-nil us) y
down-append u us (p ∷ ps) ys x y =
    (x.0, down-append u (us ++ p ∷ []) ps ys x.1 (subst (λ (l : List Place). IsTopDownFrom (u ∷ l) ys) (sym (append_assoc us (p ∷ []) ps)) y))

-- ---- the four kinds

abbrev pub level1_at : ℕ → ℕ → Place
level1_at page k = Node 1 (page / 64) (8 * (page % 64) + k)

pub level1_row : (page k : ℕ) (e : Place) → k < 8 → get_or (level1_places page) k e ≡ level1_at page k
unfolding level1_places
level1_row page k e below = get_or-map-range_with_len (level1_at page) 0 8 k k e below (omega arith)

pub length-level1_places : (page : ℕ) → length (level1_places page) ≡ 8
unfolding level1_places
length-level1_places page = length-map-range_with_len (level1_at page) 0 8

pub block_row : (page k : ℕ) (e : Place) → k < 64 → get_or (block_places page) k e ≡ Block page k
unfolding block_places
block_row page k e below = get_or-map-range_with_len (Block page) 0 64 k k e below (omega arith)

pub length-block_places : (page : ℕ) → length (block_places page) ≡ 64
unfolding block_places
length-block_places page = length-map-range_with_len (Block page) 0 64

replaced-top_down : (page : ℕ) → IsTopDown (replaced_places page)
replaced-top_down page = ((refl, rw (eq-eqb (page / 64) (page / 64) refl, eq-eqb 0 (page % 64 / 8 / 8) (omega arith)) refl), tt)

word-top_down : (page block : ℕ) → block < 64 → IsTopDown (word_places page block)
word-top_down page block below =
    let i : ℕ = page % 64 / 8 in
    let j : ℕ = 8 * (page % 64) + block / 8 in
    let same = eq-eqb (page / 64) (page / 64) refl in
    ((refl, rw (same, eq-eqb 0 (i / 8) (omega arith)) refl), ((refl, rw (same, eq-eqb i i refl) refl), ((refl, rw (same, eq-eqb (page % 64) (j / 8) (omega arith)) refl), ((refl, rw (same, eq-eqb j j refl) refl), tt))))

root-top_down : (zone : ℕ) → zone < 64 → IsTopDown (root_places zone)
root-top_down zone below = ((refl, refl), tt)

page-top_down : (page : ℕ) → IsTopDown (page_places page)
page-top_down page =
    let z : ℕ = page / 64 in
    let p : ℕ = page % 64 in
    let rows : List Place = level1_places page in
    let bs : List Place = block_places page in
    let up : List Place = Node 3 z (p / 8) ∷ Node 2 z p ∷ [] in
    let same = eq-eqb z z refl in
    let first : All (IsUnder (Node 4 z 0) up) rows = λ k e h.
    let small : k < 8 = omega (arith, length-level1_places page) in
    subst (IsUnder (Node 4 z 0) up) (sym (level1_row page k e small)) (refl, rw (same, eq-eqb p ((8 * p + k) / 8) (omega arith)) refl) in
    let second : All (IsUnder (Node 4 z 0) (up ++ rows)) bs = λ b e h.
    let small : b < 64 = omega (arith, length-block_places page) in
    let q : Place = Node 1 z (8 * p + b / 8) in
    let found : has_place rows q ≡ true = has_at rows q (b / 8) q (omega (arith, length-level1_places page)) (ap (λ (r : Place). same_place r q) (level1_row page (b / 8) q (omega arith)) ∙ same_place-refl q) in
    subst (IsUnder (Node 4 z 0) (up ++ rows)) (sym (block_row page b e small)) (refl, found) in (
      (refl, rw (same, eq-eqb 0 (p / 8 / 8) (omega arith)) refl),
      (
        (refl, rw (same, eq-eqb (p / 8) (p / 8) refl) refl),
        down-append (Node 4 z 0) up rows bs (all_under (Node 4 z 0) up rows first) (all_under (Node 4 z 0) (up ++ rows) bs second),
      ),
    )

pub paths_are_top_down : PathsAreTopDown
paths_are_top_down = record { words = word-top_down; pages = page-top_down; replaced = replaced-top_down; roots = root-top_down }
