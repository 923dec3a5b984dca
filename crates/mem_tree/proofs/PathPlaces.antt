-- Places and lists of them.
use Rattle.std.proofs.Common.{◌≡◌, ℕ, zero, suc, ◌==◌, ◌&&◌, ◌||◌, ◌<◌, Bool, true, false, List, [], ◌∷◌, ◌++◌, length, get_or, Option, Some, None, refl, sym, ◌∙◌, arith}
use Rattle.std.proofs.lemmas.Bool.{and_parts, eq-eqb, eqb-true, false≢true, or_left, or_right}
use Rattle.std.proofs.lemmas.List.Folds.{list_any-append}
use Rattle.std.specs.Option.{option_map_or}
use Rattle.pl_base.specs.declared.place.Place.{Place}
use Rattle.pl_base.specs.declared.place.Place.TheVariants.{Block, Node, RootNode}
use Rattle.mem_tree.specs.Paths.{same_place}
use Rattle.mem_tree.specs.Checks.{has_place}

pub same_place-refl : (p : Place) → same_place p p ≡ true
same_place-refl (Block page block) = rw (eq-eqb page page refl, eq-eqb block block refl) refl
same_place-refl (Node level zone index) = rw (eq-eqb level level refl, eq-eqb zone zone refl, eq-eqb index index refl) refl
same_place-refl (RootNode level index) = rw (eq-eqb level level refl, eq-eqb index index refl) refl

pub is_same : (p q : Place) → same_place p q ≡ true → p ≡ q
is_same (Block page block) (Block other number) h =
    let k = and_parts (page == other) (block == number) h in
    λ i. Block (eqb-true page other k.0 i) (eqb-true block number k.1 i)
is_same (Node level zone index) (Node height other number) h =
    let k = and_parts ((level == height) && (zone == other)) (index == number) h in
    let l = and_parts (level == height) (zone == other) k.0 in
    λ i. Node (eqb-true level height l.0 i) (eqb-true zone other l.1 i) (eqb-true index number k.1 i)
is_same (RootNode level index) (RootNode height number) h =
    let k = and_parts (level == height) (index == number) h in
    λ i. RootNode (eqb-true level height k.0 i) (eqb-true index number k.1 i)
is_same (Block page block) (Node height other number) h = absurd (false≢true h)
is_same (Block page block) (RootNode height number) h = absurd (false≢true h)
is_same (Node level zone index) (Block other number) h = absurd (false≢true h)
is_same (Node level zone index) (RootNode height number) h = absurd (false≢true h)
is_same (RootNode level index) (Block other number) h = absurd (false≢true h)
is_same (RootNode level index) (Node height other number) h = absurd (false≢true h)

-- one of two tests, where the first fails
pub second_test : (b c : Bool) → (b || c) ≡ true → b ≡ false → c ≡ true
second_test true c found other = absurd (false≢true (sym other))
second_test false c found other = found

-- a parent that is among some places is among more
pub has_more : (above rest : List Place) (o : Option Place) → option_map_or (has_place above) o false ≡ true → option_map_or (has_place (above ++ rest)) o false ≡ true
has_more above rest None h = h
has_more above rest (Some q) h = list_any-append (λ (p : Place). same_place p q) above rest ∙ or_left (has_place above q) (has_place rest q) h

pub has_at : (ps : List Place) (q : Place) (k : ℕ) (e : Place) → k < length ps → same_place (get_or ps k e) q ≡ true → has_place ps q ≡ true
has_at [] q k e there h = absurd (omega arith)
has_at (p ∷ ps) q zero e there h = or_left (same_place p q) (has_place ps q) h
has_at (p ∷ ps) q (suc k) e there h = or_right (same_place p q) (has_place ps q) (has_at ps q k e (omega arith) h)
