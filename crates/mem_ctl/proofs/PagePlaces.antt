-- The places of a whole page's path, one by one.
use Rattle.std.proofs.Common.{◌≡◌, ℕ, zero, suc, ◌+◌, ◌-◌, ◌*◌, ◌/◌, ◌%◌, ◌<◌, ◌≤◌, ◌==◌, cond, List, ◌++◌, length, get_or, ⊎_elim, refl, sym, ap, ◌∙◌, arith, length-append}
use Rattle.std.specs.Prelude.{nat_lt}
use Rattle.std.proofs.lemmas.Bool.{cases_lt, cond-false, cond-true, le-ltb, lt-ltb, ne_eqb}
use Rattle.std.proofs.Math.ListN.{get_or-append}
use Rattle.std.proofs.Math.Seq.{get_or-append_right}
use Rattle.std.proofs.lemmas.List.{get_or_default, same_lists}
use Rattle.pl_base.specs.declared.place.Place.{Place}
use Rattle.pl_base.specs.declared.place.Place.TheVariants.{Block, Node}
use Rattle.mem_geom.specs.PathPlaces.{block_places, level1_places, page_places}
use Rattle.mem_tree.proofs.LinkedPaths.{block_row, length-block_places, length-level1_places, level1_row}
use Rattle.mem_ctl.specs.Pages.{page_place}

pub length-page_places : (page : ℕ) → length (page_places page) ≡ 75
length-page_places page = omega (arith, length-append (level1_places page) (block_places page), length-level1_places page, length-block_places page)

-- a place below the first three
pub later : (page k : ℕ) → 3 ≤ k → page_place page k ≡ cond (nat_lt k 11) (Node 1 (page / 64) (8 * (page % 64) + (k - 3))) (Block page (k - 11))
later page k past =
    cond-false (k == 0) _ _ (ne_eqb k 0 (λ h. absurd (omega arith))) ∙ cond-false (k == 1) _ _ (ne_eqb k 1 (λ h. absurd (omega arith))) ∙ cond-false (k == 2) _ _ (ne_eqb k 2 (λ h. absurd (omega arith)))

below_level2 : (page j : ℕ) (e : Place) → j < 72 → get_or (level1_places page ++ block_places page) j e ≡ page_place page (j + 3)
below_level2 page j e below =
    let rows : List Place = level1_places page in
    let bs : List Place = block_places page in
    ⊎_elim
    (λ (node : j < 8).
    let own : j ≡ j + 3 - 3 = omega arith in
    get_or-append rows bs e j (omega (arith, length-level1_places page)) ∙ level1_row page j e node ∙ ap (λ (n : ℕ). Node 1 (page / 64) (8 * (page % 64) + n)) own
    ∙ sym (later page (j + 3) (omega arith) ∙ cond-true (nat_lt (j + 3) 11) _ _ (lt-ltb (j + 3) 11 (omega arith))))
    (λ (block : 8 ≤ j).
    let own : j - length rows ≡ j + 3 - 11 = omega (arith, length-level1_places page) in
    get_or-append_right rows bs j e (omega (arith, length-level1_places page)) ∙ ap (λ (n : ℕ). get_or bs n e) own ∙ block_row page (j + 3 - 11) e (omega arith)
    ∙ sym (later page (j + 3) (omega arith) ∙ cond-false (nat_lt (j + 3) 11) _ _ (le-ltb (j + 3) 11 (omega arith))))
    (cases_lt j 8)

pub page_places-at : (page k : ℕ) (e : Place) → k < 75 → get_or (page_places page) k e ≡ page_place page k
page_places-at page zero e below = refl
page_places-at page (suc zero) e below = refl
page_places-at page (suc (suc zero)) e below = refl
page_places-at page (suc (suc (suc j))) e below =
    let same : j + 3 ≡ suc (suc (suc j)) = omega arith in
    below_level2 page j e (omega arith) ∙ ap (page_place page) same

-- a list with these places
pub page_places-from : (page : ℕ) (places : List Place) (e : Place) → length places ≡ 75 → ((k : ℕ) → k < 75 → get_or places k e ≡ page_place page k) → places ≡ page_places page
page_places-from page places e size each =
    same_lists places (page_places page) (size ∙ sym (length-page_places page))
    (λ k f h. let below : k < 75 = omega arith in get_or_default places k f e h ∙ each k below ∙ sym (page_places-at page k f below))
