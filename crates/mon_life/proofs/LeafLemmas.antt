-- The leaves of a number, one after another.
use Rattle.std.proofs.Common.{ℕ, ◌≡◌, ◌+◌, ◌<◌, ◌≤◌, List, [], ◌∷◌, ◌++◌, length, get_or, map, take, ◌==◌, ◌||◌, ◌⊎◌, inl, inr, IsTrue, All, refl, ap, subst, sym, ◌∙◌, arith}
use Rattle.std.specs.Int.RustNames.{bit_and}
use Rattle.std.proofs.lemmas.Bool.Decides.{nat_tests}
use Rattle.std.proofs.lemmas.List.Elements.{All-cons, All-from_recursion, All-tail}
use Rattle.std.specs.List.{zip}
use Rattle.std.proofs.lemmas.List.{map_more, take_all}
use Rattle.std.proofs.lemmas.Slice.Zip.{get_or-zip, length-zip}
use Rattle.mon_enclave.specs.declared.enclave.PageKind.{PageKind}
use Rattle.mon_enclave.specs.declared.enclave.PageKind.TheVariants.{Own, Shared}
use Rattle.mon_image.specs.declared.page.ImagePage.{ImagePage}
use Rattle.mon_tables.specs.declared.number_tables.Leaf.{Leaf}
use Rattle.mon_life.specs.Pages.{leaf_for, leaves_of}
use Rattle.pl_base.specs.declared.perms.Perms.{Perms}
use Rattle.pl_base.specs.Perms.{are_page_perms}

abbrev pub pair_leaf : PageKind × ImagePage → Leaf
pair_leaf p = leaf_for p.0 p.1.perms

pub leaf_more : (kinds : List PageKind) (image : List ImagePage) (i : ℕ) (kind : PageKind) (page : ImagePage) → length kinds ≡ length image → i < length kinds
    → map pair_leaf (take i (zip kinds image)) ++ leaf_for (get_or kinds i kind) (get_or image i page).perms ∷ [] ≡ map pair_leaf (take (i + 1) (zip kinds image))
leaf_more kinds image i kind page count within =
    let long : i < length (zip kinds image) = omega (arith, length-zip kinds image) in
    let in_image : i < length image = omega arith in
    let at = get_or-zip kinds image i (kind, page) within in_image in
    let more = map_more pair_leaf (zip kinds image) i (kind, page) long in
    sym (more ∙ ap (λ (p : PageKind × ImagePage). map pair_leaf (take i (zip kinds image)) ++ pair_leaf p ∷ []) at)

pub leaves_whole : (kinds : List PageKind) (image : List ImagePage) (i : ℕ) → length kinds ≤ i → map pair_leaf (take i (zip kinds image)) ≡ leaves_of kinds image
unfolding leaves_of
leaves_whole kinds image i whole =
    let short : length (zip kinds image) ≤ i = omega (arith, length-zip kinds image) in
    ap (map pair_leaf) (take_all i (zip kinds image) short)

-- ---- their permissions

-- `r`, `rw`, `rx` or `rwx`
pub four_perms : (n : ℕ) → IsTrue (n == 1 || (n == 3 || (n == 5 || n == 7))) → (n ≡ 1) ⊎ ((n ≡ 3) ⊎ ((n ≡ 5) ⊎ (n ≡ 7)))
four_perms n fits = grind (arith, nat_tests)

-- stay one of these without W
unwritten : (n : ℕ) → (n ≡ 1) ⊎ ((n ≡ 3) ⊎ ((n ≡ 5) ⊎ (n ≡ 7))) → IsTrue (are_page_perms (record { 0 = bit_and n 5 }))
unwritten n (inl one) = let P : ℕ → Type 0 = λ m. IsTrue (are_page_perms (record { 0 = bit_and m 5 })) in subst P (sym one) refl
unwritten n (inr (inl three)) = let P : ℕ → Type 0 = λ m. IsTrue (are_page_perms (record { 0 = bit_and m 5 })) in subst P (sym three) refl
unwritten n (inr (inr (inl five))) = let P : ℕ → Type 0 = λ m. IsTrue (are_page_perms (record { 0 = bit_and m 5 })) in subst P (sym five) refl
unwritten n (inr (inr (inr seven))) = let P : ℕ → Type 0 = λ m. IsTrue (are_page_perms (record { 0 = bit_and m 5 })) in subst P (sym seven) refl

pub leaf_perms : (kind : PageKind) (perms : Perms) → IsTrue (are_page_perms perms) → IsTrue (are_page_perms (leaf_for kind perms).perms)
leaf_perms (Own page) perms fits = fits
leaf_perms (Shared page) perms fits = unwritten perms.0 (four_perms perms.0 fits)

pairs_perms : (kinds : List PageKind) (image : List ImagePage) → All (λ (page : ImagePage). IsTrue (are_page_perms page.perms)) image
    → All (λ (leaf : Leaf). IsTrue (are_page_perms leaf.perms)) (map pair_leaf (zip kinds image))
pairs_perms [] image fit = All-from_recursion (λ (leaf : Leaf). IsTrue (are_page_perms leaf.perms)) [] tt
pairs_perms (kind ∷ kinds) [] fit = All-from_recursion (λ (leaf : Leaf). IsTrue (are_page_perms leaf.perms)) [] tt
pairs_perms (kind ∷ kinds) (page ∷ pages) fit =
    All-cons (λ (leaf : Leaf). IsTrue (are_page_perms leaf.perms)) (leaf_for kind page.perms) (map pair_leaf (zip kinds pages))
    (leaf_perms kind page.perms (fit 0 page (omega arith)))
    (pairs_perms kinds pages (All-tail (λ (p : ImagePage). IsTrue (are_page_perms p.perms)) page pages fit))

-- where those of the image are
pub leaves_perms : (kinds : List PageKind) (image : List ImagePage) → All (λ (page : ImagePage). IsTrue (are_page_perms page.perms)) image
    → All (λ (leaf : Leaf). IsTrue (are_page_perms leaf.perms)) (leaves_of kinds image)
unfolding leaves_of
leaves_perms kinds image fit = pairs_perms kinds image fit
