-- A page that is broken: the record has its own page there with the same bytes, its leaf is another, and no other mapping changes.
use Rattle.std.proofs.Common.{◌≡◌, ◌≢◌, ℕ, zero, suc, ◌+◌, eqb, false, List, [], ◌∷◌, map, slice_get, Option, Some, refl, sym, ap, ◌∙◌, arith}
use Rattle.std.specs.Prelude.{slice_set, zip, if◌then◌else◌}
use Rattle.std.specs.List.{AllByRecursion}
use Rattle.std.proofs.lemmas.Bool.{ne_eqb}
use Rattle.mon_enclave.specs.declared.enclave.PageKind.{PageKind}
use Rattle.mon_enclave.specs.declared.enclave.PageKind.TheVariants.{Own}
use Rattle.mon_enclave.specs.Records.{page_number_of}
use Rattle.mon_image.specs.declared.page.ImagePage.{ImagePage}
use Rattle.mon_life.specs.Pages.{leaf_for, leaves_of}
use Rattle.mon_tables.specs.declared.number_tables.Leaf.{Leaf}
use Rattle.mon_tables.specs.Space.{Mapping, mapping_at}
use Rattle.mon_tables.specs.SpaceWalks.{leaf_mappings}
use Rattle.world_machine.specs.Pages.{flat_pages, numbers_of}
use Rattle.world_machine.proofs.Frames.{flat_pages-same}

-- ---- the bytes

-- the pages as the flat machine has them stay, where the new page has the bytes of the old one, and all pages of the record theirs
pub flat_pages-broke : (before after : ℕ → List ℕ) (image : List ImagePage) (kinds : List PageKind) (index page spare : ℕ)
    → slice_get (numbers_of kinds) index ≡ Some page → after spare ≡ before page → AllByRecursion (λ p. after p ≡ before p) (numbers_of kinds)
    → flat_pages after image (numbers_of (slice_set kinds index (Own spare))) ≡ flat_pages before image (numbers_of kinds)
flat_pages-broke before after [] kinds index page spare here copied same = refl
flat_pages-broke before after (x ∷ image) [] index page spare here copied same = refl
flat_pages-broke before after (x ∷ image) (kind ∷ kinds) zero page spare here copied same =
    let old : page_number_of kind ≡ page = (let h : Some (page_number_of kind) ≡ Some page = here in cc) in
    λ i. record { perms = x.perms; bytes = (copied ∙ ap before (sym old)) i } ∷ flat_pages-same before after image (numbers_of kinds) same.1 i
flat_pages-broke before after (x ∷ image) (kind ∷ kinds) (suc index) page spare here copied same =
    λ i. record { perms = x.perms; bytes = same.0 i } ∷ flat_pages-broke before after image kinds index page spare here copied same.1 i

-- ---- the leaves

abbrev leaf_of_pair : PageKind × ImagePage → Leaf
leaf_of_pair p = leaf_for p.0 p.1.perms

pairs_set : (kinds : List PageKind) (image : List ImagePage) (index spare : ℕ) (page : ImagePage) → slice_get image index ≡ Some page
    → map leaf_of_pair (zip (slice_set kinds index (Own spare)) image) ≡ slice_set (map leaf_of_pair (zip kinds image)) index (record { page = spare; perms = page.perms })
pairs_set [] image index spare page there = refl
pairs_set (kind ∷ kinds) [] index spare page there = cc
pairs_set (kind ∷ kinds) (x ∷ image) zero spare page there =
    let same : x ≡ page = (let h : Some x ≡ Some page = there in cc) in
    ap (λ (p : ImagePage). record { page = spare; perms = p.perms } ∷ map leaf_of_pair (zip kinds image)) same
pairs_set (kind ∷ kinds) (x ∷ image) (suc index) spare page there = ap (λ leaves. leaf_of_pair (kind, x) ∷ leaves) (pairs_set kinds image index spare page there)

-- the leaves of the record with the new page: one is another
pub leaves_set : (kinds : List PageKind) (image : List ImagePage) (index spare : ℕ) (page : ImagePage) → slice_get image index ≡ Some page
    → leaves_of (slice_set kinds index (Own spare)) image ≡ slice_set (leaves_of kinds image) index (record { page = spare; perms = page.perms })
unfolding leaves_of
leaves_set kinds image index spare page there = pairs_set kinds image index spare page there

-- ---- the space

-- no other mapping changes
pub mapping_other : (leaves : List Leaf) (leaf : Leaf) (vpn index v : ℕ) → v ≢ vpn + index
    → mapping_at (leaf_mappings vpn (slice_set leaves index leaf)) v ≡ mapping_at (leaf_mappings vpn leaves) v
mapping_other [] leaf vpn index v other = refl
mapping_other (x ∷ leaves) leaf vpn zero v other =
    let differs : eqb vpn v ≡ false = ne_eqb vpn v (λ same. other (let h : vpn ≡ v = same in omega arith)) in
    rw differs refl
mapping_other (x ∷ leaves) leaf vpn (suc index) v other =
    let rest = mapping_other leaves leaf (vpn + 1) index v (λ same. other (let h : v ≡ vpn + 1 + index = same in omega arith)) in
    ap (λ (o : Option Mapping). if eqb vpn v then Some (record { vpn = vpn; page = x.page; perms = x.perms }) else o) rest
