-- The mappings that the pages of a live number's record stand for are the number's space in the monitor, by the pages that it broke so far.
use Rattle.std.proofs.Common.{◌≡◌, ℕ, suc, ◌+◌, Bool, true, List, [], ◌∷◌, length, map, slice_get, unwrap_or, Option, Some, None, option_map, refl, sym, ap, ◌∙◌, arith}
use Rattle.std.specs.Prelude.{slice_index, zip, if◌then◌else◌}
use Rattle.std.specs.Option.{option_map_or}
use Rattle.std.proofs.lemmas.Option.{slice_get-map, unwrap_or-slice_get}
use Rattle.pl_base.specs.declared.perms.Perms.{Perms}
use Rattle.rv_alone.specs.Alone.{place_in}
use Rattle.rv_alone.specs.Flat.{Image as FlatImage}
use Rattle.mon_enclave.specs.declared.enclave.Enclave.{Enclave}
use Rattle.mon_enclave.specs.declared.enclave.PageKind.{PageKind}
use Rattle.mon_enclave.specs.declared.enclave.PageKind.TheVariants.{Own, Shared}
use Rattle.mon_image.specs.declared.image.Image.{Image}
use Rattle.mon_image.specs.declared.page.ImagePage.{ImagePage}
use Rattle.mon_life.specs.Pages.{leaf_for, leaves_of}
use Rattle.mon_owner.specs.declared.owners.Owner.{Owner}
use Rattle.mon_tables.specs.declared.number_tables.Leaf.{Leaf}
use Rattle.mon_tables.specs.Space.{Mapping, first_vpn}
use Rattle.mon_tables.specs.SpaceWalks.{leaf_mappings}
use Rattle.pl_history.specs.declared.setup.SetupParts.{SetupParts}
use Rattle.pl_history.specs.Monitor.{Number, flat_image, flat_page}
use Rattle.pl_history.specs.NumberSpace.{forked_mapping, image_mapping, mapping_of_page, mappings_from, mappings_of_number}
use Rattle.world_machine.specs.EnclavesAgree.{EnclaveStands}
use Rattle.world_machine.specs.PagesAgree.{PagesAre, forked_kind}
use Rattle.world_machine.specs.RecordsAgree.{RecordAgrees}
use Rattle.world_machine.specs.TranslationsAgree.{space_of}
use Rattle.world_machine.proofs.BrokenPages.{fork_page, whole_kinds}
use Rattle.world_machine.proofs.NumberSpaces.{image_is}

abbrev leaf_of_pair : PageKind × ImagePage → Leaf
leaf_of_pair p = leaf_for p.0 p.1.perms

leaves_are : (kinds : List PageKind) (image : List ImagePage) → leaves_of kinds image ≡ map leaf_of_pair (zip kinds image)
unfolding leaves_of
leaves_are kinds image = refl

-- the mapping that a page of a record stands for, at a place in the image
abbrev mapping_for : PageKind → ℕ → Perms → Mapping
mapping_for kind at perms = image_mapping at (leaf_for kind perms).page (leaf_for kind perms).perms

index_is : (xs : List ℕ) (i x : ℕ) → slice_get xs i ≡ Some x → slice_index xs i ≡ x
index_is xs i x is = sym (unwrap_or-slice_get xs i 0) ∙ ap (λ o. unwrap_or o 0) is

module _ (number_of : ℕ → Number) (n : Number) (broken : List ℕ) where
  -- where each page of a list stands for the number's mapping at its place, the whole list does
  leaves_from : (image : List ImagePage) (kinds : List PageKind) (at : ℕ) → length kinds ≡ length image
      → ((i place : ℕ) (kind : PageKind) (perms : Perms) → place ≡ at + i → slice_get kinds i ≡ Some kind
      → mapping_of_page number_of n broken n.parent place perms ≡ mapping_for kind place perms)
      → leaf_mappings (first_vpn + at) (map leaf_of_pair (zip kinds image)) ≡ mappings_from number_of n broken at (map flat_page image)
  leaves_from [] [] at count each = refl
  leaves_from [] (kind ∷ kinds) at count each = absurd (omega (arith, count))
  leaves_from (page ∷ image) [] at count each = absurd (omega (arith, count))
  leaves_from (page ∷ image) (kind ∷ kinds) at count each =
      let head : mapping_of_page number_of n broken n.parent at page.perms ≡ mapping_for kind at page.perms = each 0 at kind page.perms (omega arith) refl in
      let next : first_vpn + at + 1 ≡ first_vpn + (at + 1) = omega arith in
      let tail : leaf_mappings (first_vpn + (at + 1)) (map leaf_of_pair (zip kinds image)) ≡ mappings_from number_of n broken (at + 1) (map flat_page image)
      = leaves_from image kinds (at + 1) (omega (arith, count)) (λ i place other perms is there. each (suc i) place other perms (omega (arith, is)) there) in
      (λ i. sym head i ∷ leaf_mappings (next i) (map leaf_of_pair (zip kinds image)))
      ∙ ap (λ rest. mapping_of_page number_of n broken n.parent at page.perms ∷ rest) tail

  -- a page of the number's own, and one of a fork
  own_kind : (o : Option ℕ) (kind : PageKind) (at : ℕ) (perms : Perms) → option_map Own o ≡ Some kind → image_mapping at (unwrap_or o 0) perms ≡ mapping_for kind at perms
  own_kind None kind at perms is = cc
  own_kind (Some page) kind at perms is = ap (λ k. mapping_for k at perms) (let same : Own page ≡ kind = cc in same)

  fork_kind : (shared : List ℕ) (o place : Option ℕ) (kind : PageKind) (at : ℕ) (perms : Perms) → slice_get shared at ≡ o
      → option_map (λ page. forked_kind n.spares place page) o ≡ Some kind
      → forked_mapping n.spares shared place at perms ≡ mapping_for kind at perms
  fork_kind shared None place kind at perms there is = cc
  fork_kind shared (Some page) (Some k) kind at perms there is = ap (λ x. mapping_for x at perms) (let same : Own (slice_index n.spares k) ≡ kind = cc in same)
  fork_kind shared (Some page) None kind at perms there is =
      ap (λ p. mapping_for (Shared p) at perms) (index_is shared at page there) ∙ ap (λ x. mapping_for x at perms) (let same : Shared page ≡ kind = cc in same)

module _ (setup : SetupParts) (number_of : ℕ → Number) (r : Enclave) (n : Number) (k : PagesAre setup number_of r n) where
  -- each page of the record stands for the number's mapping at its place
  page_mapped : (i : ℕ) (kind : PageKind) (perms : Perms) → slice_get r.pages i ≡ Some kind → mapping_of_page number_of n k.broken n.parent i perms ≡ mapping_for kind i perms
  page_mapped i kind perms there = by_parent n.parent refl
    where
      by_parent : (o : Option ℕ) → n.parent ≡ o → mapping_of_page number_of n k.broken o i perms ≡ mapping_for kind i perms
      by_parent None whole =
          ap (λ p. image_mapping i p perms) (sym (unwrap_or-slice_get n.pages i 0))
          ∙ own_kind number_of n k.broken (slice_get n.pages i) kind i perms
          (sym (slice_get-map Own n.pages i) ∙ sym (ap (λ kinds. slice_get kinds i) (whole_kinds setup number_of r n k whole)) ∙ there)
      by_parent (Some shadow) forked =
          fork_kind number_of n k.broken (number_of shadow).pages (slice_get (number_of shadow).pages i) (place_in i k.broken) kind i perms refl
          (sym (fork_page setup number_of r n k shadow i forked) ∙ there)

  -- so the leaves of the record's pages give the number's mappings
  pub leaves_mapped : (image : List ImagePage) → length r.pages ≡ length image
      → leaf_mappings first_vpn (leaves_of r.pages image) ≡ mappings_from number_of n k.broken 0 (map flat_page image)
  leaves_mapped image count =
      ap (leaf_mappings first_vpn) (leaves_are r.pages image)
      ∙ leaves_from number_of n k.broken image r.pages 0 count
      (λ i place kind perms is there. page_mapped place kind perms (ap (slice_get r.pages) (let same : place ≡ i = omega (arith, is) in same) ∙ there))

-- the space of a live number
pub space_mapped : (setup : SetupParts) (bytes_of : ℕ → List ℕ) (owners : List Owner) (e : ℕ) (r : Enclave) (number_of : ℕ → Number) (n : Number)
    → EnclaveStands setup bytes_of owners e r n → RecordAgrees r n → (k : PagesAre setup number_of r n) → n.live ≡ true → space_of setup r ≡ mappings_of_number setup number_of n k.broken
space_mapped setup bytes_of owners e r number_of n stands agrees k live =
    ap (λ i. leaf_mappings first_vpn (leaves_of r.pages i)) (ap (λ (image : Image). image.pages) (image_is setup bytes_of owners e r n stands))
    ∙ leaves_mapped setup number_of r n k stands.image.pages stands.held.count
    ∙ sym (ap (λ (b : Bool). if b then of_image (slice_get setup.images n.image) else []) live ∙ ap of_image (ap (slice_get setup.images) agrees.image ∙ stands.image_is))
  where
    of_image : Option Image → List Mapping
    of_image o = option_map_or (λ (image : FlatImage). mappings_from number_of n k.broken 0 image.pages) (option_map flat_image o) []
