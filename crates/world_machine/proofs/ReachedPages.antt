-- The page that an access reaches by a number's tables is the one that is located; where none is, there is none, or a shared page to break.
use Rattle.std.proofs.Common.{◌≡◌, ℕ, leb, Bool, true, false, cond, List, slice_get, Option, Some, None, refl, ap, ◌∙◌}
use Rattle.std.specs.Prelude.{option_and_then, option_map}
use Rattle.std.proofs.lemmas.Option.{slice_get-map}
use Rattle.pl_base.specs.Perms.{grants}
use Rattle.pl_base.specs.declared.access.Kind.{Kind}
use Rattle.pl_base.specs.declared.access.Kind.TheVariants as kind
use Rattle.pl_base.specs.declared.page.TheConstants.{IMAGE_START}
use Rattle.rv_alone.specs.Flat.{page_number}
use Rattle.mon_enclave.specs.declared.enclave.PageKind.{PageKind}
use Rattle.mon_enclave.specs.declared.enclave.PageKind.TheVariants.{Own, Shared}
use Rattle.mon_enclave.specs.Records.{page_number_of}
use Rattle.mon_image.specs.declared.page.ImagePage.{ImagePage}
use Rattle.world_machine.specs.Pages.{numbers_of, page_for, reached, served, shared_place, to_break}
use Rattle.world_machine.proofs.FlatPages.{located}

-- by the test of the address, the image's page and the record's at its place
abbrev located_by : Kind → Bool → Option ImagePage → Option PageKind → Option ℕ
located_by k t page held = cond t (page_for k page (option_map page_number_of held)) None

abbrev reached_by : Kind → Bool → Option ImagePage → Option PageKind → Option ℕ
reached_by k t page held = cond t (page_for k page (option_and_then (served k) held)) None

abbrev breaks_by : Kind → ℕ → Bool → Option ImagePage → Option PageKind → Option ℕ
breaks_by k place t page held = cond t (page_for k page (option_and_then (λ p. shared_place k p place) held)) None

located_is : (k : Kind) (image : List ImagePage) (kinds : List PageKind) (address : ℕ)
    → located k image (numbers_of kinds) address ≡ located_by k (leb IMAGE_START address) (slice_get image (page_number address)) (slice_get kinds (page_number address))
located_is k image kinds address =
    ap (λ number. cond (leb IMAGE_START address) (page_for k (slice_get image (page_number address)) number) None) (slice_get-map page_number_of kinds (page_number address))

-- nothing passes where there is nothing
nothing_passes : (g : Bool) (x : ℕ) → cond {A = Option ℕ} g None None ≡ Some x → ⊥
nothing_passes true x is = cc
nothing_passes false x is = cc

-- ---- a page is reached

reached_located_by : (k : Kind) (t : Bool) (page : Option ImagePage) (held : Option PageKind) (x : ℕ) → reached_by k t page held ≡ Some x → located_by k t page held ≡ Some x
reached_located_by k false page held x is = is
reached_located_by k true None held x is = is
reached_located_by k true (Some page) None x is = is
reached_located_by kind.Fetch true (Some page) (Some (Own p)) x is = is
reached_located_by kind.Load true (Some page) (Some (Own p)) x is = is
reached_located_by kind.Store true (Some page) (Some (Own p)) x is = is
reached_located_by kind.Fetch true (Some page) (Some (Shared p)) x is = is
reached_located_by kind.Load true (Some page) (Some (Shared p)) x is = is
reached_located_by kind.Store true (Some page) (Some (Shared p)) x is = absurd (nothing_passes (grants page.perms kind.Store) x is)

pub reached_located : (k : Kind) (image : List ImagePage) (kinds : List PageKind) (address page : ℕ) → reached k image kinds address ≡ Some page → located k image (numbers_of kinds) address ≡ Some page
reached_located k image kinds address page is =
    located_is k image kinds address
    ∙ reached_located_by k (leb IMAGE_START address) (slice_get image (page_number address)) (slice_get kinds (page_number address)) page is

own_passes : (g : Bool) (p x : ℕ) → cond g (Some p) None ≡ Some x → Some (Own p) ≡ Some (Own x)
own_passes true p x is = (let same : p ≡ x = cc in ap (λ n. Some (Own n)) same)
own_passes false p x is = cc

reached_own_by : (t : Bool) (page : Option ImagePage) (held : Option PageKind) (x : ℕ) → reached_by kind.Store t page held ≡ Some x → held ≡ Some (Own x)
reached_own_by false page held x is = cc
reached_own_by true None held x is = cc
reached_own_by true (Some page) None x is = absurd (nothing_passes (grants page.perms kind.Store) x is)
reached_own_by true (Some page) (Some (Own p)) x is = own_passes (grants page.perms kind.Store) p x is
reached_own_by true (Some page) (Some (Shared p)) x is = absurd (nothing_passes (grants page.perms kind.Store) x is)

-- a page that serves a store is the number's own
pub reached_own : (image : List ImagePage) (kinds : List PageKind) (address page : ℕ) → reached kind.Store image kinds address ≡ Some page → slice_get kinds (page_number address) ≡ Some (Own page)
reached_own image kinds address page is =
    reached_own_by (leb IMAGE_START address) (slice_get image (page_number address)) (slice_get kinds (page_number address)) page is

-- ---- none is

none_passes : (g : Bool) (place p : ℕ) → cond g (Some place) None ≡ None → cond g (Some p) None ≡ None
none_passes true place p stays = cc
none_passes false place p stays = refl

none_located_by : (k : Kind) (place : ℕ) (t : Bool) (page : Option ImagePage) (held : Option PageKind) → reached_by k t page held ≡ None → breaks_by k place t page held ≡ None → located_by k t page held ≡ None
none_located_by k place false page held is stays = refl
none_located_by k place true None held is stays = refl
none_located_by k place true (Some page) None is stays = is
none_located_by kind.Fetch place true (Some page) (Some held) is stays = is
none_located_by kind.Load place true (Some page) (Some held) is stays = is
none_located_by kind.Store place true (Some page) (Some (Own p)) is stays = is
none_located_by kind.Store place true (Some page) (Some (Shared p)) is stays = none_passes (grants page.perms kind.Store) place p stays

pub none_located : (k : Kind) (image : List ImagePage) (kinds : List PageKind) (address : ℕ) → reached k image kinds address ≡ None → to_break k image kinds address ≡ None
    → located k image (numbers_of kinds) address ≡ None
none_located k image kinds address is stays =
    located_is k image kinds address
    ∙ none_located_by k (page_number address) (leb IMAGE_START address) (slice_get image (page_number address)) (slice_get kinds (page_number address)) is stays

-- a store to a shared page of the image that may be written
pub record IsToBreak (k : Kind) (image : List ImagePage) (kinds : List PageKind) (address index : ℕ) : Type 0 where
  pub store : k ≡ kind.Store
  pub place : index ≡ page_number address
  pub page : ℕ
  pub shared : slice_get kinds index ≡ Some (Shared page)
  pub image_page : ImagePage
  pub there : slice_get image index ≡ Some image_page
  pub granted : grants image_page.perms kind.Store ≡ true
  pub located_at : located kind.Store image (numbers_of kinds) address ≡ Some page

record BreaksBy (k : Kind) (place : ℕ) (t : Bool) (page : Option ImagePage) (held : Option PageKind) (index : ℕ) : Type 0 where
  pub store : k ≡ kind.Store
  pub place_is : index ≡ place
  pub shared : ℕ
  pub is : held ≡ Some (Shared shared)
  pub image_page : ImagePage
  pub there : page ≡ Some image_page
  pub granted : grants image_page.perms kind.Store ≡ true
  pub located_at : located_by kind.Store t page held ≡ Some shared

passes_so : (g : Bool) (place index : ℕ) (page : ImagePage) (p : ℕ) → grants page.perms kind.Store ≡ g → cond g (Some place) None ≡ Some index
    → BreaksBy kind.Store place true (Some page) (Some (Shared p)) index
passes_so true place index page p granted is = record {
  store = refl;
  place_is = (let same : index ≡ place = cc in same);
  shared = p;
  is = refl;
  image_page = page;
  there = refl;
  granted = granted;
  located_at = ap (λ g. cond g (Some p) None) granted;
}
passes_so false place index page p granted is = cc

breaks_so : (k : Kind) (place : ℕ) (t : Bool) (page : Option ImagePage) (held : Option PageKind) (index : ℕ) → breaks_by k place t page held ≡ Some index → BreaksBy k place t page held index
breaks_so k place false page held index is = cc
breaks_so k place true None held index is = cc
breaks_so k place true (Some page) None index is = absurd (nothing_passes (grants page.perms k) index is)
breaks_so kind.Fetch place true (Some page) (Some held) index is = absurd (nothing_passes (grants page.perms kind.Fetch) index is)
breaks_so kind.Load place true (Some page) (Some held) index is = absurd (nothing_passes (grants page.perms kind.Load) index is)
breaks_so kind.Store place true (Some page) (Some (Own p)) index is = absurd (nothing_passes (grants page.perms kind.Store) index is)
breaks_so kind.Store place true (Some page) (Some (Shared p)) index is = passes_so (grants page.perms kind.Store) place index page p refl is

pub breaks_at : (k : Kind) (image : List ImagePage) (kinds : List PageKind) (address index : ℕ) → to_break k image kinds address ≡ Some index → IsToBreak k image kinds address index
breaks_at k image kinds address index is =
    let so = breaks_so k (page_number address) (leb IMAGE_START address) (slice_get image (page_number address)) (slice_get kinds (page_number address)) index is in
    record {
      store = so.store;
      place = so.place_is;
      page = so.shared;
      shared = ap (slice_get kinds) so.place_is ∙ so.is;
      image_page = so.image_page;
      there = ap (slice_get image) so.place_is ∙ so.there;
      granted = so.granted;
      located_at = located_is kind.Store image kinds address ∙ so.located_at;
    }
