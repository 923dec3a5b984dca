-- Accesses to an enclave's pages, by the page of its record that is located, are those of the flat machine.
use Rattle.std.proofs.Common.{◌≡◌, ◌≢◌, ℕ, zero, suc, ◌%◌, Bool, true, false, cond, leb, nat_le, if◌then◌else◌, List, [], ◌∷◌, set, Option, Some, None, option_and_then, slice_get, refl, ap, sym, ◌∙◌, arith, inl, inr}
use Rattle.std.specs.Option.{option_map}
use Rattle.std.specs.Prelude.{Contains}
use Rattle.std.specs.List.{All}
use Rattle.std.proofs.lemmas.Bool.{cases_Bool}
use Rattle.std.proofs.lemmas.List.Elements.{All-contains}
use Rattle.std.proofs.lemmas.Option.{slice_get_within, get_or_from_slice_get}
use Rattle.byteorder.specs.Endian.{little_number, little_bytes}
use Rattle.pl_base.specs.declared.access.Kind.{Kind}
use Rattle.pl_base.specs.declared.access.Kind.TheVariants as kind
use Rattle.pl_base.specs.declared.page.TheConstants.{IMAGE_START}
use Rattle.pl_base.specs.Bytes.{bytes_at, with_bytes}
use Rattle.pl_base.specs.Pages.{first_twice}
use Rattle.pl_base.specs.Perms.{grants}
use Rattle.mon_image.specs.declared.page.ImagePage.{ImagePage}
use Rattle.rv_alone.specs.Flat.{Page, page_number, number_in, page_with_number, permitted, fetched, read, stored}
use Rattle.world_machine.specs.Pages.{flat_pages, page_for}
use Rattle.pl_base.proofs.DistinctPages.{stands_once}

-- the page that an access goes to, by the numbers of the pages
abbrev pub located : Kind → List ImagePage → List ℕ → ℕ → Option ℕ
located kind image numbers address =
    if nat_le IMAGE_START address then page_for kind (slice_get image (page_number address)) (slice_get numbers (page_number address)) else None

-- a page of the image with its bytes
abbrev pub joined : (ℕ → List ℕ) → Option ImagePage → Option ℕ → Option Page
joined bytes_of None number = None
joined bytes_of (Some page) None = None
joined bytes_of (Some page) (Some number) = Some (record { perms = page.perms; bytes = bytes_of number })

no_number : (bytes_of : ℕ → List ℕ) (page : Option ImagePage) → joined bytes_of page None ≡ None
no_number bytes_of None = refl
no_number bytes_of (Some page) = refl

pub page_joined : (bytes_of : ℕ → List ℕ) (image : List ImagePage) (numbers : List ℕ) (i : ℕ) → slice_get (flat_pages bytes_of image numbers) i ≡ joined bytes_of (slice_get image i) (slice_get numbers i)
page_joined bytes_of [] numbers i = refl
page_joined bytes_of (page ∷ image) [] i = sym (no_number bytes_of (slice_get (page ∷ image) i))
page_joined bytes_of (page ∷ image) (number ∷ numbers) zero = refl
page_joined bytes_of (page ∷ image) (number ∷ numbers) (suc i) = page_joined bytes_of image numbers i

-- what is read through permissions
reads : (bytes_of : ℕ → List ℕ) (k : Kind) (width address : ℕ) (t : Bool) (page : Option ImagePage) (number : Option ℕ)
    → option_map (number_in width address) (option_and_then (λ (p : Page). cond (grants p.perms k) (Some p) None) (cond t (joined bytes_of page number) None))
    ≡ option_map (λ n. little_number width (bytes_at (bytes_of n) (address % 4096) width)) (cond t (page_for k page number) None)
reads bytes_of k width address false page number = refl
reads bytes_of k width address true None number = refl
reads bytes_of k width address true (Some page) None = elim (grants page.perms k) as (λ g. None ≡ option_map (λ n. little_number width (bytes_at (bytes_of n) (address % 4096) width)) (cond g None None)) [ true ↦ refl | false ↦ refl ]
reads bytes_of k width address true (Some page) (Some number) =
    elim (grants page.perms k) as (λ g. option_map (number_in width address) (cond g (Some (record { perms = page.perms; bytes = bytes_of number })) None)
    ≡ option_map (λ n. little_number width (bytes_at (bytes_of n) (address % 4096) width)) (cond g (Some number) None)) [ true ↦ refl | false ↦ refl ]

-- an access of any kind reads the number in the bytes of the page that is located
pub reads_located : (bytes_of : ℕ → List ℕ) (image : List ImagePage) (numbers : List ℕ) (k : Kind) (width address : ℕ)
    → option_map (number_in width address) (permitted k (flat_pages bytes_of image numbers) address)
    ≡ option_map (λ n. little_number width (bytes_at (bytes_of n) (address % 4096) width)) (located k image numbers address)
reads_located bytes_of image numbers k width address =
    ap (λ p. option_map (number_in width address) (option_and_then (λ (page : Page). cond (grants page.perms k) (Some page) None) (cond (leb IMAGE_START address) p None)))
    (page_joined bytes_of image numbers (page_number address))
    ∙ reads bytes_of k width address (leb IMAGE_START address) (slice_get image (page_number address)) (slice_get numbers (page_number address))

-- what a fetch and a load read
pub fetched_located : (bytes_of : ℕ → List ℕ) (image : List ImagePage) (numbers : List ℕ) (pc : ℕ) (page : Option ℕ) → located kind.Fetch image numbers pc ≡ page
    → fetched (flat_pages bytes_of image numbers) pc ≡ option_map (λ n. little_number 4 (bytes_at (bytes_of n) (pc % 4096) 4)) page
fetched_located bytes_of image numbers pc page is =
    reads_located bytes_of image numbers kind.Fetch 4 pc ∙ ap (option_map (λ n. little_number 4 (bytes_at (bytes_of n) (pc % 4096) 4))) is

pub read_located : (bytes_of : ℕ → List ℕ) (image : List ImagePage) (numbers : List ℕ) (address width : ℕ) (page : Option ℕ) → located kind.Load image numbers address ≡ page
    → read (flat_pages bytes_of image numbers) address width ≡ option_map (λ n. little_number width (bytes_at (bytes_of n) (address % 4096) width)) page
read_located bytes_of image numbers address width page is =
    reads_located bytes_of image numbers kind.Load width address ∙ ap (option_map (λ n. little_number width (bytes_at (bytes_of n) (address % 4096) width))) is

-- ---- the page of an access

pub located_at : (k : Kind) (t : Bool) (page : Option ImagePage) (number : Option ℕ) (n : ℕ) → cond t (page_for k page number) None ≡ Some n
    → (number ≡ Some n) × ((p : ImagePage) × (page ≡ Some p) × (grants p.perms k ≡ true)) × (t ≡ true)
located_at k false page number n is = cc
located_at k true None number n is = cc
located_at k true (Some page) number n is = elim (cases_Bool (grants page.perms k)) [
  | inl may ↦ (rw may at is, (page, refl, may), refl)
  | inr may_not ↦ (let h : None ≡ Some n = rw may_not at is in cc)
]

-- it stands in the record at its place in the image
pub located_place : (k : Kind) (image : List ImagePage) (numbers : List ℕ) (address page : ℕ) → located k image numbers address ≡ Some page → slice_get numbers (page_number address) ≡ Some page
located_place k image numbers address page is =
    (located_at k (leb IMAGE_START address) (slice_get image (page_number address)) (slice_get numbers (page_number address)) page is).0

-- it is one of the record's pages
pub located_among : (k : Kind) (image : List ImagePage) (numbers : List ℕ) (address page : ℕ) → located k image numbers address ≡ Some page → Contains numbers page
located_among k image numbers address page is =
    let here = located_place k image numbers address page is in
    (page_number address, slice_get_within numbers (page_number address) page here, get_or_from_slice_get numbers (page_number address) page page here)

-- what holds of each of the record's pages holds of it
pub located_each : (P : ℕ → Type 0) (k : Kind) (image : List ImagePage) (numbers : List ℕ) (address page : ℕ) → located k image numbers address ≡ Some page → All P numbers → P page
located_each P k image numbers address page is each = All-contains P numbers page each (located_among k image numbers address page is)

-- ---- the bytes of the listed pages alone count

pages_same : (old new : ℕ → List ℕ) (image : List ImagePage) (numbers : List ℕ) → ((i page : ℕ) → slice_get numbers i ≡ Some page → new page ≡ old page)
    → flat_pages new image numbers ≡ flat_pages old image numbers
pages_same old new [] numbers same = refl
pages_same old new (page ∷ image) [] same = refl
pages_same old new (page ∷ image) (number ∷ numbers) same =
    ap (λ b. record { perms = page.perms; bytes = b } ∷ flat_pages new image numbers) (same 0 number refl)
    ∙ ap (λ ps. record { perms = page.perms; bytes = old number } ∷ ps) (pages_same old new image numbers (λ i. same (suc i)))

-- ---- a store changes one page

-- the page at one place alone has other bytes
page_changed : (old new : ℕ → List ℕ) (image : List ImagePage) (numbers : List ℕ) (i number : ℕ) (page : ImagePage)
    → slice_get image i ≡ Some page → slice_get numbers i ≡ Some number → ((j other : ℕ) → slice_get numbers j ≡ Some other → j ≢ i → new other ≡ old other)
    → set (flat_pages old image numbers) i (record { perms = page.perms; bytes = new number }) ≡ flat_pages new image numbers
page_changed old new [] numbers i number page is_page is_number others = cc
page_changed old new (p ∷ image) [] i number page is_page is_number others = cc
page_changed old new (p ∷ image) (n ∷ numbers) zero number page is_page is_number others =
    let p_is : p ≡ page = cc in
    let n_is : n ≡ number = cc in
    let rest : flat_pages new image numbers ≡ flat_pages old image numbers = pages_same old new image numbers (λ j other is_other. others (suc j) other is_other (λ e. absurd (omega (arith, e)))) in
    ap (λ (x : ImagePage). record { perms = x.perms; bytes = new number } ∷ flat_pages old image numbers) (sym p_is)
    ∙ ap (λ m. record { perms = p.perms; bytes = new m } ∷ flat_pages old image numbers) (sym n_is)
    ∙ ap (λ ps. record { perms = p.perms; bytes = new n } ∷ ps) (sym rest)
page_changed old new (p ∷ image) (n ∷ numbers) (suc i) number page is_page is_number others =
    ap (λ b. record { perms = p.perms; bytes = b } ∷ set (flat_pages old image numbers) i (record { perms = page.perms; bytes = new number })) (sym (others 0 n refl (λ e. absurd (omega (arith, e)))))
    ∙ ap (λ ps. record { perms = p.perms; bytes = new n } ∷ ps)
    (page_changed old new image numbers i number page is_page is_number (λ j other is_other differ. others (suc j) other is_other (λ e. differ (omega (arith, e)))))

-- where no page lets it through, nothing is stored
pub stored_none : (bytes_of : ℕ → List ℕ) (image : List ImagePage) (numbers : List ℕ) (address width value : ℕ) → located kind.Store image numbers address ≡ None
    → stored (flat_pages bytes_of image numbers) address width value ≡ None
stored_none bytes_of image numbers address width value is = nothing (permitted kind.Store (flat_pages bytes_of image numbers) address) (reads_located bytes_of image numbers kind.Store width address ∙ ap (option_map (λ n. little_number width (bytes_at (bytes_of n) (address % 4096) width))) is)
  where
    nothing : (o : Option Page) → option_map (number_in width address) o ≡ None → option_map (λ (p : Page). set (flat_pages bytes_of image numbers) (page_number address) (page_with_number width address value p)) o ≡ None
    nothing None e = refl
    nothing (Some p) e = cc

-- else the page that is located has other bytes, and no other page of the record
pub record StoresInto (old new : ℕ → List ℕ) (numbers : List ℕ) (page address width value : ℕ) : Type 0 where
  pub here : new page ≡ with_bytes (old page) (address % 4096) (little_bytes width value)
  pub others : (other : ℕ) → Contains numbers other → other ≢ page → new other ≡ old other

stored_by : (old : ℕ → List ℕ) (image : List ImagePage) (numbers : List ℕ) (address width value number : ℕ) (page : ImagePage)
    → slice_get image (page_number address) ≡ Some page → slice_get numbers (page_number address) ≡ Some number → leb IMAGE_START address ≡ true → grants page.perms kind.Store ≡ true
    → stored (flat_pages old image numbers) address width value
    ≡ Some (set (flat_pages old image numbers) (page_number address) (record { perms = page.perms; bytes = with_bytes (old number) (address % 4096) (little_bytes width value) }))
stored_by old image numbers address width value number page is_page is_number above may =
    let stores : (x : Option Page) → Option (List Page)
    = λ x. option_map (λ (q : Page). set (flat_pages old image numbers) (page_number address) (page_with_number width address value q)) x in
    let through : (x : Option Page) → Option Page = λ x. option_and_then (λ (q : Page). cond (grants q.perms kind.Store) (Some q) None) x in
    ap (λ o. stores (through (cond (leb IMAGE_START address) o None))) (page_joined old image numbers (page_number address))
    ∙ ap (λ t. stores (through (cond t (joined old (slice_get image (page_number address)) (slice_get numbers (page_number address))) None))) above
    ∙ ap (λ o. stores (through (joined old o (slice_get numbers (page_number address))))) is_page
    ∙ ap (λ o. stores (through (joined old (Some page) o))) is_number
    ∙ ap (λ t. stores (cond t (Some (record { perms = page.perms; bytes = old number })) None)) may

pub stored_located : (old new : ℕ → List ℕ) (image : List ImagePage) (numbers : List ℕ) (address width value page : ℕ) → located kind.Store image numbers address ≡ Some page
    → first_twice numbers ≡ None → StoresInto old new numbers page address width value → stored (flat_pages old image numbers) address width value ≡ Some (flat_pages new image numbers)
stored_located old new image numbers address width value page is apart stores =
    let at = located_at kind.Store (leb IMAGE_START address) (slice_get image (page_number address)) (slice_get numbers (page_number address)) page is in
    stored_by old image numbers address width value page at.1.0 at.1.1 at.0 at.2 at.1.2
    ∙ ap (λ b. Some (set (flat_pages old image numbers) (page_number address) (record { perms = at.1.0.perms; bytes = b }))) (sym stores.here)
    ∙ ap Some (page_changed old new image numbers (page_number address) page at.1.0 at.1.1 at.0
    (λ j other is_other differ. stores.others other (j, slice_get_within numbers j other is_other, get_or_from_slice_get numbers j other other is_other)
    (λ same. differ (stands_once numbers apart j (page_number address) page (is_other ∙ ap Some same) at.0))))
