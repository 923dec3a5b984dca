-- The pages of an enclave: the page of its record that an access goes to, and the parts of words.
use Rattle.std.specs.Prelude.{ℕ, ◌*◌, ◌/◌, ◌%◌, ◌^◌, nat_le, if◌then◌else◌, List, [], ◌∷◌, map, slice_get, Option, Some, None, option_and_then}
use Rattle.pl_base.specs.declared.access.Kind.{Kind}
use Rattle.pl_base.specs.declared.access.Kind.TheVariants.{Fetch, Load, Store}
use Rattle.pl_base.specs.declared.page.TheConstants.{IMAGE_START}
use Rattle.pl_base.specs.Perms.{grants}
use Rattle.mon_enclave.specs.declared.enclave.PageKind.{PageKind}
use Rattle.mon_enclave.specs.declared.enclave.PageKind.TheVariants.{Shared}
use Rattle.mon_enclave.specs.Records.{page_number_of}
use Rattle.mon_image.specs.declared.page.ImagePage.{ImagePage}
use Rattle.rv_alone.specs.Flat.{Page, page_number}

-- the numbers of an enclave's pages
abbrev pub numbers_of : List PageKind → List ℕ
numbers_of = map page_number_of

-- the pages of an image as the flat machine has them, whose bytes are those of pages with these numbers
abbrev pub flat_pages : (ℕ → List ℕ) → List ImagePage → List ℕ → List Page
flat_pages bytes_of [] numbers = []
flat_pages bytes_of (page ∷ image) [] = []
flat_pages bytes_of (page ∷ image) (number ∷ numbers) = record { perms = page.perms; bytes = bytes_of number } ∷ flat_pages bytes_of image numbers

-- the page with a page of the image, where that lets an access of a kind through
abbrev pub page_for : Kind → Option ImagePage → Option ℕ → Option ℕ
page_for kind None number = None
page_for kind (Some page) number = if grants page.perms kind then number else None

-- what an access finds at an address: by the page of a record and its place in the image, where the image's page there lets the access through
abbrev pub page_by : (PageKind → ℕ → Option ℕ) → Kind → List ImagePage → List PageKind → ℕ → Option ℕ
page_by found kind image kinds address =
    let place : ℕ = page_number address in
    if nat_le IMAGE_START address then page_for kind (slice_get image place) (option_and_then (λ page. found page place) (slice_get kinds place)) else None

-- a page serves an access of a kind by the number's tables: one that is shared serves no store
abbrev pub served : Kind → PageKind → Option ℕ
served Store (Shared page) = None
served kind page = Some (page_number_of page)

-- the page that an access reaches by the number's tables
abbrev pub reached : Kind → List ImagePage → List PageKind → ℕ → Option ℕ
reached kind = page_by (λ page place. served kind page) kind

-- the place in the image of a page that an access would store to but for its being shared
abbrev pub shared_place : Kind → PageKind → ℕ → Option ℕ
shared_place Store (Shared page) place = Some place
shared_place kind page place = None

-- the place of the page that an access is to break
abbrev pub to_break : Kind → List ImagePage → List PageKind → ℕ → Option ℕ
to_break kind = page_by (shared_place kind) kind

-- the offset in its page of the eight bytes, at a multiple of 8, that hold a part at an address
abbrev pub word_offset : ℕ → ℕ
word_offset address = address % 4096 / 8 * 8

-- a part of so many bytes at an address, of the eight bytes that hold it (little-endian)
abbrev pub part_of_word : ℕ → ℕ → ℕ → ℕ
part_of_word word address width = word / 2 ^ (8 * (address % 8)) % 2 ^ (8 * width)

-- the cause of the trap where no page lets an access through (RISC-V Privileged Architecture, mcause: page faults)
abbrev pub fault_cause : Kind → ℕ
fault_cause Fetch = 12
fault_cause Load = 13
fault_cause Store = 15
