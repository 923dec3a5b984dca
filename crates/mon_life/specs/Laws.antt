-- When a number may be made, and what its pages and tables then come to; when it may be given back, and what that leaves.
use Rattle.std.specs.Prelude.{ℕ, ◌≡◌, ◌≢◌, ◌↔◌, ◌+◌, ◌-◌, ◌*◌, ◌/◌, ◌%◌, ◌<◌, ◌≤◌, true, false, IsTrue, List, length, map, All, slice_get, Option, Some, None}
use Rattle.byteorder.specs.Endian.{little_number}
use Rattle.pl_base.specs.Bytes.{bytes_at, zero_page}
use Rattle.pl_base.specs.HartSet.{space_of_number}
use Rattle.pl_base.specs.Pages.{first_twice, is_among}
use Rattle.pl_base.specs.Perms.{are_page_perms}
use Rattle.pl_base.specs.States.{is_absent, is_free, is_under_way}
use Rattle.pl_base.specs.declared.access.Mode.TheVariants.{User}
use Rattle.pl_base.specs.declared.address.Vpn.{Vpn}
use Rattle.pl_base.specs.declared.number.EncNo.{EncNo}
use Rattle.pl_base.specs.declared.state.State.TheVariants.{Dying}
use Rattle.mem_geom.specs.Parts.{page_bytes}
use Rattle.mem_ctl.specs.Data.{CtlData, with_off_chip}
use Rattle.mem_ctl.specs.TreesHold.{IsKept}
use Rattle.mon_fence.specs.declared.fences.Fence.{Fence}
use Rattle.mon_fence.specs.Fences.{covers, fence_of}
use Rattle.rv_pmp.specs.declared.rule.Rule.{Rule}
use Rattle.rv_pmp.specs.Pmp.{page_allowed}
use Rattle.mon_image.specs.declared.image.Image.{Image}
use Rattle.mon_image.specs.declared.page.ImagePage.{ImagePage}
use Rattle.mon_owner.specs.declared.owners.Owner.{Owner}
use Rattle.mon_owner.specs.declared.owners.Owner.TheVariants as owner
use Rattle.mon_tables.specs.Space.{first_vpn}
use Rattle.mon_tables.specs.SpaceWalks.{WalksTo, leaf_mappings}
use Rattle.mon_tables.specs.Tables.{root_of}
use Rattle.mon_enclave.specs.declared.enclave.PageKind.{PageKind}
use Rattle.mon_enclave.specs.declared.enclave.PageKind.TheVariants.{Own}
use Rattle.mon_enclave.specs.declared.enclave.Enclave.{Enclave}
use Rattle.mon_enclave.specs.Records.{built, enclave_at, freed, page_number_of, pages_held}
use Rattle.mon_life.specs.Destroying.{DestroyBegun, DestroyEnded, destroy_begun, destroy_ended, held_by}
use Rattle.mon_life.specs.Making.{create_refusal_of}
use Rattle.mon_life.specs.Pages.{image_put, leaves_of, page_put_at}

-- number e may be made of an image of so many pages and these pages: it is free, there is a page for each of the image's, none is listed
-- twice, and each is the host's, with no mappings, and open to every access
pub record MayCreate (owners : List Owner) (enclaves : List Enclave) (rules : List Rule) (image_pages e : ℕ) (pages : List ℕ) : Type 0 where
  pub free : is_free (enclave_at enclaves e).state ≡ true
  pub count : length pages ≡ image_pages
  pub once : first_twice pages ≡ None
  pub host : All (λ page. slice_get owners page ≡ Some (owner.Host 0)) pages
  pub unbarred : All (λ page. page_allowed rules page ≡ true) pages

-- nothing else is refused
abbrev pub OthersAreRefused : Type 0
OthersAreRefused = (owners : List Owner) (enclaves : List Enclave) (rules : List Rule) (image_pages e : ℕ) (pages : List ℕ)
    → (create_refusal_of owners enclaves rules image_pages e pages ≡ None) ↔ MayCreate owners enclaves rules image_pages e pages

-- number e of so many is made of this image in the pages of its record, which stand behind the guarded ones, of so many pages in all
pub record IsMaking (tables numbers e all_pages : ℕ) (image : Image) (kinds : List PageKind) : Type 0 where
  pub few_tables : tables ≤ 32
  pub few_numbers : numbers ≤ 64
  pub number : e < numbers
  pub few_pages : all_pages ≤ 4096
  pub few : length image.pages ≤ 256
  pub count : length kinds ≡ length image.pages
  pub perms : All (λ (page : ImagePage). IsTrue (are_page_perms page.perms)) image.pages
  pub guarded : 2 + tables + 3 * numbers ≤ all_pages
  pub above : All (λ (kind : PageKind). 2 + tables + 3 * numbers ≤ page_number_of kind) kinds
  pub below : All (λ (kind : PageKind). page_number_of kind < all_pages) kinds

-- the steps of a number that may be made, where the guarded pages aren't the host's
abbrev pub BegunIsMaking : Type 0
BegunIsMaking = (owners : List Owner) (enclaves : List Enclave) (rules : List Rule) (tables e : ℕ) (image : Image) (pages : List ℕ)
    → tables ≤ 32 → length enclaves ≤ 64 → e < length enclaves → length owners ≤ 4096 → length image.pages ≤ 256
    → All (λ (page : ImagePage). IsTrue (are_page_perms page.perms)) image.pages → 2 + tables + 3 * length enclaves ≤ length owners
    → ((page : ℕ) → page < 2 + tables + 3 * length enclaves → slice_get owners page ≡ Some owner.Guard)
    → MayCreate owners enclaves rules (length image.pages) e pages → IsMaking tables (length enclaves) e (length owners) image (map Own pages)

-- each page has the bytes that the step puts, for the steps from one up to another, which is not among them
abbrev pub StepsStand : ℕ → ℕ → Image → List PageKind → (ℕ → List ℕ) → ℕ → ℕ → Type 0
StepsStand tables e image kinds bytes_of first stop = (at : ℕ) → first ≤ at → at < stop
    → bytes_of (page_put_at tables e image kinds at).page ≡ (page_put_at tables e image kinds at).bytes

-- the word at an address, where the pages have these bytes
abbrev pub word_in : (ℕ → List ℕ) → ℕ → ℕ
word_in bytes_of address = little_number 8 (bytes_at (bytes_of (address / 4096 - 0x80000)) (address % 4096) 8)

-- a step below the image's length puts the image's page
abbrev pub ImageStands : Type 0
ImageStands = (tables e : ℕ) (image : Image) (kinds : List PageKind) (at : ℕ) → at < length image.pages → page_put_at tables e image kinds at ≡ image_put image.pages kinds at

-- where the last three steps stand, the number's root walks to exactly the space of its leaves
abbrev pub TablesWalk : Type 0
TablesWalk = (tables numbers e all_pages : ℕ) (image : Image) (kinds : List PageKind) (bytes_of : ℕ → List ℕ) → IsMaking tables numbers e all_pages image kinds
    → StepsStand tables e image kinds bytes_of (length image.pages) (length image.pages + 3)
    → WalksTo (word_in bytes_of) (root_of tables (e + 1)) User (leaf_mappings first_vpn (leaves_of kinds image.pages))

-- each step puts a page that is there
abbrev pub StepsInside : Type 0
StepsInside = (tables numbers e all_pages : ℕ) (image : Image) (kinds : List PageKind) (at : ℕ) → IsMaking tables numbers e all_pages image kinds
    → at < length image.pages + 3 → (page_put_at tables e image kinds at).page < all_pages

-- no two steps put the same page, where the record has none twice
abbrev pub StepsApart : Type 0
StepsApart = (tables numbers e all_pages : ℕ) (image : Image) (kinds : List PageKind) (i j : ℕ) → IsMaking tables numbers e all_pages image kinds → first_twice (map page_number_of kinds) ≡ None
    → i < j → j < length image.pages + 3 → (page_put_at tables e image kinds i).page ≢ (page_put_at tables e image kinds j).page

-- each step puts all bytes of its page
abbrev pub StepsAreWhole : Type 0
StepsAreWhole = (tables numbers e all_pages : ℕ) (image : Image) (kinds : List PageKind) (at : ℕ) → IsMaking tables numbers e all_pages image kinds
    → All (λ (page : ImagePage). length page.bytes ≡ 4096) image.pages → length (page_put_at tables e image kinds at).bytes ≡ 4096

-- ---- giving back

-- number e may be given back: it was made as an enclave, and no line has it under way
pub record MayDestroy (enclaves : List Enclave) (e : ℕ) : Type 0 where
  pub there : is_absent (enclave_at enclaves e).state ≡ false
  pub at_rest : is_under_way (enclave_at enclaves e).state ≡ false

-- nothing else is refused; where it begins, the number is dying, and the hart's fence covers each page of its space
pub record DestroyBegins (enclaves : List Enclave) (fences : List (Option Fence)) (h : ℕ) (e : EncNo) (begun : DestroyBegun) : Type 0 where
  pub refused : (begun.refusal ≡ None) ↔ MayDestroy enclaves e.0
  pub dying : begun.refusal ≡ None → (enclave_at begun.enclaves e.0).state ≡ Dying
  pub fenced : begun.refusal ≡ None → (vpn : Vpn) → covers (space_of_number e) vpn (fence_of begun.fences h) ≡ true

abbrev pub DestroysBegin : Type 0
DestroysBegin = (enclaves : List Enclave) (fences : List (Option Fence)) (h : ℕ) (e : EncNo) → e.0 < length enclaves → h < length fences
    → DestroyBegins enclaves fences h e (destroy_begun enclaves fences h e)

module _ (digest_of : List ℕ → List ℕ) where
  -- what is left of a number that held pages, once it is given back
  pub record IsGivenBack (ctl ctl_now : CtlData) (owners owners_now : List Owner) (enclaves enclaves_now : List Enclave) (e : ℕ) : Type 0 where
    -- off chip its pages are zero; all other pages, all nodes and the root table are as before
    pub zeroed : (page : ℕ) → is_among (held_by enclaves e) page ≡ true → page_bytes ctl_now.off_chip page ≡ zero_page
    pub other_pages : (page : ℕ) → is_among (held_by enclaves e) page ≡ false → page_bytes ctl_now.off_chip page ≡ page_bytes ctl.off_chip page
    pub other_bytes : (index : ℕ) → is_among (held_by enclaves e) (index / 4096) ≡ false → slice_get ctl_now.off_chip index ≡ slice_get ctl.off_chip index
    pub nodes : (index : ℕ) → 4096 * (64 * ctl.zones) ≤ index → slice_get ctl_now.off_chip index ≡ slice_get ctl.off_chip index
    -- the mirror, the slots and the root on chip are as before, and the trees hold
    pub off_chip_alone : ctl_now ≡ with_off_chip ctl ctl_now.off_chip
    pub kept : IsKept digest_of ctl_now
    -- its pages are the host's, with no mappings, and each other page its owner's
    pub given : (page : ℕ) → is_among (held_by enclaves e) page ≡ true → slice_get owners_now page ≡ Some (owner.Host 0)
    pub other_owners : (page : ℕ) → is_among (held_by enclaves e) page ≡ false → slice_get owners_now page ≡ slice_get owners page
    pub as_many_owners : length owners_now ≡ length owners
    -- its record is that of a free number, and each other number has its own
    pub free : enclave_at enclaves_now e ≡ freed (enclave_at enclaves e)
    pub other_numbers : (other : ℕ) → other ≢ e → enclave_at enclaves_now other ≡ enclave_at enclaves other

  -- `destroy` ends: the number is given back, the hart has no fence, and each other hart its own
  pub record IsDestroyed (ctl : CtlData) (owners : List Owner) (enclaves : List Enclave) (fences : List (Option Fence)) (h e : ℕ) (ended : DestroyEnded) : Type 0 where
    pub back : IsGivenBack ctl ended.ctl owners ended.owners enclaves ended.enclaves e
    pub left : fence_of ended.fences h ≡ None
    pub other_fences : (other : ℕ) → other ≢ h → fence_of ended.fences other ≡ fence_of fences other

  abbrev pub NumbersAreGivenBack : Type 0
  NumbersAreGivenBack = (ctl : CtlData) (owners : List Owner) (enclaves : List Enclave) (fences : List (Option Fence)) (h e : ℕ) → IsKept digest_of ctl
      → length owners ≡ 64 * ctl.zones → e < length enclaves → h < length fences → All (λ page. page < 64 * ctl.zones) (held_by enclaves e)
      → IsDestroyed ctl owners enclaves fences h e (destroy_ended ctl owners enclaves fences h e)

-- whatever a record was, the one that is built of it is the same, but for the hart that it was last on
abbrev pub NothingIsLeft : Type 0
NothingIsLeft = (number : ℕ) (image : Image) (pages : List ℕ) (one other : Enclave)
    → built number image pages one ≡ record (built number image pages other) { hart = one.hart }

-- one that is built holds just the pages that it is built in
abbrev pub BuiltHolds : Type 0
BuiltHolds = (number : ℕ) (image : Image) (pages : List ℕ) (enclave : Enclave) → pages_held (built number image pages enclave) ≡ pages
