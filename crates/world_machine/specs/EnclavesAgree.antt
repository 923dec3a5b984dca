-- Each enclave number that isn't free is its image run alone.
use Rattle.std.specs.Prelude.{◌≡◌, ℕ, ◌%◌, ◌≤◌, ◌||◌, Bool, true, false, List, length, slice_get, take, Option, Some, None, option_map}
use Rattle.std.specs.List.{All}
use Rattle.pl_base.specs.declared.number.EncNo.{EncNo}
use Rattle.pl_base.specs.declared.state.State.{State}
use Rattle.pl_base.specs.declared.state.State.TheVariants as state_is
use Rattle.pl_base.specs.Pages.{first_twice}
use Rattle.pl_base.specs.States.{is_dying, is_free, is_sealed}
use Rattle.rv_alone.specs.Alone.{alone, context_of}
use Rattle.rv_alone.specs.Flat.{Flat, Status, on, start_of}
use Rattle.mon_enclave.specs.declared.enclave.Enclave.{Enclave}
use Rattle.mon_enclave.specs.declared.enclave.PageKind.{PageKind}
use Rattle.mon_enclave.specs.declared.enclave.PageKind.TheVariants.{Own, Shared}
use Rattle.mon_image.specs.declared.image.Image.{Image}
use Rattle.mon_owner.specs.declared.owners.Owner.{Owner}
use Rattle.pl_history.specs.declared.setup.SetupParts.{SetupParts}
use Rattle.pl_history.specs.Monitor.{Number, flat_image, number}
use Rattle.pl_history.specs.Words.{sent_out}
use Rattle.world_machine.specs.Pages.{flat_pages, numbers_of}
use Rattle.world_machine.specs.RecordsAgree.{owner_of}

-- an image that has ended runs no more, and one that is given back may have ended; any other may go on
abbrev pub StatusStands : State → Status → Type 0
StatusStands state_is.Ended status = Unit {0}
StatusStands state_is.Dying status = Unit {0}
StatusStands state status = status ≡ on

-- a page is this number's
abbrev pub IsOwn : List Owner → ℕ → ℕ → Type 0
IsOwn owners e page = option_map owner_of (slice_get owners page) ≡ Some (number e)

-- a page of a record is the number's own, or the shadow's that it was forked from
abbrev pub IsOwnOrShared : List Owner → ℕ → Option EncNo → PageKind → Type 0
IsOwnOrShared owners e parent (Own page) = IsOwn owners e page
IsOwnOrShared owners e parent (Shared page) = (shadow : EncNo) × (parent ≡ Some shadow) × IsOwn owners shadow.0 page

-- a record has a page for each of its image, none twice, its own or the shadow's
pub record HasItsPages (owners : List Owner) (e : ℕ) (image : Image) (pages : List PageKind) (parent : Option EncNo) : Type 0 where
  pub count : length pages ≡ length image.pages
  pub apart : first_twice (numbers_of pages) ≡ None
  pub owned : All (IsOwnOrShared owners e parent) pages

-- the pages of a number have the bytes that they should once it is made: it is live, or a sealed shadow
abbrev pub is_made : Number → Bool
is_made n = n.live || is_sealed n.state

-- The record is the state of its image run alone for as many instructions as it retired: registers, pc, received and sent out words. Where
-- the number is made, its pages have the state's bytes, as last written; where it isn't live, and isn't given back either, the image hasn't begun.
pub record StateStands (setup : SetupParts) (bytes_of : ℕ → List ℕ) (image : Image) (r : Enclave) (n : Number) : Type 0 where
  pub now : Flat
  pub alone_is : alone (flat_image image) r.sent r.retired ≡ Some now
  pub context : r.context ≡ context_of now
  pub received : r.received ≡ now.received
  pub out : r.out ≡ now.out
  pub status : StatusStands r.state now.status
  pub aligned : r.context.pc % 4 ≡ 0
  pub taken_few : r.taken ≤ r.shown
  pub shown_few : r.shown ≤ length r.out
  pub shown : take r.shown r.out ≡ sent_out setup n
  pub pages : is_made n ≡ true → now.pages ≡ flat_pages bytes_of image.pages (numbers_of r.pages)
  pub start : n.live ≡ false → is_dying r.state ≡ false → now ≡ start_of (flat_image image)

pub record EnclaveStands (setup : SetupParts) (bytes_of : ℕ → List ℕ) (owners : List Owner) (e : ℕ) (r : Enclave) (n : Number) : Type 0 where
  pub image : Image
  pub image_is : slice_get setup.images r.image ≡ Some image
  pub held : HasItsPages owners e image r.pages r.parent
  pub state : StateStands setup bytes_of image r n

abbrev pub EnclavesAgree : SetupParts → (ℕ → List ℕ) → List Owner → (ℕ → Enclave) → (ℕ → Number) → Type 0
EnclavesAgree setup bytes_of owners record_of number_of =
    (e : ℕ) → is_free (record_of e).state ≡ false → EnclaveStands setup bytes_of owners e (record_of e) (number_of e)
