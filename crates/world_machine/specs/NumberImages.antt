-- An enclave number that is used again is its new image alone: nothing is left of what it was before.
use Rattle.std.specs.Prelude.{◌≡◌, ℕ, ◌+◌, ◌||◌, Bool, true, false, List, [], slice_get, Some, None, Contains, option_map}
use Rattle.pl_base.specs.States.{is_dying, is_free, is_sealed}
use Rattle.pl_base.specs.declared.state.State.TheVariants as state_is
use Rattle.rv_alone.specs.Alone.{alone, context_of}
use Rattle.rv_alone.specs.Flat.{Flat, start_of}
use Rattle.rv_tlb.specs.declared.tlb.TlbEntry.{TlbEntry}
use Rattle.mon_enclave.specs.declared.enclave.Enclave.{Enclave}
use Rattle.mon_enclave.specs.Records.{enclave_at}
use Rattle.mon_image.specs.declared.image.Image.{Image}
use Rattle.pl_history.specs.Monitor.{flat_image}
use Rattle.world_machine.specs.Accesses.{walk_of}
use Rattle.world_machine.specs.Pages.{flat_pages, numbers_of}
use Rattle.world_machine.specs.PagesAgree.{AreBroken, kinds_of}
use Rattle.world_machine.specs.RecordsAgree.{RetiredAgrees}
use Rattle.world_machine.specs.SinceMade.{SinceMade, never_made, since_made}
use Rattle.world_machine.specs.Standing.{written_page}
use Rattle.world_machine.specs.TranslationsAgree.{Walking}
use Rattle.world_machine.specs.Worlds.{WorldData, tlb_at}

-- what the world's history says of each number since the newest line that makes it began
abbrev pub since_of : WorldData → ℕ → SinceMade
since_of w = since_made w.setup (λ e. never_made) w.history.entries

-- ---- a number that isn't in use

-- its record has no pages, no spares and no parent, no spares were given to it, no words sent or taken, and no instruction of it has retired
pub record HasNothing (r : Enclave) : Type 0 where
  pub pages : r.pages ≡ []
  pub spares : r.spares ≡ []
  pub given : r.given ≡ 0
  pub parent : r.parent ≡ None
  pub sent : r.sent ≡ []
  pub taken : r.taken ≡ 0
  pub retired : r.retired ≡ 0

-- no hart has a translation of its space in its TLB, or a walk under way in it
pub record IsUntranslated (w : WorldData) (e : ℕ) : Type 0 where
  pub entries : (hart : ℕ) (entry : TlbEntry) → Contains (tlb_at w.tlbs hart) entry → entry.space ≡ record { 0 = e + 1 } → ⊥
  pub walks : (hart : ℕ) (walking : Walking) → walk_of w hart ≡ Some walking → walking.view.space ≡ record { 0 = e + 1 } → ⊥

-- ---- a number that is

-- The pages of a number: those that its line names, or of a forked number the shadow's, but for the ones that it broke: the k-th of these is the k-th
-- spare. It broke those that its instructions stored to, in order of the first store, and at most the one that the next instruction stores to.
pub record HasPagesOf (w : WorldData) (image : Image) (now : Flat) (r : Enclave) (since : SinceMade) : Type 0 where
  pub broken : List ℕ
  pub ahead : Bool
  pub so_far : AreBroken since.parent (flat_image image) since.sent r.retired ahead broken
  pub pages : r.pages ≡ kinds_of since.pages since.spares broken (option_map (λ shadow. (since_of w shadow).pages) since.parent)
  pub bytes : now.pages ≡ flat_pages (written_page w) image.pages (numbers_of r.pages)

-- The record is that of one image, run alone with these words for so many instructions: the image of the newest line in the history that makes the
-- number, and the words sent since that began. The instructions are those that retired since, which the history has but for the ones of a run
-- that is under way. Registers, pc, and received and sent out words are those of the image; so are the bytes of its pages, as last written, while the
-- number is live or a sealed shadow. A number that isn't live yet is at the start of the image.
pub record IsItsImage (w : WorldData) (r : Enclave) (since : SinceMade) : Type 0 where
  pub image : Image
  pub image_is : slice_get w.setup.images since.image ≡ Some image
  pub retired : RetiredAgrees r.state r.retired since.retired
  pub now : Flat
  pub alone_is : alone (flat_image image) since.sent r.retired ≡ Some now
  pub context : r.context ≡ context_of now
  pub received : r.received ≡ now.received
  pub out : r.out ≡ now.out
  pub pages : since.live || is_sealed r.state ≡ true → HasPagesOf w image now r since
  pub start : since.live ≡ false → is_dying r.state ≡ false → now ≡ start_of (flat_image image)

-- ---- all of them

-- A free number has nothing, and no translations; neither has one any that is being made, or whose making a fault stopped: it is neither live nor
-- given back. One that isn't free is its image.
pub record EachIsItsImage (w : WorldData) : Type 0 where
  pub free : (e : ℕ) → (enclave_at w.enclaves e).state ≡ state_is.Free → HasNothing (enclave_at w.enclaves e) × IsUntranslated w e
  pub untranslated : (e : ℕ) → (since_of w e).live ≡ false → is_dying (enclave_at w.enclaves e).state ≡ false → IsUntranslated w e
  pub used : (e : ℕ) → is_free (enclave_at w.enclaves e).state ≡ false → IsItsImage w (enclave_at w.enclaves e) (since_of w e)
