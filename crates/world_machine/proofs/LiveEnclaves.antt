-- An enclave that runs is its image run alone: from the record to the state and back, and through each instruction that retires.
use Rattle.std.proofs.Common.{◌≡◌, ℕ, ◌+◌, ◌%◌, ◌||◌, Bool, true, List, [], Some, None, slice_get, unwrap_or, refl, ap, sym, ◌∙◌, subst}
use Rattle.pl_base.specs.declared.access.Kind.TheVariants as kind
use Rattle.pl_base.specs.declared.state.State.{State}
use Rattle.pl_base.specs.declared.state.State.TheVariants as state_is
use Rattle.pl_base.specs.Pages.{first_twice}
use Rattle.pl_base.specs.States.{is_sealed}
use Rattle.mem_geom.specs.Parts.{page_bytes}
use Rattle.mem_ctl.specs.Writes.{word_at}
use Rattle.mon_enclave.specs.declared.enclave.Enclave.{Enclave}
use Rattle.mon_image.specs.declared.image.Image.{Image}
use Rattle.mon_image.specs.declared.page.ImagePage.{ImagePage}
use Rattle.mon_owner.specs.declared.owners.Owner.{Owner}
use Rattle.rv_alone.specs.declared.step.Act.{Act}
use Rattle.rv_alone.specs.declared.step.Act.TheVariants.{Call, Load, Set, Store}
use Rattle.rv_alone.specs.declared.step.Context.{Context}
use Rattle.rv_alone.specs.Effect.{IsAccess, IsAligned, act_of, advanced, loaded}
use Rattle.rv_alone.specs.Flat.{Flat, Status, ended, fetched, on}
use Rattle.rv_alone.specs.Alone.{alone, context_of}
use Rattle.rv_alone.proofs.AloneLemmas.{alone_more}
use Rattle.pl_history.specs.declared.setup.SetupParts.{SetupParts}
use Rattle.pl_history.specs.Monitor.{Number, flat_image}
use Rattle.world_machine.specs.ByteBounds.{AreImageBytes}
use Rattle.world_machine.specs.EnclavesAgree.{EnclaveStands, StatusStands, is_made}
use Rattle.world_machine.specs.Making.{image_of}
use Rattle.world_machine.specs.Pages.{flat_pages, numbers_of, part_of_word, word_offset}
use Rattle.world_machine.specs.Running.{retired_with}
use Rattle.world_machine.proofs.Alignment.{word_access, word_aligned}
use Rattle.world_machine.proofs.ByteBounds.{PagesAreBytes, alone_bytes, fetched_small, image_bytes}
use Rattle.world_machine.proofs.FlatPages.{StoresInto, located}
use Rattle.world_machine.proofs.Instructions.{IsFetched, Retires, exit_ends, flat_of, load_retires, set_retires, store_retires, word_fetched}
use Rattle.world_machine.proofs.WordParts.{stays_in_word}

-- The record is the state of its image run alone, over the bytes of the pages of this memory.
pub record IsLive (image : Image) (memory : List ℕ) (r : Enclave) : Type 0 where
  pub alone_is : alone (flat_image image) r.sent r.retired ≡ Some (flat_of (page_bytes memory) image.pages r)
  pub bytes : PagesAreBytes (flat_image image).pages
  pub aligned : r.context.pc % 4 ≡ 0
  pub apart : first_twice (numbers_of r.pages) ≡ None

-- ---- from what holds of an enclave

-- the state of its image is the one that the record stands for
flat_is : (bytes_of : ℕ → List ℕ) (image : List ImagePage) (r : Enclave) (now : Flat) → r.context ≡ context_of now → r.received ≡ now.received → r.out ≡ now.out
    → now.pages ≡ flat_pages bytes_of image (numbers_of r.pages) → now.status ≡ on → now ≡ flat_of bytes_of image r
flat_is bytes_of image r now context received out pages status =
    let regs : now.regs ≡ r.context.regs = sym (ap (λ (c : Context). c.regs) context) in
    let pc : now.pc ≡ r.context.pc = sym (ap (λ (c : Context). c.pc) context) in
    let got : now.received ≡ r.received = sym received in
    let words : now.out ≡ r.out = sym out in
    λ i. record { regs = regs i; pc = pc i; pages = pages i; received = got i; out = words i; status = status i }

-- a live number is made
pub live_made : (n : Number) → n.live ≡ true → is_made n ≡ true
live_made n live = ap (λ b. b || is_sealed n.state) live

pub live_of : (setup : SetupParts) (memory : List ℕ) (owners : List Owner) (e : ℕ) (r : Enclave) (n : Number) (s : EnclaveStands setup (page_bytes memory) owners e r n) → AreImageBytes setup.images
    → n.live ≡ true → s.state.now.status ≡ on → IsLive s.image memory r
live_of setup memory owners e r n s bytes live status = record {
  alone_is = s.state.alone_is ∙ ap Some (flat_is (page_bytes memory) s.image.pages r s.state.now s.state.context s.state.received s.state.out (s.state.pages (live_made n live)) status);
  bytes = image_bytes setup.images r.image s.image bytes s.image_is;
  aligned = s.state.aligned;
  apart = s.held.apart;
}

-- the status of an image whose record is on
pub status_on : (state : State) (status : Status) → state ≡ state_is.On → StatusStands state status → status ≡ on
status_on state status is stands = subst (λ st. StatusStands st status) is stands

-- an image that is on may stand for a record of any state
pub on_stands : (state : State) → StatusStands state on
on_stands state_is.Free = refl
on_stands state_is.Building = refl
on_stands state_is.Fresh = refl
on_stands state_is.Sealed = refl
on_stands state_is.On = refl
on_stands state_is.Paused = refl
on_stands state_is.Ended = tt
on_stands state_is.Trapped = refl
on_stands state_is.Faulted = refl
on_stands state_is.Dying = tt

pub image_found : (setup : SetupParts) (number : ℕ) (image : Image) → slice_get setup.images number ≡ Some image → image_of setup number ≡ image
image_found setup number image is = ap (λ o. unwrap_or o (record { entry = 0; pages = [] })) is

-- ---- an instruction that retires

-- a record that kept all but its context, its words and how many retired
pub same_pages : (r now : Enclave) → now ≡ record r { context = now.context; received = now.received; out = now.out; retired = now.retired } → now.pages ≡ r.pages
same_pages r now kept = ap (λ (x : Enclave). x.pages) kept

module _ (image : Image) (memory : List ℕ) (r : Enclave) (live : IsLive image memory r) where
  abbrev flat : Flat
  flat = flat_of (page_bytes memory) image.pages r

  -- what its pages hold are bytes
  pub live_bytes : PagesAreBytes (flat_pages (page_bytes memory) image.pages (numbers_of r.pages))
  live_bytes = alone_bytes (flat_image image) r.sent r.retired flat live.bytes live.alone_is

  -- the word that the machine fetches is the one at pc
  pub live_fetched : (page eight : ℕ) → located kind.Fetch image.pages (numbers_of r.pages) r.context.pc ≡ Some page → eight ≡ word_at memory page (word_offset r.context.pc)
      → IsFetched image.pages (page_bytes memory) r (part_of_word eight r.context.pc 4) (act_of r.context (part_of_word eight r.context.pc 4))
  live_fetched page eight there is = record { word_is = word_fetched image.pages memory r live_bytes page eight there live.aligned is; act_is = refl; aligned = live.aligned }

  -- the word that was fetched in an earlier event
  pub live_reached : (word : ℕ) → fetched (flat_pages (page_bytes memory) image.pages (numbers_of r.pages)) r.context.pc ≡ Some word → IsFetched image.pages (page_bytes memory) r word (act_of r.context word)
  live_reached word is = record { word_is = is; act_is = refl; aligned = live.aligned }

  module _ (word : ℕ) (act : Act) (is : IsFetched image.pages (page_bytes memory) r word act) where
    pub act_aligned : IsAligned act
    act_aligned = subst IsAligned is.act_is (word_aligned r.context word (fetched_small (flat_pages (page_bytes memory) image.pages (numbers_of r.pages)) r.context.pc word live_bytes is.word_is) live.aligned)

    pub act_access : IsAccess act
    act_access = subst IsAccess is.act_is (word_access r.context word (fetched_small (flat_pages (page_bytes memory) image.pages (numbers_of r.pages)) r.context.pc word live_bytes is.word_is))

  pub live_set : (word : ℕ) (context : Context) → IsFetched image.pages (page_bytes memory) r word (Set context)
      → Retires image.pages (page_bytes memory) (page_bytes memory) r (retired_with r context)
  live_set word context is = set_retires image.pages (page_bytes memory) r word context is (act_aligned word (Set context) is)

  pub live_load : (word address width : ℕ) (is_signed : Bool) (rd page eight : ℕ) → IsFetched image.pages (page_bytes memory) r word (Load address width is_signed rd)
      → located kind.Load image.pages (numbers_of r.pages) address ≡ Some page → eight ≡ word_at memory page (word_offset address)
      → Retires image.pages (page_bytes memory) (page_bytes memory) r (retired_with r (loaded r.context rd width is_signed (part_of_word eight address width)))
  live_load word address width is_signed rd page eight is there eight_is =
      let access = act_access word (Load address width is_signed rd) is in
      load_retires image.pages memory r live_bytes word address width is_signed rd page eight is there (stays_in_word address width access.0 access.1) eight_is

  pub live_store : (new : List ℕ) (word address width value page : ℕ) → IsFetched image.pages (page_bytes memory) r word (Store address width value)
      → located kind.Store image.pages (numbers_of r.pages) address ≡ Some page → StoresInto (page_bytes memory) (page_bytes new) (numbers_of r.pages) page address width value
      → Retires image.pages (page_bytes memory) (page_bytes new) r (retired_with r (advanced r.context))
  live_store new word address width value page is there writes = store_retires image.pages (page_bytes memory) r (page_bytes new) word address width value page is there live.apart writes

  -- an instruction that retired: the record is the state after one more
  pub live_more : (new : List ℕ) (now : Enclave) → Retires image.pages (page_bytes memory) (page_bytes new) r now → IsLive image new now
  live_more new now retires =
      let sent : now.sent ≡ r.sent = ap (λ (x : Enclave). x.sent) retires.kept in
      record {
        alone_is = ap (λ words. alone (flat_image image) words now.retired) sent ∙ ap (alone (flat_image image) r.sent) retires.retired
            ∙ alone_more (flat_image image) r.sent r.retired flat (flat_of (page_bytes new) image.pages now) live.alone_is refl retires.outcome;
        bytes = live.bytes;
        aligned = retires.aligned;
        apart = ap (λ ps. first_twice (numbers_of ps)) (same_pages r now retires.kept) ∙ live.apart;
      }

  -- EXIT: the image has ended
  pub live_exit : (word code : ℕ) → IsFetched image.pages (page_bytes memory) r word (Call 1 code) → alone (flat_image image) r.sent (r.retired + 1) ≡ Some (record flat { status = ended code })
  live_exit word code is = alone_more (flat_image image) r.sent r.retired flat (record flat { status = ended code }) live.alone_is refl (exit_ends image.pages (page_bytes memory) r word code is)
