-- The fetch of an instruction keeps what a world keeps.
use Rattle.std.proofs.Common.{◌≡◌, ℕ, ◌%◌, ◌<◌, Bool, List, length, slice_get, Some, None, sym, ap, ◌∙◌, subst, arith, inl}
use Rattle.pl_base.specs.declared.access.Kind.TheVariants as kind
use Rattle.pl_base.specs.declared.number.EncNo.{EncNo}
use Rattle.mem_geom.specs.Parts.{page_bytes}
use Rattle.mem_ctl.specs.Calls.{read_word_of}
use Rattle.mem_ctl.specs.Data.{After, CtlData, going}
use Rattle.mem_ctl.specs.Laws.{ReadsTell}
use Rattle.mem_ctl.specs.Writes.{word_at}
use Rattle.mon_enclave.specs.declared.enclave.Enclave.{Enclave}
use Rattle.mon_enclave.specs.Records.{enclave_at}
use Rattle.mon_image.specs.declared.image.Image.{Image}
use Rattle.rv_alone.specs.declared.step.Act.{Act}
use Rattle.rv_alone.specs.Effect.{act_of}
use Rattle.rv_alone.specs.Flat.{fetched}
use Rattle.rv_hart.specs.declared.walks.Micro.{Micro}
use Rattle.world_attack.specs.Room.{RoomStays}
use Rattle.world_machine.specs.declared.under.Under.TheVariants.{Running}
use Rattle.world_machine.specs.Pages.{flat_pages, numbers_of, part_of_word, word_offset}
use Rattle.world_machine.specs.Running.{RunNow, acts, fetched_in}
use Rattle.world_machine.specs.Standing.{Kept}
use Rattle.world_machine.specs.Worlds.{WorldData, hart_line, under_at}
use Rattle.world_machine.proofs.FlatPages.{located, located_among}
use Rattle.world_machine.proofs.Instructions.{IsFetched}
use Rattle.world_machine.proofs.LiveEnclaves.{live_fetched}
use Rattle.world_machine.proofs.RunAccesses.{same_bytes}
use Rattle.world_machine.proofs.RunMoves.{run_line}
use Rattle.world_machine.proofs.RunReads.{read_event, told}
use Rattle.world_machine.proofs.RunRows.{acts_kept, alone_so, standing}

-- an image of a record is one
one_image : (images : List Image) (number : ℕ) (a b : Image) → slice_get images number ≡ Some a → slice_get images number ≡ Some b → a ≡ b
one_image images number a b is also = let h : Some a ≡ Some b = sym is ∙ also in cc

-- the word at pc is read in any bytes that the pages of the record have
fetched_over : (image image' : Image) (before after : ℕ → List ℕ) (r : Enclave) (word : ℕ) (act : Act) → image ≡ image'
    → flat_pages after image.pages (numbers_of r.pages) ≡ flat_pages before image.pages (numbers_of r.pages) → IsFetched image.pages before r word act → IsFetched image'.pages after r word act
fetched_over image image' before after r word act same bytes is =
    subst (λ (i : Image). IsFetched i.pages after r word act) same
    (record { word_is = ap (λ pages. fetched pages r.context.pc) bytes ∙ is.word_is; act_is = is.act_is; aligned = is.aligned })

pub offset_inside : (address : ℕ) → word_offset address < 4096
offset_inside address = omega arith

pub offset_aligned : (address : ℕ) → word_offset address % 8 ≡ 0
offset_aligned address = omega arith

module _ (digest_of : List ℕ → List ℕ) (room_stays : RoomStays) (reads : ReadsTell digest_of) (w : WorldData) (k : Kept digest_of w) (none : w.collision ≡ None) (hart : ℕ) (below : hart < w.setup.harts)
    (first : Bool) (e : EncNo) (budget count : ℕ) (micro : Micro) (here : hart_line w hart ≡ Some (run_line first e budget)) (under : under_at w.under hart ≡ Running micro count)
    (there : e.0 < length w.enclaves) (positions : List ℕ) where
  abbrev r : Enclave
  r = enclave_at w.enclaves e.0

  abbrev run : RunNow
  run = record { hart = hart; e = e.0; budget = budget; count = count }

  abbrev image : Image
  image = (standing digest_of room_stays w k none hart below first e budget count micro here under there).image

  -- the word that is fetched does its act, in the world after the access
  acts_left : (page : ℕ) → located kind.Fetch image.pages (numbers_of r.pages) r.context.pc ≡ Some page → (ctl : CtlData) (kept : Kept digest_of (record w { ctl = ctl })) (eight : ℕ)
      → eight ≡ word_at w.ctl.mirror page (word_offset r.context.pc)
      → ((pages : Image) → flat_pages (page_bytes ctl.mirror) pages.pages (numbers_of r.pages) ≡ flat_pages (page_bytes w.ctl.mirror) pages.pages (numbers_of r.pages))
      → Kept digest_of (acts (record w { ctl = ctl }) run r (part_of_word eight r.context.pc 4) (act_of r.context (part_of_word eight r.context.pc 4)))
  acts_left page at ctl kept eight is same =
      let word : ℕ = part_of_word eight r.context.pc 4 in
      let now = standing digest_of room_stays (record w { ctl = ctl }) kept none hart below first e budget count micro here under there in
      let old = standing digest_of room_stays w k none hart below first e budget count micro here under there in
      acts_kept digest_of room_stays (record w { ctl = ctl }) kept none hart below first e budget count micro here under there word (act_of r.context word)
      (fetched_over image now.image (page_bytes w.ctl.mirror) (page_bytes ctl.mirror) r word (act_of r.context word) (one_image w.setup.images r.image image now.image old.image_is now.image_is) (same image)
      (live_fetched image w.ctl.mirror r (alone_so digest_of room_stays w k none hart below first e budget count micro here under there).live page eight at is))

  -- the fetch in the page that is located
  pub fetch_kept : (page : ℕ) → located kind.Fetch image.pages (numbers_of r.pages) r.context.pc ≡ Some page → Kept digest_of (fetched_in digest_of w run r positions (Some page)).world
  fetch_kept page at =
      let call : After ℕ = read_word_of digest_of page (word_offset r.context.pc) (going w.ctl positions) in
      let among = located_among kind.Fetch image.pages (numbers_of r.pages) r.context.pc page at in
      let says = told digest_of room_stays reads w k none hart below first e budget count micro here under there positions page (word_offset r.context.pc)
      (offset_inside r.context.pc) (offset_aligned r.context.pc) (inl among) in
      read_event digest_of room_stays reads w k none hart below first e budget count micro here under there positions page (word_offset r.context.pc)
      (offset_inside r.context.pc) (offset_aligned r.context.pc) (inl among)
      (λ eight. acts (record w { ctl = call.after.ctl }) run r (part_of_word eight r.context.pc 4) (act_of r.context (part_of_word eight r.context.pc 4)))
      (λ eight is stay kept. acts_left page at call.after.ctl kept eight is
      (λ i. same_bytes digest_of room_stays w k none hart below first e budget count micro here under there call.after.ctl says.leaves stay i.pages))
