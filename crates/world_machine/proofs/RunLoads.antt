-- A load keeps what a world keeps.
use Rattle.std.proofs.Common.{◌≡◌, ℕ, ◌<◌, Bool, List, length, Some, None, sym, ap, ◌∙◌, inl, refl}
use Rattle.pl_base.specs.declared.access.Kind.TheVariants as kind
use Rattle.pl_base.specs.declared.number.EncNo.{EncNo}
use Rattle.mem_geom.specs.Parts.{page_bytes}
use Rattle.mem_ctl.specs.Calls.{read_word_of}
use Rattle.mem_ctl.specs.Data.{After, going}
use Rattle.mem_ctl.specs.Laws.{ReadsTell}
use Rattle.mon_enclave.specs.declared.enclave.Enclave.{Enclave}
use Rattle.mon_enclave.specs.Records.{enclave_at}
use Rattle.mon_image.specs.declared.image.Image.{Image}
use Rattle.mon_image.specs.declared.page.ImagePage.{ImagePage}
use Rattle.rv_alone.specs.declared.step.Act.TheVariants.{Load}
use Rattle.rv_alone.specs.Alone.{next}
use Rattle.rv_alone.specs.Effect.{loaded}
use Rattle.rv_hart.specs.declared.walks.Micro.{Micro}
use Rattle.world_attack.specs.Room.{RoomStays}
use Rattle.world_machine.specs.declared.under.Under.TheVariants.{Running}
use Rattle.world_machine.specs.Pages.{flat_pages, numbers_of, part_of_word, word_offset}
use Rattle.world_machine.specs.Running.{RunNow, loads_in, retired_with, retires}
use Rattle.world_machine.specs.Standing.{Kept}
use Rattle.world_machine.specs.Worlds.{WorldData, hart_line, under_at}
use Rattle.world_machine.proofs.FlatPages.{located, located_among}
use Rattle.world_machine.proofs.Instructions.{IsFetched, Retires, flat_of}
use Rattle.world_machine.proofs.LiveEnclaves.{live_load}
use Rattle.world_machine.proofs.RunAccesses.{access, same_bytes}
use Rattle.world_machine.proofs.RunFetches.{offset_aligned, offset_inside}
use Rattle.world_machine.proofs.RunMoves.{run_line}
use Rattle.world_machine.proofs.RunReads.{read_event, told}
use Rattle.world_machine.proofs.RunRows.{alone_so, retires_kept, standing, pages_stay}

-- an instruction that retired, over other bytes of which the pages have the same
retires_over : (image : List ImagePage) (before after : ℕ → List ℕ) (r now : Enclave) → flat_pages after image (numbers_of now.pages) ≡ flat_pages before image (numbers_of now.pages)
    → Retires image before before r now → Retires image before after r now
retires_over image before after r now same steps = record {
  outcome = steps.outcome ∙ ap (λ pages. next (record (flat_of before image now) { pages = pages })) (sym same);
  kept = steps.kept;
  retired = steps.retired;
  aligned = steps.aligned;
  words = steps.words;
  grows = steps.grows;
}

module _ (digest_of : List ℕ → List ℕ) (room_stays : RoomStays) (reads : ReadsTell digest_of) (w : WorldData) (k : Kept digest_of w) (none : w.collision ≡ None) (hart : ℕ) (below : hart < w.setup.harts)
    (first : Bool) (e : EncNo) (budget count : ℕ) (micro : Micro) (here : hart_line w hart ≡ Some (run_line first e budget)) (under : under_at w.under hart ≡ Running micro count)
    (there : e.0 < length w.enclaves) (positions : List ℕ) (word address width : ℕ) (is_signed : Bool) (rd : ℕ) where
  abbrev r : Enclave
  r = enclave_at w.enclaves e.0

  abbrev run : RunNow
  run = record { hart = hart; e = e.0; budget = budget; count = count }

  abbrev image : Image
  image = (standing digest_of room_stays w k none hart below first e budget count micro here under there).image

  module _ (is : IsFetched image.pages (page_bytes w.ctl.mirror) r word (Load address width is_signed rd)) where
    pub load_kept : (page : ℕ) → located kind.Load image.pages (numbers_of r.pages) address ≡ Some page → Kept digest_of (loads_in digest_of w run r positions address width is_signed rd (Some page)).world
    load_kept page at =
        let call : After ℕ = read_word_of digest_of page (word_offset address) (going w.ctl positions) in
        let among = located_among kind.Load image.pages (numbers_of r.pages) address page at in
        let says = told digest_of room_stays reads w k none hart below first e budget count micro here under there positions page (word_offset address)
        (offset_inside address) (offset_aligned address) (inl among) in
        read_event digest_of room_stays reads w k none hart below first e budget count micro here under there positions page (word_offset address)
        (offset_inside address) (offset_aligned address) (inl among)
        (λ eight. retires (record w { ctl = call.after.ctl }) run (retired_with r (loaded r.context rd width is_signed (part_of_word eight address width))))
        (λ eight eight_is stay kept.
        let now : Enclave = retired_with r (loaded r.context rd width is_signed (part_of_word eight address width)) in
        let steps = live_load image w.ctl.mirror r (alone_so digest_of room_stays w k none hart below first e budget count micro here under there).live word address width is_signed rd page eight is at eight_is in
        retires_kept digest_of room_stays w k none hart below first e budget count micro here under there call.after.ctl
        (access digest_of room_stays w k none hart below first e budget count micro here under there call.after.ctl says.leaves stay) now
        (retires_over image.pages (page_bytes w.ctl.mirror) (page_bytes call.after.ctl.mirror) r now
        (same_bytes digest_of room_stays w k none hart below first e budget count micro here under there call.after.ctl says.leaves stay image.pages) steps)
        (pages_stay digest_of room_stays w k none hart below first e budget count micro here under there now steps word (Load address width is_signed rd) is refl))
