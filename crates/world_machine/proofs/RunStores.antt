-- A store keeps what a world keeps.
use Rattle.std.proofs.Common.{◌≡◌, ℕ, ◌*◌, ◌/◌, ◌%◌, ◌<◌, eqb, if◌then◌else◌, Bool, List, length, Option, Some, None, ◌∙◌, subst, inl, arith, slice_get, true, sym}
use Rattle.std.specs.Prelude.{Contains}
use Rattle.std.specs.List.{All}
use Rattle.std.proofs.lemmas.List.Elements.{All-contains, All-get_or}
use Rattle.byteorder.specs.Endian.{little_bytes}
use Rattle.pl_base.specs.Bytes.{with_bytes}
use Rattle.mem_ctl.specs.Access.{BothChange}
use Rattle.mon_owner.specs.declared.owners.Owner.{Owner}
use Rattle.world_machine.specs.EnclavesAgree.{IsOwn, IsOwnOrShared}
use Rattle.pl_base.specs.declared.access.Kind.TheVariants as kind
use Rattle.pl_base.specs.declared.number.EncNo.{EncNo}
use Rattle.mem_geom.specs.Parts.{page_bytes}
use Rattle.mem_ctl.specs.Calls.{write_part_of}
use Rattle.mem_ctl.specs.Data.{After, CtlData, going}
use Rattle.mem_ctl.specs.Laws.{WritesTell}
use Rattle.mon_enclave.specs.declared.enclave.Enclave.{Enclave}
use Rattle.mon_enclave.specs.Records.{enclave_at}
use Rattle.mon_image.specs.declared.image.Image.{Image}
use Rattle.rv_alone.specs.declared.step.Act.TheVariants.{Store}
use Rattle.rv_alone.specs.Effect.{IsAccess, advanced}
use Rattle.rv_hart.specs.declared.walks.Micro.{Micro}
use Rattle.world_attack.specs.Room.{RoomStays}
use Rattle.world_machine.specs.declared.under.Under.TheVariants.{Running}
use Rattle.world_machine.specs.Pages.{numbers_of, reached}
use Rattle.world_machine.specs.Running.{RunNow, retired_with, retires, stores_in}
use Rattle.world_machine.specs.Standing.{Kept, state_of}
use Rattle.world_machine.specs.Worlds.{WorldData, hart_line, under_at}
use Rattle.world_machine.proofs.FlatPages.{StoresInto, located, located_among}
use Rattle.world_machine.proofs.Instructions.{IsFetched, flat_of}
use Rattle.world_machine.proofs.LiveEnclaves.{IsLive, act_access, live_store}
use Rattle.world_machine.proofs.Lists.{if_other, if_same}
use Rattle.world_machine.proofs.NumberRows.{but_changed, own_within, held_inside}
use Rattle.world_machine.proofs.RunMoves.{own_access, run_line}
use Rattle.world_machine.proofs.RunOutcomes.{outcome_kept}
use Rattle.world_machine.proofs.WordParts.{stays_in_word}
use Rattle.world_machine.proofs.RunRows.{alone_so, retires_kept, standing, written_is, pages_retire, pages}
use Rattle.world_machine.specs.PagesAgree.{PagesAre}
use Rattle.world_machine.proofs.BrokenPages.{own_is_broken}
use Rattle.world_machine.proofs.ReachedPages.{reached_located, reached_own}
use Rattle.pl_base.specs.Pages.{is_among}
use Rattle.mon_enclave.specs.declared.enclave.PageKind.{PageKind}
use Rattle.rv_alone.specs.Alone.{page_written, page_of_act}
use Rattle.pl_history.specs.Monitor.{Number, Monitor}
use Rattle.std.specs.Option.{option_map}
use Rattle.std.proofs.lemmas.Option.{slice_get_within, get_or_from_slice_get}
use Rattle.mon_enclave.specs.declared.enclave.PageKind.TheVariants.{Own}
use Rattle.rv_alone.specs.Flat.{Flat, Page, on, page_number, permitted}

-- a page of its own is the number's
stored_own : (owners : List Owner) (e : ℕ) (parent : Option EncNo) (kinds : List PageKind) (i page : ℕ) → All (IsOwnOrShared owners e parent) kinds → slice_get kinds i ≡ Some (Own page) → IsOwn owners e page
stored_own owners e parent kinds i page held is =
    subst (IsOwnOrShared owners e parent) (get_or_from_slice_get kinds i (Own page) (Own 0) is) (All-get_or (IsOwnOrShared owners e parent) kinds i (Own 0) (slice_get_within kinds i (Own page) is) held)

-- a store is to the page of its address
stored_place : (a : Flat) (address width value p : ℕ) → page_of_act a (Store address width value) ≡ Some p → p ≡ page_number address
stored_place a address width value p is = from (permitted kind.Store a.pages address) is
  where
    from : (o : Option Page) → option_map (λ (page : Page). page_number address) o ≡ Some p → p ≡ page_number address
    from None is = cc
    from (Some page) is = (let same : Some (page_number address) ≡ Some p = is in cc)

-- what a changed page and others that stay say of a store
stores_into : (old new : ℕ → List ℕ) (numbers : List ℕ) (zones page address width value : ℕ) → ((other : ℕ) → other < 64 * zones → new other ≡ (if eqb other page then with_bytes (old page) (address % 4096) (little_bytes width value) else old other))
    → page < 64 * zones → ((other : ℕ) → Contains numbers other → other < 64 * zones) → StoresInto old new numbers page address width value
stores_into old new numbers zones page address width value changes there inside = record {
  here = changes page there ∙ if_same page (with_bytes (old page) (address % 4096) (little_bytes width value)) (old page);
  others = λ other among differs. changes other (inside other among) ∙ if_other page other (with_bytes (old page) (address % 4096) (little_bytes width value)) (old other) differs;
}

module _ (digest_of : List ℕ → List ℕ) (room_stays : RoomStays) (writes : WritesTell digest_of) (w : WorldData) (k : Kept digest_of w) (none : w.collision ≡ None) (hart : ℕ) (below : hart < w.setup.harts)
    (first : Bool) (e : EncNo) (budget count : ℕ) (micro : Micro) (here : hart_line w hart ≡ Some (run_line first e budget)) (under : under_at w.under hart ≡ Running micro count)
    (there : e.0 < length w.enclaves) (positions : List ℕ) (word address width value : ℕ) where
  abbrev r : Enclave
  r = enclave_at w.enclaves e.0

  abbrev run : RunNow
  run = record { hart = hart; e = e.0; budget = budget; count = count }

  abbrev image : Image
  image = (standing digest_of room_stays w k none hart below first e budget count micro here under there).image

  abbrev s : Monitor
  s = state_of w

  abbrev n : Number
  n = s.number e.0

  abbrev written : PagesAre w.setup s.number r n
  written = pages digest_of room_stays w k none hart below first e budget count micro here under there

  module _ (is : IsFetched image.pages (page_bytes w.ctl.mirror) r word (Store address width value)) where
    abbrev now : Enclave
    now = retired_with r (advanced r.context)

    live : IsLive image w.ctl.mirror r
    live = (alone_so digest_of room_stays w k none hart below first e budget count micro here under there).live

    is_access : IsAccess (Store address width value)
    is_access = act_access image w.ctl.mirror r live word (Store address width value) is

    abbrev here_now : Flat
    here_now = flat_of (page_bytes w.ctl.mirror) image.pages r

    -- a page that serves the store isn't shared: the number has broken it, or wasn't forked
    own_broken : (page : ℕ) → reached kind.Store image.pages r.pages address ≡ Some page → (shadow p : ℕ) → n.parent ≡ Some shadow → page_written on here_now ≡ Some p → is_among written.broken p ≡ true
    own_broken page at shadow p forked stores =
        let place : p ≡ page_number address
        = stored_place here_now address width value p (sym (written_is digest_of room_stays w k none hart below first e budget count micro here under there word (Store address width value) is) ∙ stores) in
        subst (λ i. is_among written.broken i ≡ true) (sym place)
        (own_is_broken w.setup s.number r n written shadow (page_number address) page forked (reached_own image.pages r.pages address page at)).among

    pub store_kept : (page : ℕ) → reached kind.Store image.pages r.pages address ≡ Some page → Kept digest_of (stores_in digest_of w run r positions address width value (Some page)).world
    store_kept page at =
        let call : After (Unit {0}) = write_part_of digest_of page (address % 4096) width value (going w.ctl positions) in
        let ctl : CtlData = call.after.ctl in
        let located_is : located kind.Store image.pages (numbers_of r.pages) address ≡ Some page = reached_located kind.Store image.pages r.pages address page at in
        let among : Contains (numbers_of r.pages) page = located_among kind.Store image.pages (numbers_of r.pages) address page located_is in
        let page_own : IsOwn w.owners e.0 page = stored_own w.owners e.0 r.parent r.pages (page_number address) page (standing digest_of room_stays w k none hart below first e budget count micro here under there).held.owned
        (reached_own image.pages r.pages address page at) in
        let inside : page < 64 * w.ctl.zones = own_within digest_of w k e.0 page page_own in
        let block_few : address % 4096 / 64 < 64 = omega arith in
        let part_aligned : address % 4096 % width ≡ 0 = (stays_in_word address width is_access.0 is_access.1).in_part in
        let told = writes page (address % 4096) width value (going w.ctl positions) k.trees inside (omega arith) is_access.0 part_aligned in
        let every : (other : ℕ) → Contains (numbers_of r.pages) other → other < 64 * w.ctl.zones
        = λ other listed. All-contains (λ p. p < 64 * w.ctl.zones) (numbers_of r.pages) other
        (held_inside digest_of w k e.0 r.parent r.pages (standing digest_of room_stays w k none hart below first e budget count micro here under there).held.owned) listed in
        outcome_kept digest_of room_stays w k none hart below first e budget count micro here under there page (address % 4096 / 64) block_few (inl among) ctl told.leaves
        (λ _. BothChange page (λ bytes. with_bytes bytes (address % 4096) (little_bytes width value)) w.ctl ctl)
        (λ _. retires (record w { ctl = ctl }) run now)
        (λ _ both.
        let steps = live_store image w.ctl.mirror r live ctl.mirror word address width value page is located_is
        (stores_into (page_bytes w.ctl.mirror) (page_bytes ctl.mirror) (numbers_of r.pages) w.ctl.zones page address width value both.mirror_pages inside every) in
        retires_kept digest_of room_stays w k none hart below first e budget count micro here under there ctl
        (own_access digest_of w e.0 page ctl k (subst (λ size. e.0 < size) k.sizes.numbers there) told.leaves page_own
        (but_changed page (λ bytes. with_bytes bytes (address % 4096) (little_bytes width value)) w.ctl ctl both))
        now steps
        (pages_retire digest_of room_stays w k none hart below first e budget count micro here under there now (page_bytes ctl.mirror) steps (own_broken page at)))
        call.outcome told.tells
