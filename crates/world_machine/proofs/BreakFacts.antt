-- What is known where an enclave's store meets a page that it shares: the instruction is that store, and which page takes the shared one's place.
use Rattle.std.proofs.Common.{◌≡◌, ℕ, ◌+◌, ◌*◌, ◌%◌, ◌<◌, eqb, if◌then◌else◌, Bool, true, false, List, [], ◌∷◌, length, slice_get, Option, Some, None, refl, sym, ap, ◌∙◌, subst}
use Rattle.std.specs.Prelude.{Contains, option_map}
use Rattle.std.proofs.lemmas.List.Elements.{All-contains, All-get_or, Contains-append_right, Contains-get_or}
use Rattle.std.proofs.lemmas.Option.{get_or_from_slice_get, slice_get-map, slice_get_within}
use Rattle.byteorder.specs.Endian.{little_bytes, little_number}
use Rattle.pl_base.specs.Bytes.{bytes_at, with_bytes}
use Rattle.pl_base.specs.Pages.{is_among}
use Rattle.pl_base.specs.declared.access.Kind.{Kind}
use Rattle.pl_base.specs.declared.access.Kind.TheVariants as kind
use Rattle.pl_base.specs.declared.number.EncNo.{EncNo}
use Rattle.pl_base.specs.declared.state.Why.TheVariants as why_is
use Rattle.mem_geom.specs.Parts.{page_bytes}
use Rattle.mon_enclave.specs.declared.enclave.Enclave.{Enclave}
use Rattle.mon_enclave.specs.declared.enclave.PageKind.TheVariants.{Own, Shared}
use Rattle.mon_enclave.specs.Records.{enclave_at, next_spare, page_number_of}
use Rattle.mon_image.specs.declared.image.Image.{Image}
use Rattle.mon_image.specs.declared.page.ImagePage.{ImagePage}
use Rattle.rv_alone.specs.declared.step.Act.{Act}
use Rattle.rv_alone.specs.declared.step.Act.TheVariants.{Call, Load, Set, Store, Trap}
use Rattle.rv_alone.specs.Alone.{next, one, page_of_act, page_written, written_pages}
use Rattle.rv_alone.specs.Effect.{act_of}
use Rattle.rv_alone.specs.Flat.{Flat, Page, number_in, on, page_number, permitted}
use Rattle.rv_hart.specs.declared.walks.Micro.{Micro}
use Rattle.pl_history.specs.Monitor.{Monitor, Number, flat_image, number, pages_taken}
use Rattle.pl_history.specs.OwnedPages.{PagesApart, PagesStand}
use Rattle.pl_history.specs.Running.{needs_page}
use Rattle.pl_history.proofs.OwnedPages.{legal_pages}
use Rattle.world_attack.specs.Room.{RoomStays}
use Rattle.world_machine.specs.declared.under.Under.TheVariants.{Running}
use Rattle.world_machine.specs.EnclavesAgree.{EnclaveStands, IsOwnOrShared, IsOwn}
use Rattle.world_machine.specs.LinesUnderWay.{IsAccessed, MakesAccess, access_of}
use Rattle.world_machine.specs.Making.{image_of}
use Rattle.world_machine.specs.Pages.{flat_pages, numbers_of}
use Rattle.world_machine.specs.PagesAgree.{PagesAre}
use Rattle.world_machine.specs.Running.{RunNow, leaves, retired_with}
use Rattle.world_machine.specs.Standing.{Kept, state_of, written_page}
use Rattle.world_machine.specs.Worlds.{WorldData, hart_line, under_at}
use Rattle.world_machine.proofs.BrokenPages.{IsUnbroken, need_where, next_is, next_not_held, shared_isnt, spare_left}
use Rattle.world_machine.proofs.FlatPages.{located, reads_located}
use Rattle.world_machine.proofs.ForkedNumbers.{shadows_stand}
use Rattle.world_machine.proofs.Instructions.{IsFetched, flat_of, store_retires}
use Rattle.world_machine.proofs.LeavingRuns.{leaves_needing}
use Rattle.world_machine.proofs.Lists.{if_other, if_same}
use Rattle.world_machine.proofs.LiveEnclaves.{live_reached}
use Rattle.world_machine.proofs.NumberRows.{own_within}
use Rattle.world_machine.proofs.ReachedPages.{IsToBreak}
use Rattle.world_machine.proofs.RunMoves.{run_line}
use Rattle.world_machine.proofs.RunRows.{alone_so, leaves_by, pages, standing, written_is}

-- ---- the instruction

-- an act that stores at an address
record StoresAt (act : Act) (address : ℕ) : Type 0 where
  pub width : ℕ
  pub value : ℕ
  pub is : act ≡ Store address width value

some_kind : (a b : Kind × ℕ) → Some a ≡ Some b → a.0 ≡ b.0
some_kind a b is = ap (λ (x : Kind × ℕ). x.0) (let same : a ≡ b = cc in same)

some_address : (a b : Kind × ℕ) → Some a ≡ Some b → a.1 ≡ b.1
some_address a b is = ap (λ (x : Kind × ℕ). x.1) (let same : a ≡ b = cc in same)

not_load : kind.Load ≡ kind.Store → ⊥
not_load same = cc

stores_at : (act : Act) (address : ℕ) → access_of act ≡ Some (kind.Store, address) → StoresAt act address
stores_at (Set context) address is = (let clash : None ≡ Some (kind.Store, address) = is in cc)
stores_at (Load va width is_signed rd) address is = absurd (not_load (some_kind (kind.Load, va) (kind.Store, address) is))
stores_at (Store va width value) address is =
    let same : va ≡ address = some_address (kind.Store, va) (kind.Store, address) is in
    record { width = width; value = value; is = ap (λ a. Store a width value) same }
stores_at (Call code value) address is = (let clash : None ≡ Some (kind.Store, address) = is in cc)
stores_at (Trap cause value) address is = (let clash : None ≡ Some (kind.Store, address) = is in cc)

some_page : (place : ℕ) (f : Page → ℕ) (o : Option Page) (x : ℕ) → option_map f o ≡ Some x → option_map (λ (p : Page). place) o ≡ Some place
some_page place f None x is = cc
some_page place f (Some p) x is = refl

-- a store to a page that is located is one to the page of its address
stored_page : (bytes_of : ℕ → List ℕ) (image : List ImagePage) (numbers : List ℕ) (address page : ℕ) → located kind.Store image numbers address ≡ Some page
    → option_map (λ (p : Page). page_number address) (permitted kind.Store (flat_pages bytes_of image numbers) address) ≡ Some (page_number address)
stored_page bytes_of image numbers address page at =
    some_page (page_number address) (number_in 1 address) (permitted kind.Store (flat_pages bytes_of image numbers) address) _
    (reads_located bytes_of image numbers kind.Store 1 address ∙ ap (option_map (λ n. little_number 1 (bytes_at (bytes_of n) (address % 4096) 1))) at)

module _ (digest_of : List ℕ → List ℕ) (room_stays : RoomStays) (w : WorldData) (k : Kept digest_of w) (none : w.collision ≡ None) (hart : ℕ) (below : hart < w.setup.harts)
    (first : Bool) (e : EncNo) (budget count : ℕ) (micro : Micro) (here : hart_line w hart ≡ Some (run_line first e budget)) (under : under_at w.under hart ≡ Running micro count)
    (there : e.0 < length w.enclaves) where
  abbrev s : Monitor
  s = state_of w

  abbrev r : Enclave
  r = enclave_at w.enclaves e.0

  abbrev n : Number
  n = s.number e.0

  abbrev run : RunNow
  run = record { hart = hart; e = e.0; budget = budget; count = count }

  abbrev x : EnclaveStands w.setup (written_page w) w.owners e.0 r n
  x = standing digest_of room_stays w k none hart below first e budget count micro here under there

  abbrev its : PagesAre w.setup s.number r n
  its = pages digest_of room_stays w k none hart below first e budget count micro here under there

  abbrev here_now : Flat
  here_now = flat_of (page_bytes w.ctl.mirror) x.image.pages r

  module _ (access : Kind) (va index : ℕ) (accessed : IsAccessed x.image.pages (page_bytes w.ctl.mirror) r va access) (at : IsToBreak access x.image.pages r.pages va index) where
    store_made : (word : ℕ) × MakesAccess x.image.pages (page_bytes w.ctl.mirror) r word (kind.Store, va)
    store_made = subst (IsAccessed x.image.pages (page_bytes w.ctl.mirror) r va) at.store accessed

    act : StoresAt (act_of r.context store_made.0) va
    act = stores_at (act_of r.context store_made.0) va store_made.1.access_is

    is_fetched : IsFetched x.image.pages (page_bytes w.ctl.mirror) r store_made.0 (Store va act.width act.value)
    is_fetched = subst (IsFetched x.image.pages (page_bytes w.ctl.mirror) r store_made.0) act.is
        (live_reached x.image w.ctl.mirror r (alone_so digest_of room_stays w k none hart below first e budget count micro here under there).live store_made.0 store_made.1.word_is)

    -- the next instruction stores to the page
    pub stores_to : page_written on here_now ≡ Some index
    stores_to =
        written_is digest_of room_stays w k none hart below first e budget count micro here under there store_made.0 (Store va act.width act.value) is_fetched
        ∙ stored_page (page_bytes w.ctl.mirror) x.image.pages (numbers_of r.pages) va at.page at.located_at ∙ ap Some (sym at.place)

    -- and would go on
    abbrev after_store : ℕ → List ℕ
    after_store page = if eqb page at.page then with_bytes (page_bytes w.ctl.mirror at.page) (va % 4096) (little_bytes act.width act.value) else page_bytes w.ctl.mirror page

    goes : one here_now r.sent ≡ next (flat_of after_store x.image.pages (retired_with r (Rattle.rv_alone.specs.Effect.advanced r.context)))
    goes = (store_retires x.image.pages (page_bytes w.ctl.mirror) r after_store store_made.0 va act.width act.value at.page is_fetched at.located_at x.held.apart
        (record {
          here = if_same at.page _ (page_bytes w.ctl.mirror at.page);
          others = λ other among differs. if_other at.page other _ (page_bytes w.ctl.mirror other) differs;
        })).outcome

    abbrev its_image : Rattle.rv_alone.specs.Flat.Image
    its_image = flat_image (image_of w.setup r.image)

    abbrev pub so_alone : Rattle.rv_alone.specs.Alone.alone its_image r.sent r.retired ≡ Some here_now
    so_alone = (let so = alone_so digest_of room_stays w k none hart below first e budget count micro here under there in
        ap (λ (i : Image). Rattle.rv_alone.specs.Alone.alone (flat_image i) r.sent r.retired) so.image_is ∙ so.live.alone_is)

    -- ---- no spare is left

    pub need_kept : r.spares ≡ [] → Kept digest_of (leaves w run r count why_is.NeedPage)
    need_kept empty =
        let so = alone_so digest_of room_stays w k none hart below first e budget count micro here under there in
        leaves_by digest_of room_stays w k none hart below first e budget count micro here under there why_is.NeedPage
        (leaves_needing x.image w.ctl.mirror r n count budget so.live so.counted _ _ so_within goes needs)
      where
        so_within : count < budget
        so_within = (Rattle.world_machine.proofs.RunRows.running digest_of room_stays w k none hart below first e budget count micro here under there).within

        needs : needs_page n.parent n.spares (written_pages (flat_image x.image) n.sent (n.retired + count)) (page_written on here_now) ≡ true
        needs =
            let so = alone_so digest_of room_stays w k none hart below first e budget count micro here under there in
            ap (needs_page n.parent n.spares (written_pages (flat_image x.image) n.sent (n.retired + count))) stores_to
            ∙ (λ i. needs_page n.parent n.spares (written_pages (flat_image (sym so.image_is i)) (so.counted.sent i) (sym so.counted.retired i)) (Some index))
            ∙ need_where w.setup s.number r n its here_now so_alone index stores_to at.page at.shared empty

    -- ---- a spare takes its place

    module _ (spare : ℕ) (later : List ℕ) (left : r.spares ≡ spare ∷ later) where
      abbrev pub unbroken : IsUnbroken s.number n.parent its.broken index at.page
      unbroken = shared_isnt w.setup s.number r n its index at.page at.shared

      owned : PagesStand w.setup s
      owned = legal_pages.stand w.setup w.history.bytes w.history.entries k.legal

      pub apart : PagesApart s
      apart = legal_pages.apart w.setup w.history.bytes w.history.entries k.legal

      pub next_given : Contains n.spares (next_spare r)
      next_given = subst (Contains n.spares) (sym (next_is w.setup s.number r n its spare later left))
          (Contains-get_or n.spares (length its.broken) 0 (spare_left w.setup s.number r n its spare later left))

      -- the next spare is the number's
      pub next_own : IsOwn w.owners e.0 (next_spare r)
      next_own =
          sym (k.stands.owners.owner (next_spare r))
          ∙ All-contains (λ page. s.owner page ≡ Some (number e.0)) (pages_taken n) (next_spare r) (owned.taken e.0) (Contains-append_right n.pages n.spares (next_spare r) next_given)

      -- and no page of the record
      pub next_new : is_among (numbers_of r.pages) (next_spare r) ≡ false
      next_new = next_not_held w.setup s (shadows_stand digest_of w k) e.0 r its apart unbroken.shadow unbroken.forked spare later left

      -- the shared page is there
      held_at : IsOwnOrShared w.owners e.0 r.parent (Shared at.page)
      held_at = subst (IsOwnOrShared w.owners e.0 r.parent) (get_or_from_slice_get r.pages index (Shared at.page) (Own 0) at.shared)
          (All-get_or (IsOwnOrShared w.owners e.0 r.parent) r.pages index (Own 0) (slice_get_within r.pages index (Shared at.page) at.shared) x.held.owned)

      pub shared_inside : at.page < 64 * w.ctl.zones
      shared_inside = own_within digest_of w k held_at.0.0 at.page held_at.2

      pub shared_number : slice_get (numbers_of r.pages) index ≡ Some at.page
      shared_number = slice_get-map page_number_of r.pages index ∙ ap (option_map page_number_of) at.shared
