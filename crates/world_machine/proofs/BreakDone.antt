-- A page that is broken has its copy, leaf, record and fence; and the world keeps what worlds keep.
use Rattle.std.proofs.Common.{◌≡◌, ◌≢◌, ℕ, ◌+◌, ◌*◌, ◌<◌, eqb, if◌then◌else◌, Bool, true, false, List, [], ◌∷◌, length, slice_get, Option, Some, None, refl, sym, ap, ◌∙◌, subst, arith, inl, inr, length-set}
use Rattle.std.specs.Prelude.{Contains, slice_set}
use Rattle.std.specs.List.{All, AllByRecursion}
use Rattle.std.proofs.lemmas.Bool.{false≢true}
use Rattle.std.proofs.lemmas.List.Elements.{All-contains, All-contains_itself, All-map, All-set, All-weaker, recursion_from_All}
use Rattle.std.proofs.lemmas.List.{get_or-map, length-map}
use Rattle.std.proofs.lemmas.Option.{slice_get_within}
use Rattle.pl_base.specs.HartSet.{space_of_number}
use Rattle.pl_base.specs.Pages.{is_among}
use Rattle.pl_base.specs.declared.access.Kind.{Kind}
use Rattle.pl_base.specs.declared.access.Kind.TheVariants as kind
use Rattle.pl_base.specs.declared.address.Vpn.{Vpn}
use Rattle.pl_base.specs.declared.number.EncNo.{EncNo}
use Rattle.rv_hart.specs.declared.walks.Micro.{Micro}
use Rattle.rv_tlb.specs.declared.tlb.TlbEntry.{TlbEntry}
use Rattle.mem_ctl.specs.Access.{Leaves}
use Rattle.mem_ctl.specs.Data.{CtlData}
use Rattle.mem_geom.specs.Parts.{page_bytes}
use Rattle.mon_enclave.specs.declared.enclave.Enclave.{Enclave}
use Rattle.mon_enclave.specs.declared.enclave.PageKind.{PageKind}
use Rattle.mon_enclave.specs.declared.enclave.PageKind.TheVariants.{Own, Shared}
use Rattle.mon_enclave.specs.Records.{enclave_at, free_enclave, next_spare, page_number_of, with_enclave, with_own_page}
use Rattle.mon_fence.specs.declared.fences.Fence.{Fence}
use Rattle.mon_fence.specs.Fences.{fence_of, posted}
use Rattle.mon_fence.proofs.Needs.{fence_of-set_other}
use Rattle.mon_host.specs.Laws.{mirror_words}
use Rattle.mon_image.specs.declared.image.Image.{Image}
use Rattle.mon_life.specs.Pages.{leaves_of}
use Rattle.mon_shadow.specs.BreakLaws.{PageIsCopied}
use Rattle.mon_tables.specs.declared.number_tables.Leaf.{Leaf}
use Rattle.mon_tables.specs.Space.{first_vpn, mapping_at, vpn_of_page}
use Rattle.mon_tables.specs.SpaceWalks.{NumberTables}
use Rattle.mon_tables.specs.Tables.{number_slot, table_number}
use Rattle.pl_history.specs.declared.line.Line.{Line}
use Rattle.pl_history.specs.Monitor.{Monitor, Number, is_host}
use Rattle.world_attack.specs.Room.{RoomStays}
use Rattle.world_machine.specs.declared.under.Under.{Under}
use Rattle.world_machine.specs.declared.under.Under.TheVariants.{Breaking, Running}
use Rattle.world_machine.specs.Acknowledging.{without_covered}
use Rattle.world_machine.specs.Answering.{goes_on}
use Rattle.world_machine.specs.BytesAgree.{HasPut, HostBytesAgree, OnlyAttacksDiffer, PageAgrees}
use Rattle.world_machine.specs.EnclavesAgree.{EnclaveStands, EnclavesAgree, IsOwnOrShared, IsOwn}
use Rattle.world_machine.specs.FencesStand.{NumberFenceStands, RemovalStands, removals_by}
use Rattle.world_machine.specs.LinesUnderWay.{IsAccessed, IsRestarting, IsRunning, LineUnderWay, number_under_way}
use Rattle.world_machine.specs.Making.{image_of}
use Rattle.world_machine.specs.Pages.{flat_pages, numbers_of}
use Rattle.world_machine.specs.PagesAgree.{PagesAgree, PagesAre}
use Rattle.world_machine.specs.RecordsAgree.{RecordAgrees, RecordsAgree, is_begun}
use Rattle.world_machine.specs.Standing.{Kept, state_of, written_page}
use Rattle.world_machine.specs.TablesAgree.{TablesAgree}
use Rattle.world_machine.specs.TranslationsAgree.{IsFresh, TranslationsStand, WalkingStands, space_of, walking}
use Rattle.world_machine.specs.Worlds.{WorldData, answered_at, hart_line, tlb_at, under_at}
use Rattle.world_machine.proofs.BreakFacts.{next_new, next_own, shared_number, stores_to, so_alone, apart, unbroken}
use Rattle.world_machine.proofs.BreakFences.{breaking_gives, breaking_is, breaking_number, breaking_put, breaking_removes, breaking_walks, breaks_fence}
use Rattle.world_machine.proofs.BrokenPages.{once_broke, pages_broke}
use Rattle.world_machine.proofs.BrokenSpaces.{flat_pages-broke, leaves_set, mapping_other}
use Rattle.world_machine.proofs.ForkedNumbers.{shadows_stand, under_way_childless}
use Rattle.world_machine.proofs.Frames.{Frame, accessed_still, enclaves_frame, line_frame, records_frame}
use Rattle.world_machine.proofs.HostBytes.{byte_of_page}
use Rattle.world_machine.proofs.LineKinds.{goes_on_line}
use Rattle.world_machine.proofs.LineMoves.{LineMoves}
use Rattle.world_machine.proofs.LineTranslations.{isnt_waiting}
use Rattle.world_machine.proofs.Lists.{ChangedAt, changed_set, everywhere, get-set_same, if_other, if_same, or_other, or_same}
use Rattle.world_machine.proofs.LiveEnclaves.{live_made}
use Rattle.world_machine.proofs.NumberChanges.{number_changed}
use Rattle.world_machine.proofs.NumberFreshness.{AllButOneSpace, broken_entries, broken_fresh}
use Rattle.world_machine.proofs.NumberRows.{host_within, not_host, not_host_tables, not_others, not_tables, own_guard, own_within, table_guard, held_inside}
use Rattle.world_machine.proofs.OwnersGiven.{in_among}
use Rattle.world_machine.proofs.PagesStay.{pages_frame}
use Rattle.world_machine.proofs.ReachedPages.{IsToBreak}
use Rattle.world_machine.proofs.RowKept.{RowFacts, attacks_frame, line_after, row_kept}
use Rattle.world_machine.proofs.RunMoves.{run_line, runs_number}
use Rattle.world_machine.proofs.RunRows.{alone_so, pages, running, standing}
use Rattle.world_machine.proofs.SetupFacts.{used_there}
use Rattle.world_machine.proofs.StandingFences.{fences_posted, no_fence}
use Rattle.world_machine.proofs.TablesReached.{host_table_at, host_tables_stay, number_table_at, number_tables_stay}
use Rattle.world_machine.proofs.TranslationFrames.{few_numbers, few_tables, giving_so, host_table_inside, live_there, number_table_inside, removal_so}
use Rattle.world_machine.proofs.UnderWay.{some_same}

pub number_listed : (kinds : List PageKind) (kind : PageKind) → Contains kinds kind → Contains (numbers_of kinds) (page_number_of kind)
number_listed kinds kind (k, low, is) =
    (k, subst (λ size. k < size) (sym (length-map kinds page_number_of)) low, get_or-map page_number_of kinds k kind (page_number_of kind) low ∙ ap page_number_of is)

module _ (digest_of : List ℕ → List ℕ) (room_stays : RoomStays) (w : WorldData) (k : Kept digest_of w) (none : w.collision ≡ None) (hart : ℕ) (below : hart < w.setup.harts)
    (first : Bool) (e : EncNo) (budget count : ℕ) (micro : Micro) (here : hart_line w hart ≡ Some (run_line first e budget)) (under : under_at w.under hart ≡ Running micro count)
    (there : e.0 < length w.enclaves) where
  abbrev s : Monitor
  s = state_of w

  abbrev r : Enclave
  r = enclave_at w.enclaves e.0

  abbrev n : Number
  n = s.number e.0

  abbrev x : EnclaveStands w.setup (written_page w) w.owners e.0 r n
  x = standing digest_of room_stays w k none hart below first e budget count micro here under there

  abbrev its : PagesAre w.setup s.number r n
  its = pages digest_of room_stays w k none hart below first e budget count micro here under there

  module _ (access : Kind) (va index : ℕ) (accessed : IsAccessed x.image.pages (page_bytes w.ctl.mirror) r va access) (at : IsToBreak access x.image.pages r.pages va index)
      (spare : ℕ) (later : List ℕ) (left : r.spares ≡ spare ∷ later) where
    abbrev now : ℕ
    now = next_spare r

    pub own : IsOwn w.owners e.0 now
    own = next_own digest_of room_stays w k none hart below first e budget count micro here under there access va index accessed at spare later left

    pub there_so : e.0 < w.setup.enclaves
    there_so = subst (λ size. e.0 < size) k.sizes.numbers there

    abbrev table : ℕ
    table = table_number w.setup.tables e.0 0

    -- a page of the record isn't the spare
    pub spare_apart : (page : ℕ) → Contains (numbers_of r.pages) page → page ≢ now
    spare_apart page listed same =
        let next_none : is_among (numbers_of r.pages) now ≡ false
        = next_new digest_of room_stays w k none hart below first e budget count micro here under there access va index accessed at spare later left in
        false≢true (sym next_none ∙ ap (is_among (numbers_of r.pages)) (sym same) ∙ in_among (numbers_of r.pages) page listed)

    -- nor the table, which is guarded and has no owner
    owned_apart : (f page : ℕ) → IsOwn w.owners f page → page ≢ table
    owned_apart f page is same = own_guard digest_of w k f page is (ap (slice_get w.owners) same ∙ table_guard digest_of w k e.0 0 there_so)

    held_apart : (kind : PageKind) → IsOwnOrShared w.owners e.0 r.parent kind → page_number_of kind ≢ table
    held_apart (Own page) is = owned_apart e.0 page is
    held_apart (Shared page) (shadow, of_shadow, is) = owned_apart shadow.0 page is

    table_apart : (page : ℕ) → Contains (numbers_of r.pages) page → page ≢ table
    table_apart page = All-contains (λ p. p ≢ table) (numbers_of r.pages) page
        (All-map (λ p. p ≢ table) page_number_of r.pages (All-weaker (IsOwnOrShared w.owners e.0 r.parent) (λ kind. page_number_of kind ≢ table) held_apart r.pages x.held.owned))

    abbrev r_now : Enclave
    r_now = with_own_page r index

    abbrev enclaves' : List Enclave
    enclaves' = with_enclave w.enclaves e.0 r_now

    abbrev vpn : Vpn
    vpn = vpn_of_page index

    abbrev fences' : List (Option Fence)
    fences' = posted w.fences hart (space_of_number e) (Some vpn)

    abbrev entries' : List TlbEntry
    entries' = without_covered (tlb_at w.tlbs hart) (space_of_number e) (Some vpn)

    abbrev tlbs' : List (List TlbEntry)
    tlbs' = slice_set w.tlbs hart entries'

    abbrev u : Under
    u = Breaking count index

    abbrev under' : List Under
    under' = slice_set w.under hart u

    runs : number_under_way (hart_line w hart) (under_at w.under hart) ≡ Some e.0
    runs = ap (λ l. number_under_way l (under_at w.under hart)) here ∙ ap (number_under_way (Some (run_line first e budget))) under ∙ runs_number first e budget count micro

    not_theirs : (other f : ℕ) → other ≢ hart → number_under_way (hart_line w other) (under_at w.under other) ≡ Some f → f ≢ e.0
    not_theirs other f differs is same = differs (k.stands.apart other hart e.0 (is ∙ ap Some same) runs)

    change : ChangedAt free_enclave w.enclaves enclaves' e.0 r_now
    change = changed_set free_enclave w.enclaves e.0 r_now there

    moves : LineMoves w hart under' w.answered w.history s u (answered_at w.answered hart)
    moves = goes_on_line digest_of room_stays w k hart below u (sym (ap is_begun under))

    -- what a line under way is, of a run that broke a page
    breaking_line : (P : Option Line → Under → Type 0) → P (Some (run_line first e budget)) u → P (hart_line w hart) (under_at under' hart)
    breaking_line P holds = subst (λ l. P l (under_at under' hart)) (sym here) (subst (P (Some (run_line first e budget))) (sym moves.under_change.here) holds)

    running_now : IsRunning w.setup (written_page w) r n hart budget count micro
    running_now = running digest_of room_stays w k none hart below first e budget count micro here under there

    n_live : n.live ≡ true
    n_live = (alone_so digest_of room_stays w k none hart below first e budget count micro here under there).n_live

    -- ---- the bytes

    module _ (ctl : CtlData) (leaves : Leaves digest_of w.ctl ctl) (word : ℕ) (told : PageIsCopied at.page now (number_slot w.setup.tables e.0 index) word w.ctl ctl)
        (tables_now : NumberTables w.setup.tables e.0 (mirror_words ctl) (slice_set (leaves_of r.pages (image_of w.setup r.image).pages) index (record { page = now; perms = at.image_page.perms }))) where
      abbrev bytes' : ℕ → List ℕ
      bytes' = page_bytes ctl.mirror

      other_page : {A : Type 0} (page : ℕ) (a b c : A) → page ≢ now → page ≢ table → (if eqb page now then a else (if eqb page table then b else c)) ≡ c
      other_page page a b c not_spare not_table = if_other now page a _ not_spare ∙ if_other table page b c not_table

      -- a page that is neither the spare nor the table stays
      page_stays : (page : ℕ) → page < 64 * w.ctl.zones → page ≢ now → page ≢ table → page_bytes ctl.mirror page ≡ page_bytes w.ctl.mirror page
      page_stays page within not_spare not_table = told.mirror_pages page within ∙ other_page page _ _ _ not_spare not_table

      off_chip_stays : (page : ℕ) → page < 64 * w.ctl.zones → page ≢ now → page ≢ table → page_bytes ctl.off_chip page ≡ page_bytes w.ctl.off_chip page
      off_chip_stays page within not_spare not_table = told.off_chip_pages page within ∙ other_page page _ _ _ not_spare not_table

      spare_here : {A : Type 0} (a b : A) → (if eqb now now then a else b) ≡ a
      spare_here a b = if_same now a b

      spare_mirror : page_bytes ctl.mirror now ≡ page_bytes w.ctl.mirror at.page
      spare_mirror = told.mirror_pages now (own_within digest_of w k e.0 now own) ∙ spare_here _ _

      spare_off_chip : page_bytes ctl.off_chip now ≡ page_bytes w.ctl.mirror at.page
      spare_off_chip = told.off_chip_pages now (own_within digest_of w k e.0 now own) ∙ spare_here _ _

      -- the pages of the record have the bytes that they had
      record_bytes : AllByRecursion (λ page. bytes' page ≡ page_bytes w.ctl.mirror page) (numbers_of r.pages)
      record_bytes = recursion_from_All (λ page. bytes' page ≡ page_bytes w.ctl.mirror page) (numbers_of r.pages)
          (All-weaker (Contains (numbers_of r.pages)) (λ page. bytes' page ≡ page_bytes w.ctl.mirror page)
          (λ page listed. page_stays page
          (All-contains (λ p. p < 64 * w.ctl.zones) (numbers_of r.pages) page (held_inside digest_of w k e.0 r.parent r.pages x.held.owned) listed)
          (spare_apart page listed) (table_apart page listed))
          (numbers_of r.pages) (All-contains_itself (numbers_of r.pages)))

      flat_stays : flat_pages bytes' x.image.pages (numbers_of r_now.pages) ≡ flat_pages (page_bytes w.ctl.mirror) x.image.pages (numbers_of r.pages)
      flat_stays = flat_pages-broke (page_bytes w.ctl.mirror) bytes' x.image.pages r.pages index at.page now
          (shared_number digest_of room_stays w k none hart below first e budget count micro here under there access va index accessed at spare later left) spare_mirror record_bytes

      -- ---- records

      frame : Frame w.setup e.0 (enclave_at w.enclaves) (enclave_at enclaves') s.number s.number (written_page w) bytes' w.owners w.owners
      frame = record {
        records = change.others;
        numbers = λ f other. refl;
        owned = λ f page other is. is;
        own_bytes = λ f page other is. page_stays page (own_within digest_of w k f page is) (not_others digest_of w k e.0 there_so f now page other is (inl own))
            (λ same. not_others digest_of w k e.0 there_so f table page other is (inr (0, omega arith, refl)) same);
        table_bytes = λ f level other few low. page_stays (table_number w.setup.tables f level) (number_table_inside digest_of w k f level few)
            (not_tables digest_of w k e.0 there_so f level now other few low (inl own)) (not_tables digest_of w k e.0 there_so f level table other few low (inr (0, omega arith, refl)));
        childless = λ f shadow other parent. under_way_childless digest_of w k hart e.0 runs f shadow parent;
      }

      agrees : RecordAgrees r n
      agrees = k.stands.records e.0

      agrees_now : RecordAgrees r_now n
      agrees_now = record {
        state = agrees.state;
        live = agrees.live;
        hart = agrees.hart;
        image = agrees.image;
        given = agrees.given;
        parent = agrees.parent;
        sent = agrees.sent;
        taken = agrees.taken;
        retired = agrees.retired;
      }

      stands_now : EnclaveStands w.setup bytes' w.owners e.0 r_now n
      stands_now = record {
        image = x.image;
        image_is = x.image_is;
        held = record {
          count = length-set r.pages index (Own now) ∙ x.held.count;
          apart = once_broke w.setup s (shadows_stand digest_of w k) e.0 r its
              (apart digest_of room_stays w k none hart below first e budget count micro here under there access va index accessed at spare later left)
              (unbroken digest_of room_stays w k none hart below first e budget count micro here under there access va index accessed at spare later left).shadow
              (unbroken digest_of room_stays w k none hart below first e budget count micro here under there access va index accessed at spare later left).forked
              spare later left index x.held.apart;
          owned = All-set (IsOwnOrShared w.owners e.0 r.parent) r.pages index (Own now) own x.held.owned;
        };
        state = record {
          now = x.state.now;
          alone_is = x.state.alone_is;
          context = x.state.context;
          received = x.state.received;
          out = x.state.out;
          status = x.state.status;
          aligned = x.state.aligned;
          taken_few = x.state.taken_few;
          shown_few = x.state.shown_few;
          shown = x.state.shown;
          pages = λ made. x.state.pages made ∙ sym flat_stays;
          start = x.state.start;
        };
      }

      records_agree : RecordsAgree (enclave_at enclaves') s.number
      records_agree = records_frame w.setup e.0 (enclave_at w.enclaves) (enclave_at enclaves') s.number s.number (written_page w) bytes' w.owners w.owners frame k.stands.records
          (subst (λ y. RecordAgrees y n) (sym change.here) agrees_now)

      enclaves_agree : EnclavesAgree w.setup bytes' w.owners (enclave_at enclaves') s.number
      enclaves_agree = enclaves_frame w.setup e.0 (enclave_at w.enclaves) (enclave_at enclaves') s.number s.number (written_page w) bytes' w.owners w.owners frame k.stands.enclaves
          (λ used. subst (λ y. EnclaveStands w.setup bytes' w.owners e.0 y n) (sym change.here) stands_now)

      pages_agree : PagesAgree w.setup (enclave_at enclaves') s.number
      pages_agree = pages_frame w.setup e.0 (enclave_at w.enclaves) (enclave_at enclaves') s.number s.number change.others (λ f other. refl) (λ f shadow parent. refl) k.stands.pages
          (subst (λ y. PagesAre w.setup s.number y n) (sym change.here)
          (pages_broke w.setup s.number r n its _ (so_alone digest_of room_stays w k none hart below first e budget count micro here under there access va index accessed at) index
          (stores_to digest_of room_stays w k none hart below first e budget count micro here under there access va index accessed at) at.page at.shared spare later left))

      -- ---- what attacks may have changed

      host : HostBytesAgree ctl.off_chip s
      host page is =
          let clash : (q : ℕ) → page ≡ q → is_host (s.owner q) ≡ false → ⊥ = λ q same never. false≢true (sym never ∙ ap (λ p. is_host (s.owner p)) (sym same) ∙ is) in
          off_chip_stays page (host_within digest_of w k page is) (λ same. clash now same (not_host digest_of w k e.0 there_so now (inl own)))
          (λ same. clash table same (not_host digest_of w k e.0 there_so table (inr (0, omega arith, refl)))) ∙ k.stands.host page is

      spare_agrees : PageAgrees ctl.off_chip ctl.mirror s.attacks now
      spare_agrees i low free = sym (byte_of_page ctl.off_chip now i low) ∙ ap (λ bytes. slice_get bytes i) (spare_off_chip ∙ sym spare_mirror) ∙ byte_of_page ctl.mirror now i low

      still_agrees : (page : ℕ) → PageAgrees w.ctl.off_chip w.ctl.mirror s.attacks page → PageAgrees ctl.off_chip ctl.mirror s.attacks page
      still_agrees page old i low free = leaves.still_written (4096 * page + i) (old i low free)

      own_agrees : (page : ℕ) → Contains (numbers_of r_now.pages) page → PageAgrees ctl.off_chip ctl.mirror s.attacks page
      own_agrees page = All-contains (PageAgrees ctl.off_chip ctl.mirror s.attacks) (numbers_of r_now.pages) page
          (All-map (PageAgrees ctl.off_chip ctl.mirror s.attacks) page_number_of r_now.pages
          (All-set (λ kind. PageAgrees ctl.off_chip ctl.mirror s.attacks (page_number_of kind)) r.pages index (Own now) spare_agrees
          (All-weaker (Contains r.pages) (λ kind. PageAgrees ctl.off_chip ctl.mirror s.attacks (page_number_of kind)) was_held r.pages (All-contains_itself r.pages))))
        where
          was_held : (kind : PageKind) → Contains r.pages kind → PageAgrees ctl.off_chip ctl.mirror s.attacks (page_number_of kind)
          was_held kind listed = still_agrees (page_number_of kind) (k.stands.attacks.made (page_number_of kind) e.0 (number_listed r.pages kind listed) (live_made n n_live))

      put_none : (page : ℕ) → HasPut (hart_line w hart) (under_at under' hart) page → ⊥
      put_none page put = breaking_put first e budget count index page (breaking_back (λ l v. HasPut l v page) put)
        where
          breaking_back : (P : Option Line → Under → Type 0) → P (hart_line w hart) (under_at under' hart) → P (Some (run_line first e budget)) u
          breaking_back P holds = subst (P (Some (run_line first e budget))) moves.under_change.here (subst (λ l. P l (under_at under' hart)) here holds)

      attacks : OnlyAttacksDiffer w.setup.zones ctl.off_chip ctl.mirror s.attacks w.owners (enclave_at enclaves') s.number (line_after w w.answered) (under_at under')
      attacks = attacks_frame w.setup.zones w.ctl.off_chip w.ctl.mirror ctl.off_chip ctl.mirror s.attacks s.attacks w.owners w.owners (enclave_at w.enclaves) (enclave_at enclaves') s.number s.number
          (hart_line w) (line_after w w.answered) (under_at w.under) (under_at under') hart e.0 (λ i old free. leaves.still_written i (old free))
          (record {
            guarded = λ page is. is;
            made = λ f other. refl;
            pages = λ f other. ap (λ (y : Enclave). y.pages) (change.others f other);
            lines = λ other differs. refl;
            unders = moves.under_change.others;
            made_own = λ page is made. own_agrees page (subst (λ (y : Enclave). Contains (numbers_of y.pages) page) change.here is);
            put_own = λ page put. absurd (put_none page put);
          })
          k.stands.attacks

      -- ---- tables and translations

      abbrev t : TranslationsStand w.setup w.ctl w.tlbs w.fences (enclave_at w.enclaves) s (hart_line w) (under_at w.under)
      t = k.stands.translations

      same_leaves : leaves_of r_now.pages (image_of w.setup r.image).pages ≡ slice_set (leaves_of r.pages (image_of w.setup r.image).pages) index (record { page = now; perms = at.image_page.perms })
      same_leaves = leaves_set r.pages (image_of w.setup r.image).pages index now at.image_page
          (ap (λ (i : Image). slice_get i.pages index) (alone_so digest_of room_stays w k none hart below first e budget count micro here under there).image_is ∙ at.there)

      number_tables : (f : ℕ) → (s.number f).live ≡ true
          → NumberTables w.setup.tables f (mirror_words ctl) (leaves_of (enclave_at enclaves' f).pages (image_of w.setup (enclave_at enclaves' f).image).pages)
      number_tables = everywhere (λ f. (s.number f).live ≡ true
          → NumberTables w.setup.tables f (mirror_words ctl) (leaves_of (enclave_at enclaves' f).pages (image_of w.setup (enclave_at enclaves' f).image).pages)) e.0
          (λ live. subst (λ (y : Enclave). NumberTables w.setup.tables e.0 (mirror_words ctl) (leaves_of y.pages (image_of w.setup y.image).pages)) (sym change.here)
          (subst (NumberTables w.setup.tables e.0 (mirror_words ctl)) (sym same_leaves) tables_now))
          (λ f other live. subst (λ (y : Enclave). NumberTables w.setup.tables f (mirror_words ctl) (leaves_of y.pages (image_of w.setup y.image).pages)) (sym (change.others f other))
          (number_tables_stay w.ctl ctl w.setup.tables f _ (λ level low. frame.table_bytes f level other (live_there digest_of w k f live) low) (t.tables.numbers f live)))

      tables : TablesAgree w.setup ctl (enclave_at enclaves') s
      tables = record {
        host = host_tables_stay w.ctl ctl w.setup.tables s.space (few_tables digest_of w k)
            (λ page low. page_stays page (host_table_inside digest_of w k page low) (not_host_tables digest_of w k e.0 there_so page now low (inl own))
            (not_host_tables digest_of w k e.0 there_so page table low (inr (0, omega arith, refl)))) t.tables.host;
        numbers = number_tables;
      }

      small : (f : ℕ) → (s.number f).live ≡ true → f < 64
      small f live = (let few = few_numbers digest_of w k in let inside = live_there digest_of w k f live in omega (arith, few, inside))

      hart_has_fence : hart < length w.fences
      hart_has_fence = subst (λ size. hart < size) (sym t.fences_stand.size) below

      hart_has_tlb : hart < length w.tlbs
      hart_has_tlb = subst (λ size. hart < size) (sym t.harts) below

      no_removal : removals_by s.removals hart ≡ []
      no_removal = removal_so digest_of w k hart (Running micro count) under refl

      none_posted : fence_of w.fences hart ≡ None
      none_posted = no_fence w.setup.harts w.fences s.removals t.fences_stand hart below (giving_so digest_of w k hart (ap isnt_waiting under)) no_removal

      space_other : (page : ℕ) → page ≢ vpn.0 → mapping_at (space_of w.setup (enclave_at enclaves' e.0)) page ≡ mapping_at (space_of w.setup r) page
      space_other page other =
          ap (λ (y : Enclave). mapping_at (space_of w.setup y) page) change.here
          ∙ ap (λ (leaves : List Leaf). mapping_at (Rattle.mon_tables.specs.SpaceWalks.leaf_mappings first_vpn leaves) page) same_leaves
          ∙ mapping_other (leaves_of r.pages (image_of w.setup r.image).pages) (record { page = now; perms = at.image_page.perms }) first_vpn index page other

      spaces : AllButOneSpace w.setup (enclave_at w.enclaves) (enclave_at enclaves') s s e.0
      spaces = record {
        space = refl;
        removals = refl;
        lives = λ f other live. live;
        spaces = λ f other live. ap (space_of w.setup) (change.others f other);
      }

      translations : TranslationsStand w.setup ctl tlbs' fences' (enclave_at enclaves') s (line_after w w.answered) (under_at under')
      translations = number_changed digest_of w k hart e.0 ctl (enclave_at enclaves') tlbs' fences' s (line_after w w.answered) (under_at under') (record {
        removals = refl;
        records = change.others;
        tables = tables;
        host_at = host_table_at w.setup.tables (mirror_words w.ctl) (mirror_words ctl) s.space s.space t.tables.host tables.host;
        number_at = λ f live. number_table_at w.setup.tables f (mirror_words w.ctl) (mirror_words ctl) _ _ (few_tables digest_of w k) (small f live) (t.tables.numbers f live) (number_tables f live);
        harts = length-set w.tlbs hart entries';
        fences_stand = fences_posted w.setup.harts w.fences s.removals t.fences_stand hart below e.0 (Some vpn) no_removal;
        lines = λ other differs. refl;
        unders = moves.under_change.others;
        apart = λ other f differs is. not_theirs other f differs is;
        fences = λ other differs. fence_of-set_other w.fences hart other _ differs;
        tlbs = λ other differs. or_other w.tlbs hart other entries' [] differs;
        used = λ other inside differs. broken_fresh w.setup (enclave_at w.enclaves) (enclave_at enclaves') s s e.0 spaces w.fences hart vpn (λ live. live) space_other none_posted
            t.fences_stand.needs_others hart_has_fence other (subst (λ size. other < size) (sym t.fences_stand.size) inside) differs;
        own_removals = breaking_line (λ l v. RemovalStands l v (removals_by s.removals hart)) (breaking_removes first e budget count index (removals_by s.removals hart) no_removal);
        own_giving = breaking_line (λ l v. NumberFenceStands l v (fence_of fences' hart)) (breaking_gives first e budget count index (fence_of fences' hart) (breaks_fence w.fences hart e.0 index hart_has_fence));
        own_entries = subst (All (IsFresh w.setup (enclave_at enclaves') s fences' hart)) (sym (or_same w.tlbs hart entries' [] hart_has_tlb))
            (broken_entries w.setup (enclave_at w.enclaves) (enclave_at enclaves') s s e.0 spaces w.fences hart vpn (λ live. live) space_other none_posted
            t.fences_stand.needs_others hart_has_fence (tlb_at w.tlbs hart) (t.fresh.entries hart));
        own_walk = breaking_line (λ l v. WalkingStands ctl (IsFresh w.setup (enclave_at enclaves') s fences' hart) (walking w.setup.tables (enclave_at enclaves') l v))
            (breaking_walks ctl (IsFresh w.setup (enclave_at enclaves') s fences' hart) w.setup.tables (enclave_at enclaves') first e budget count index);
      })

      -- ---- the row

      stores_still : IsAccessed (image_of w.setup r.image).pages bytes' r_now va kind.Store
      stores_still = subst (λ (i : Image). IsAccessed i.pages bytes' r_now va kind.Store)
          (sym (alone_so digest_of room_stays w k none hart below first e budget count micro here under there).image_is)
          (accessed_still x.image.pages (page_bytes w.ctl.mirror) bytes' r r_now refl flat_stays va kind.Store (subst (IsAccessed x.image.pages (page_bytes w.ctl.mirror) r va) at.store accessed))

      starts_anew : IsRestarting w.setup bytes' r_now n hart budget count index
      starts_anew = record {
        running = record { state = running_now.state; hart_is = running_now.hart_is; within = running_now.within; retired = running_now.retired; instruction = tt };
        va = va;
        stores = stores_still;
        place = sym at.place;
        page = now;
        own = get-set_same r.pages index (Own now) (slice_get_within r.pages index _ at.shared);
      }

      facts : RowFacts digest_of w hart ctl w.owners enclaves' tlbs' fences' under' w.answered w.history s u (answered_at w.answered hart)
      facts = record {
        line = moves;
        sizes = record { zones = leaves.same_zones; slots = leaves.same_slots; pages = refl; guarded = λ page is. is; numbers = change.size };
        trees = leaves.kept;
        owners_agree = record { owner = k.stands.owners.owner; maps = k.stands.owners.maps };
        records = records_agree;
        pages_agree = pages_agree;
        enclaves_agree = enclaves_agree;
        host = host;
        attacks = attacks;
        other_lines = λ other differs. line_frame w.setup e.0 (enclave_at w.enclaves) (enclave_at enclaves') s.number s.number (written_page w) bytes' w.owners w.owners frame
            k.stands.enclaves (λ f used. subst (λ size. f < size) k.sizes.numbers (used_there w.enclaves f used)) other (hart_line w other) (under_at w.under other)
            (λ f is. not_theirs other f differs is) (k.stands.lines other);
        own_line = subst (λ l. LineUnderWay w.setup bytes' (enclave_at enclaves') s.number hart l u) (sym here)
            (breaking_is w.setup bytes' (enclave_at enclaves') s.number hart budget count index e first
            (subst (λ y. IsRestarting w.setup bytes' y n hart budget count index) (sym change.here) starts_anew));
        own_apart = λ other f differs own_is theirs. not_theirs other f differs theirs (some_same f e.0 (sym own_is ∙ ap (λ l. number_under_way l u) here ∙ breaking_number first e budget count index));
        translations = translations;
      }

      pub broke_kept : Kept digest_of (goes_on (record w { ctl = ctl; enclaves = enclaves'; fences = fences'; tlbs = tlbs' }) hart (Breaking count index))
      broke_kept = row_kept digest_of w hart ctl w.owners enclaves' tlbs' fences' under' w.answered w.history s u (answered_at w.answered hart) k none facts
