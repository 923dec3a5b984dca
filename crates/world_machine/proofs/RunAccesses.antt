-- A read through the trees in a run under way: the world keeps what it kept, in the controller after it.
use Rattle.std.proofs.Common.{◌≡◌, ℕ, ◌<◌, Bool, List, length, set, Some, None, refl, sym, ap, ◌∙◌, subst, arith, inr, ◌*◌, true}
use Rattle.std.specs.Prelude.{slice_set}
use Rattle.std.proofs.lemmas.List.{set-get_or}
use Rattle.std.proofs.lemmas.List.Elements.{All-weaker, recursion_from_All}
use Rattle.std.proofs.lemmas.Option.{unwrap_or-slice_get}
use Rattle.pl_base.specs.declared.number.EncNo.{EncNo}
use Rattle.pl_base.specs.States.{is_free}
use Rattle.rv_tlb.specs.declared.tlb.TlbEntry.{TlbEntry}
use Rattle.mem_ctl.specs.Access.{BothStay, Leaves}
use Rattle.mem_ctl.specs.Data.{CtlData}
use Rattle.mem_geom.specs.Parts.{page_bytes}
use Rattle.mon_enclave.specs.declared.enclave.Enclave.{Enclave}
use Rattle.mon_enclave.specs.Records.{enclave_at, free_enclave, with_enclave}
use Rattle.mon_image.specs.declared.page.ImagePage.{ImagePage}
use Rattle.mon_owner.specs.declared.owners.Owner.{Owner}
use Rattle.mon_tables.specs.Tables.{table_number}
use Rattle.rv_hart.specs.declared.walks.Micro.{Micro}
use Rattle.pl_history.specs.declared.setup.SetupParts.{SetupParts}
use Rattle.pl_history.specs.Monitor.{Monitor, Number}
use Rattle.world_attack.specs.Room.{RoomStays}
use Rattle.world_machine.specs.declared.under.Under.{Under}
use Rattle.world_machine.specs.declared.under.Under.TheVariants.{Running}
use Rattle.world_machine.specs.Answering.{goes_on}
use Rattle.world_machine.specs.BytesAgree.{HasPut}
use Rattle.world_machine.specs.EnclavesAgree.{EnclaveStands}
use Rattle.world_machine.specs.LinesUnderWay.{InstructionStands, IsRunning, LineUnderWay, number_under_way}
use Rattle.world_machine.specs.Making.{image_of}
use Rattle.world_machine.specs.Pages.{flat_pages, numbers_of}
use Rattle.world_machine.specs.RecordsAgree.{is_begun}
use Rattle.world_machine.specs.Standing.{Kept, state_of, written_page}
use Rattle.world_machine.specs.TablesAgree.{TablesAgree}
use Rattle.world_machine.specs.TranslationsAgree.{IsFresh, WalkingStands, walking}
use Rattle.world_machine.specs.Worlds.{WorldData, answered_at, hart_line, under_at}
use Rattle.world_machine.proofs.Frames.{flat_pages-same, instruction_stays, state_over}
use Rattle.world_machine.proofs.LineKinds.{goes_on_line, still_line}
use Rattle.world_machine.proofs.LineMoves.{LineMoves}
use Rattle.world_machine.proofs.LineTranslations.{isnt_waiting}
use Rattle.world_machine.proofs.Lists.{changed_set}
use Rattle.world_machine.proofs.NumberRows.{HartTranslates, becomes_same, but_none, keeps_tlbs, held_inside}
use Rattle.world_machine.proofs.RowKept.{with_parts}
use Rattle.world_machine.proofs.RunMoves.{AfterAccess, is_running, no_put, run_line, run_moved, running_is, runs_number}
use Rattle.world_machine.proofs.TranslationFrames.{number_table_inside, tables_stay, walk_over}
use Rattle.world_machine.proofs.StandingEnclaves.{keeps_all}
use Rattle.world_machine.proofs.RunningEnclaves.{on_live}

-- an enclave whose pages have the bytes that they had
pub stands_over : (setup : SetupParts) (before after : ℕ → List ℕ) (owners : List Owner) (e : ℕ) (r : Enclave) (n : Number) (s : EnclaveStands setup before owners e r n)
    → flat_pages after s.image.pages (numbers_of r.pages) ≡ flat_pages before s.image.pages (numbers_of r.pages) → EnclaveStands setup after owners e r n
stands_over setup before after owners e r n s same =
    record { image = s.image; image_is = s.image_is; held = s.held; state = state_over setup before after s.image r n same s.state }

module _ (digest_of : List ℕ → List ℕ) (room_stays : RoomStays) (w : WorldData) (k : Kept digest_of w) (none : w.collision ≡ None) (hart : ℕ) (below : hart < w.setup.harts)
    (first : Bool) (e : EncNo) (budget count : ℕ) (micro : Micro) (here : hart_line w hart ≡ Some (run_line first e budget)) (under : under_at w.under hart ≡ Running micro count)
    (there : e.0 < length w.enclaves) where
  abbrev s : Monitor
  s = state_of w

  abbrev r : Enclave
  r = enclave_at w.enclaves e.0

  abbrev n : Number
  n = s.number e.0

  running : IsRunning w.setup (written_page w) r n hart budget count micro
  running = is_running w.setup (written_page w) (enclave_at w.enclaves) s.number hart budget count micro e first
      (subst (LineUnderWay w.setup (written_page w) (enclave_at w.enclaves) s.number hart (Some (run_line first e budget))) under
      (subst (λ l. LineUnderWay w.setup (written_page w) (enclave_at w.enclaves) s.number hart l (under_at w.under hart)) here (k.stands.lines hart)))

  stands : EnclaveStands w.setup (written_page w) w.owners e.0 r n
  stands = k.stands.enclaves e.0 (ap is_free running.state)

  n_live : n.live ≡ true
  n_live = on_live r.state n.live running.state (k.stands.records e.0).live

  same_records : with_enclave w.enclaves e.0 r ≡ w.enclaves
  same_records = ap (set w.enclaves e.0) (unwrap_or-slice_get w.enclaves e.0 free_enclave) ∙ set-get_or w.enclaves e.0 free_enclave

  under_way : number_under_way (hart_line w hart) (under_at w.under hart) ≡ Some e.0
  under_way = ap (λ l. number_under_way l (under_at w.under hart)) here ∙ ap (number_under_way (Some (run_line first e budget))) under ∙ runs_number first e budget count micro

  module _ (ctl : CtlData) where
    -- the number's pages have the bytes that they had
    abbrev pub PagesKeep : Type 0
    PagesKeep = (image : List ImagePage) → flat_pages (page_bytes ctl.mirror) image (numbers_of r.pages) ≡ flat_pages (page_bytes w.ctl.mirror) image (numbers_of r.pages)

    abbrev left : WorldData
    left = record w { ctl = ctl }

    -- ---- after an access that leaves the pages of the record and what the tables stand for

    module _ (access : AfterAccess digest_of w e.0 ctl) (same_bytes : PagesKeep) (tables : TablesAgree w.setup ctl (enclave_at w.enclaves) s) where
      -- the line, where its instruction is so far
      module _ (micro' : Micro) (instruction : InstructionStands (image_of w.setup r.image).pages (written_page w) r micro') where
        running_left : IsRunning w.setup (page_bytes ctl.mirror) r n hart budget count micro'
        running_left = record {
          state = running.state;
          hart_is = running.hart_is;
          within = running.within;
          retired = running.retired;
          instruction = instruction_stays (image_of w.setup r.image).pages (written_page w) (page_bytes ctl.mirror) r r refl (same_bytes (image_of w.setup r.image).pages) refl micro' instruction;
        }

        own_line : LineUnderWay w.setup (page_bytes ctl.mirror) (enclave_at (with_enclave w.enclaves e.0 r)) s.number hart (hart_line w hart) (Running micro' count)
        own_line = subst (λ l. LineUnderWay w.setup (page_bytes ctl.mirror) (enclave_at (with_enclave w.enclaves e.0 r)) s.number hart l (Running micro' count)) (sym here)
            (running_is w.setup (page_bytes ctl.mirror) (enclave_at (with_enclave w.enclaves e.0 r)) s.number hart budget count micro' e first
            (subst (λ x. IsRunning w.setup (page_bytes ctl.mirror) x n hart budget count micro') (sym (changed_set free_enclave w.enclaves e.0 r there).here) running_left))

        moved : (under' : List Under) (tlbs' : List (List TlbEntry)) → LineMoves w hart under' w.answered w.history s (Running micro' count) (answered_at w.answered hart)
            → HartTranslates w hart ctl w.enclaves tlbs' (hart_line w hart) (Running micro' count)
            → Kept digest_of (with_parts w ctl w.owners w.enclaves tlbs' w.fences under' w.answered w.history)
        moved under' tlbs' moves translates =
            subst (λ (all : List Enclave). Kept digest_of (with_parts w ctl w.owners all tlbs' w.fences under' w.answered w.history)) same_records
            (run_moved digest_of w k none hart e.0 there under_way (ap isnt_waiting under) ctl access r n s (becomes_same s e.0) n_live n_live refl (keeps_all r) (k.stands.records e.0)
            (k.stands.pages e.0) (stands_over w.setup (written_page w) (page_bytes ctl.mirror) w.owners e.0 r n stands (same_bytes stands.image.pages))
            under' w.answered w.history (Running micro' count) (answered_at w.answered hart) moves own_line
            (λ f own. let now : number_under_way (hart_line w hart) (Running micro' count) ≡ Some e.0 = ap (λ l. number_under_way l (Running micro' count)) here ∙ runs_number first e budget count micro' in
            let h : Some f ≡ Some e.0 = sym own ∙ now in cc)
            (λ page put. no_put first e budget count page micro' (subst (λ l. HasPut l (Running micro' count) page) here put))
            tlbs' (subst (λ (all : List Enclave). HartTranslates w hart ctl all tlbs' (hart_line w hart) (Running micro' count)) (sym same_records) translates))

        -- the instruction is so far now, and the hart has these translations
        pub walks_left : (tlbs' : List (List TlbEntry)) → HartTranslates w hart ctl w.enclaves tlbs' (hart_line w hart) (Running micro' count)
            → Kept digest_of (goes_on (record w { ctl = ctl; tlbs = tlbs' }) hart (Running micro' count))
        walks_left tlbs' translates =
            moved (slice_set w.under hart (Running micro' count)) tlbs' (goes_on_line digest_of room_stays w k hart below (Running micro' count) (sym (ap is_begun under))) translates

      -- the controller has changed, and nothing else
      pub access_left : Kept digest_of left
      access_left = moved micro running.instruction w.under w.tlbs
          (subst (λ u. LineMoves w hart w.under w.answered w.history s u (answered_at w.answered hart)) under (still_line digest_of room_stays w k hart below))
          (keeps_tlbs digest_of w hart ctl w.enclaves (hart_line w hart) (Running micro count) k refl
          (subst (λ u. WalkingStands ctl (IsFresh w.setup (enclave_at w.enclaves) s w.fences hart) (walking w.setup.tables (enclave_at w.enclaves) (hart_line w hart) u)) under
          (walk_over digest_of w k ctl tables hart)))

    -- ---- after a read, which leaves all pages

    module _ (leaves : Leaves digest_of w.ctl ctl) (stay : BothStay w.ctl ctl) where
      pub same_bytes : PagesKeep
      same_bytes image = flat_pages-same (page_bytes w.ctl.mirror) (page_bytes ctl.mirror) image (numbers_of r.pages)
          (recursion_from_All (λ page. page_bytes ctl.mirror page ≡ page_bytes w.ctl.mirror page) (numbers_of r.pages)
          (All-weaker (λ page. page < 64 * w.ctl.zones) (λ page. page_bytes ctl.mirror page ≡ page_bytes w.ctl.mirror page) (λ page within. stay.mirror_pages page within)
          (numbers_of r.pages) (held_inside digest_of w k e.0 r.parent r.pages stands.held.owned)))

      pub access : AfterAccess digest_of w e.0 ctl
      access = record {
        leaves = leaves;
        page = table_number w.setup.tables e.0 0;
        of_number = inr (0, omega arith, refl);
        stay = but_none (table_number w.setup.tables e.0 0) w.ctl ctl stay;
        tables = λ level low. stay.mirror_pages (table_number w.setup.tables e.0 level) (number_table_inside digest_of w k e.0 level (subst (λ size. e.0 < size) k.sizes.numbers there));
      }

      pub walks_kept : (micro' : Micro) → InstructionStands (image_of w.setup r.image).pages (written_page w) r micro' → (tlbs' : List (List TlbEntry))
          → HartTranslates w hart ctl w.enclaves tlbs' (hart_line w hart) (Running micro' count) → Kept digest_of (goes_on (record w { ctl = ctl; tlbs = tlbs' }) hart (Running micro' count))
      walks_kept = walks_left access same_bytes (tables_stay digest_of w k ctl stay)

      pub read_kept : Kept digest_of left
      read_kept = access_left access same_bytes (tables_stay digest_of w k ctl stay)
