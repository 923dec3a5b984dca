-- The rows of a run under way that need no access of their own: an instruction retires, the run goes on or leaves.
use Rattle.std.proofs.Common.{◌≡◌, ◌≢◌, ℕ, ◌+◌, ◌<◌, eqb, Bool, true, false, cond, List, length, slice_get, set, Option, Some, None, option_map, refl, sym, ap, ◌∙◌, subst, arith}
use Rattle.std.specs.Prelude.{slice_set}
use Rattle.std.proofs.lemmas.Bool.{eqb-true, eqb-false}
use Rattle.std.proofs.lemmas.List.{set-get_or}
use Rattle.std.proofs.lemmas.Option.{unwrap_or-slice_get}
use Rattle.pl_base.specs.declared.access.Kind.{Kind}
use Rattle.pl_base.specs.declared.number.EncNo.{EncNo}
use Rattle.pl_base.specs.declared.place.Place.{Place}
use Rattle.pl_base.specs.declared.state.Why.{Why}
use Rattle.pl_base.specs.declared.state.Why.TheVariants as why_is
use Rattle.pl_base.specs.States.{is_free}
use Rattle.mem_ctl.specs.Data.{CtlData}
use Rattle.mem_geom.specs.Parts.{page_bytes}
use Rattle.mon_enclave.specs.declared.enclave.Enclave.{Enclave}
use Rattle.mon_enclave.specs.Records.{enclave_at, free_enclave, with_enclave}
use Rattle.rv_alone.specs.declared.step.Act.{Act}
use Rattle.rv_alone.specs.Effect.{act_of}
use Rattle.rv_alone.specs.Flat.{ended, Flat, on}
use Rattle.rv_alone.specs.Alone.{alone, page_written, page_of_act}
use Rattle.rv_hart.specs.declared.walks.Micro.{Micro}
use Rattle.rv_hart.specs.declared.walks.Micro.TheVariants.{Fetching, Reaching}
use Rattle.rv_hart.specs.declared.walks.Walk.TheVariants.{Start}
use Rattle.pl_history.specs.declared.answer.Answer.TheVariants as answer_is
use Rattle.pl_history.specs.Licence.{Licensed}
use Rattle.pl_history.specs.Monitor.{Monitor, Number, answer, flat_image, image_at}
use Rattle.pl_history.specs.Legal.{AllowedAnswer}
use Rattle.pl_history.specs.Running.{MayLeave, left}
use Rattle.world_attack.specs.Room.{RoomStays}
use Rattle.world_machine.specs.declared.under.Under.{Under}
use Rattle.world_machine.specs.declared.under.Under.TheVariants.{Idle, Running}
use Rattle.world_machine.specs.Answering.{goes_on}
use Rattle.world_machine.specs.BytesAgree.{HasPut}
use Rattle.world_machine.specs.EnclavesAgree.{EnclaveStands}
use Rattle.world_machine.specs.LinesUnderWay.{IsRunning, LineUnderWay, access_of, number_under_way}
use Rattle.world_machine.specs.RecordsAgree.{RecordAgrees, is_begun}
use Rattle.world_machine.specs.Running.{RunNow, acts, fetches_next, leaves, retired_with, retires}
use Rattle.world_machine.specs.Standing.{Kept, state_of, written_page}
use Rattle.world_machine.specs.Translating.{number_view}
use Rattle.world_machine.specs.TranslationsAgree.{IsFresh, WalkingStands, walking, walking_of}
use Rattle.world_machine.specs.Worlds.{WorldData, answered_at, hart_line, under_at}
use Rattle.world_machine.proofs.InstructionWays.{GoesBy, Stops, Way, acts_is, ends, goes_by, goes_on_with, seeks, stops, way_of, world_by}
use Rattle.world_machine.proofs.Instructions.{IsFetched, Retires, flat_of}
use Rattle.world_machine.proofs.LeavingRuns.{IsCounted, leaves_ended, leaves_faulted, leaves_spent, leaves_stopped}
use Rattle.world_machine.proofs.LineKinds.{answered_line, goes_on_line}
use Rattle.world_machine.proofs.LineTranslations.{isnt_waiting}
use Rattle.world_machine.proofs.Lists.{changed_set}
use Rattle.world_machine.proofs.LiveEnclaves.{IsLive, live_more}
use Rattle.world_machine.proofs.NumberRows.{becomes_answered, becomes_same, idle_translates, keeps_tlbs}
use Rattle.world_machine.proofs.QuietRows.{idle_has_none, idle_put_none, none_some}
use Rattle.world_machine.proofs.RunMoves.{AfterAccess, is_running, left_gives, may_leave, no_access, no_put, run_line, run_moved, run_walking, running_is, runs_number}
use Rattle.world_machine.proofs.RunningEnclaves.{RunsAlone, records_ended, records_left, records_retired, running_more, running_reaches, runs_alone}
use Rattle.world_machine.proofs.StandingEnclaves.{counted_more, left_number, left_record, stands_ended, stands_left, stands_retired, KeepsPages, keeps_all, retired_keeps}
use Rattle.world_machine.specs.PagesAgree.{PagesAre}
use Rattle.world_machine.proofs.PagesStay.{pages_same}
use Rattle.pl_base.specs.Pages.{is_among}
use Rattle.mon_image.specs.declared.image.Image.{Image}
use Rattle.std.specs.Option.{option_and_then}
use Rattle.world_machine.proofs.BrokenPages.{pages_retired}
use Rattle.rv_alone.specs.declared.step.Act.TheVariants.{Set, Load, Store, Call, Trap}

module _ (digest_of : List ℕ → List ℕ) (room_stays : RoomStays) (w : WorldData) (k : Kept digest_of w) (none : w.collision ≡ None) (hart : ℕ) (below : hart < w.setup.harts)
    (first : Bool) (e : EncNo) (budget count : ℕ) (micro : Micro) (here : hart_line w hart ≡ Some (run_line first e budget)) (under : under_at w.under hart ≡ Running micro count)
    (there : e.0 < length w.enclaves) where
  abbrev s : Monitor
  s = state_of w

  abbrev r : Enclave
  r = enclave_at w.enclaves e.0

  abbrev n : Number
  n = s.number e.0

  abbrev run : RunNow
  run = record { hart = hart; e = e.0; budget = budget; count = count }

  pub running : IsRunning w.setup (written_page w) r n hart budget count micro
  running = is_running w.setup (written_page w) (enclave_at w.enclaves) s.number hart budget count micro e first
      (subst (LineUnderWay w.setup (written_page w) (enclave_at w.enclaves) s.number hart (Some (run_line first e budget))) under
      (subst (λ l. LineUnderWay w.setup (written_page w) (enclave_at w.enclaves) s.number hart l (under_at w.under hart)) here (k.stands.lines hart)))

  pub standing : EnclaveStands w.setup (written_page w) w.owners e.0 r n
  standing = k.stands.enclaves e.0 (ap is_free running.state)

  agrees : RecordAgrees r n
  agrees = k.stands.records e.0

  pub pages : PagesAre w.setup s.number r n
  pages = k.stands.pages e.0

  pub alone_so : RunsAlone w.setup w.ctl.mirror standing.image r n count
  alone_so = runs_alone w.setup w.ctl.mirror w.owners e.0 r n hart budget count micro standing k.sizes.bytes agrees running

  runs : number_under_way (hart_line w hart) (under_at w.under hart) ≡ Some e.0
  runs = ap (λ l. number_under_way l (under_at w.under hart)) here ∙ ap (number_under_way (Some (run_line first e budget))) under ∙ runs_number first e budget count micro

  begun : is_begun (under_at w.under hart) ≡ true
  begun = ap is_begun under

  image_is : image_at w.setup n.image ≡ Some (flat_image standing.image)
  image_is = ap (λ i. option_map flat_image (slice_get w.setup.images i)) agrees.image ∙ ap (option_map flat_image) standing.image_is

  -- ---- the run goes on

  module _ (ctl : CtlData) (access : AfterAccess digest_of w e.0 ctl) where
    going : (now : Enclave) (micro' : Micro) (count' : ℕ) → KeepsPages r now → RecordAgrees now n → PagesAre w.setup s.number now n → EnclaveStands w.setup (page_bytes ctl.mirror) w.owners e.0 now n
        → IsRunning w.setup (page_bytes ctl.mirror) now n hart budget count' micro'
        → WalkingStands ctl (IsFresh w.setup (enclave_at w.enclaves) s w.fences hart) (walking_of w.setup.tables e.0 now micro')
        → Kept digest_of (goes_on (record w { ctl = ctl; enclaves = with_enclave w.enclaves e.0 now }) hart (Running micro' count'))
    going now micro' count' keeps agree pages_now stands runs_on walk =
        let u : Under = Running micro' count' in
        let enclaves' : List Enclave = with_enclave w.enclaves e.0 now in
        let is_now : enclave_at enclaves' e.0 ≡ now = (changed_set free_enclave w.enclaves e.0 now there).here in
        run_moved digest_of w k none hart e.0 there runs (ap isnt_waiting under) ctl access now n s
        (becomes_same s e.0) alone_so.n_live alone_so.n_live refl keeps agree pages_now stands
        (slice_set w.under hart u) w.answered w.history u (answered_at w.answered hart) (goes_on_line digest_of room_stays w k hart below u (sym begun))
        (subst (λ l. LineUnderWay w.setup (page_bytes ctl.mirror) (enclave_at enclaves') s.number hart l u) (sym here)
        (running_is w.setup (page_bytes ctl.mirror) (enclave_at enclaves') s.number hart budget count' micro' e first
        (subst (λ x. IsRunning w.setup (page_bytes ctl.mirror) x n hart budget count' micro') (sym is_now) runs_on)))
        (λ f own. let own_is : number_under_way (hart_line w hart) u ≡ Some e.0 = ap (λ l. number_under_way l u) here ∙ runs_number first e budget count' micro' in
        let h : Some f ≡ Some e.0 = sym own ∙ own_is in cc)
        (λ page put. no_put first e budget count' page micro' (subst (λ l. HasPut l u page) here put))
        w.tlbs
        (keeps_tlbs digest_of w hart ctl enclaves' (hart_line w hart) u k refl
        (subst (λ l. WalkingStands ctl (IsFresh w.setup (enclave_at w.enclaves) s w.fences hart) (walking w.setup.tables (enclave_at enclaves') l u)) (sym here)
        (subst (WalkingStands ctl (IsFresh w.setup (enclave_at w.enclaves) s w.fences hart)) (sym (run_walking w.setup.tables (enclave_at enclaves') first e budget count' micro'))
        (subst (λ x. WalkingStands ctl (IsFresh w.setup (enclave_at w.enclaves) s w.fences hart) (walking_of w.setup.tables e.0 x micro')) (sym is_now) walk))))

    -- ---- the run leaves

    pub leaving : (why : Why) (now : Enclave) (count' : ℕ) → KeepsPages r now → RecordAgrees (left_record now why) (left_number n count' why) → PagesAre w.setup s.number now n
        → EnclaveStands w.setup (page_bytes ctl.mirror) w.owners e.0 (left_record now why) (left_number n count' why)
        → MayLeave (flat_image standing.image) (Licensed w.setup s (run_line first e budget)) n budget count' why
        → Kept digest_of (leaves (record w { ctl = ctl }) run now count' why)
    leaving why now count' keeps agree pages_now stands may =
        let s' : Monitor = answer (left s e.0 count' why) hart in
        run_moved digest_of w k none hart e.0 there runs (ap isnt_waiting under) ctl access (left_record now why) (left_number n count' why) s'
        (becomes_answered s e.0 hart (left_number n count' why)) alone_so.n_live alone_so.n_live refl
        (record { image = keeps.image; pages = keeps.pages; parent = keeps.parent }) agree
        (pages_same w.setup s.number now (left_record now why) n (left_number n count' why)
        (record { image = refl; sent = refl; retired = refl; kinds = refl; left = refl; parent = refl; pages = refl; spares = refl }) pages_now)
        stands _ _ _ Idle (answered_at w.answered hart + 1)
        (answered_line digest_of room_stays w k hart below (run_line first e budget) (answer_is.Left count' why) refl here
        (subst (λ b. AllowedAnswer w.setup s (run_line first e budget) b (answer_is.Left count' why)) (sym begun) (may_leave w.setup s first e budget count' why (flat_image standing.image, image_is, may)))
        (left s e.0 count' why) (λ actor. refl) (left_gives s hart first e budget count' why))
        tt (λ f own. absurd (none_some f _ (idle_has_none _) own)) (λ page put. idle_put_none _ page put)
        w.tlbs (idle_translates digest_of w hart ctl (with_enclave w.enclaves e.0 (left_record now why)) _ k)

    -- ---- an instruction retires, over the bytes of pages after the access

    module _ (now : Enclave) (steps : Retires standing.image.pages (page_bytes w.ctl.mirror) (page_bytes ctl.mirror) r now) (pages_now : PagesAre w.setup s.number now n) where
      keeps_now : KeepsPages r now
      keeps_now = retired_keeps standing.image.pages (page_bytes w.ctl.mirror) (page_bytes ctl.mirror) r now steps

      live_now : IsLive standing.image ctl.mirror now
      live_now = live_more standing.image w.ctl.mirror r alone_so.live ctl.mirror now steps

      counted_now : IsCounted now n (count + 1)
      counted_now = counted_more standing.image (page_bytes w.ctl.mirror) (page_bytes ctl.mirror) r now n count alone_so.counted steps

      stands_now : EnclaveStands w.setup (page_bytes ctl.mirror) w.owners e.0 now n
      stands_now = stands_retired w.setup w.ctl.mirror ctl.mirror w.owners e.0 r n standing now alone_so.n_live steps live_now

      agrees_now : RecordAgrees now n
      agrees_now = records_retired standing.image (page_bytes w.ctl.mirror) (page_bytes ctl.mirror) r now n count running.state alone_so.counted steps agrees

      -- the image is the same
      same_image : standing.image ≡ stands_now.image
      same_image =
          let old : slice_get w.setup.images now.image ≡ Some standing.image = ap (λ (x : Enclave). slice_get w.setup.images x.image) steps.kept ∙ standing.image_is in
          let new : slice_get w.setup.images now.image ≡ Some stands_now.image = stands_now.image_is in
          let h : Some standing.image ≡ Some stands_now.image = sym old ∙ new in cc

      left_now : EnclaveStands w.setup (page_bytes ctl.mirror) w.owners e.0 (left_record now why_is.Budget) (left_number n (count + 1) why_is.Budget)
      left_now = stands_left w.setup ctl.mirror w.owners e.0 now n stands_now (count + 1) (agrees_now.image) alone_so.n_live why_is.Budget (subst (λ i. IsLive i ctl.mirror now) same_image live_now) counted_now

      more_left : count < budget → count + 1 ≢ budget → count + 1 < budget
      more_left within other = omega arith

      retire_by : (t : Bool) → eqb (count + 1) budget ≡ t
          → Kept digest_of (cond t (leaves (record w { ctl = ctl }) run now (count + 1) why_is.Budget) (fetches_next (record w { ctl = ctl; enclaves = with_enclave w.enclaves e.0 now }) run (count + 1)))
      retire_by true spent =
          leaving why_is.Budget now (count + 1) keeps_now (records_left now n (count + 1) why_is.Budget counted_now.retired alone_so.n_live agrees_now) pages_now left_now
          (leaves_spent standing.image ctl.mirror now n (count + 1) budget live_now counted_now (Licensed w.setup s (run_line first e budget)) (eqb-true (count + 1) budget spent))
      retire_by false left_over =
          going now (Fetching Start) (count + 1) keeps_now agrees_now pages_now stands_now
          (running_more w.setup standing.image (page_bytes w.ctl.mirror) (page_bytes ctl.mirror) r now n hart budget count micro running steps (more_left running.within (eqb-false (count + 1) budget left_over)))
          tt

      pub retires_kept : Kept digest_of (retires (record w { ctl = ctl }) run now)
      retires_kept = retire_by (eqb (count + 1) budget) refl

  -- ---- in a world in which the access is done

  still : AfterAccess digest_of w e.0 w.ctl
  still = no_access digest_of w e.0 k

  abbrev MayFault : Place → Type 0
  MayFault = Licensed w.setup s (run_line first e budget)

  -- the run leaves with its record as it is
  pub leaves_by : (why : Why) → MayLeave (flat_image standing.image) MayFault n budget count why → Kept digest_of (leaves w run r count why)
  leaves_by why may =
      leaving w.ctl still why r count (keeps_all r) (records_left r n count why alone_so.counted.retired alone_so.n_live agrees) pages
      (stands_left w.setup w.ctl.mirror w.owners e.0 r n standing count alone_so.same_image alone_so.n_live why alone_so.live alone_so.counted) may

  pub stops_kept : (why : Why) → Stops standing.image w.ctl.mirror r why → Kept digest_of (leaves w run r count why)
  stops_kept why is = leaves_by why (leaves_stopped standing.image w.ctl.mirror r n count budget alone_so.live alone_so.counted MayFault why running.within is)

  pub faulted_kept : (place : Place) → MayFault place → Kept digest_of (leaves w run r count (why_is.Fault place))
  faulted_kept place licensed = leaves_by (why_is.Fault place) (leaves_faulted standing.image w.ctl.mirror r n count budget alone_so.live alone_so.counted MayFault place running.within licensed)

  abbrev here_now : Flat
  here_now = flat_of (page_bytes w.ctl.mirror) standing.image.pages r

  -- an instruction retires that stores to no page, or to one that isn't shared
  pub pages_retire : (now : Enclave) (after : ℕ → List ℕ) → Retires standing.image.pages (page_bytes w.ctl.mirror) after r now
      → ((shadow p : ℕ) → n.parent ≡ Some shadow → page_written on here_now ≡ Some p → is_among pages.broken p ≡ true) → PagesAre w.setup s.number now n
  pages_retire now after steps own =
      pages_retired w.setup s.number r n pages now n here_now
      (record {
        image = ap (λ (x : Enclave). x.image) steps.kept;
        kinds = ap (λ (x : Enclave). x.pages) steps.kept;
        left = ap (λ (x : Enclave). x.spares) steps.kept;
        parent = refl;
        pages = refl;
        spares = refl;
      })
      (ap (λ (x : Enclave). x.sent) steps.kept) steps.retired (ap (λ (i : Image). alone (flat_image i) r.sent r.retired) alone_so.image_is ∙ alone_so.live.alone_is) own

  -- the page that an instruction stores to
  pub written_is : (word : ℕ) (act : Act) → IsFetched standing.image.pages (page_bytes w.ctl.mirror) r word act → page_written on here_now ≡ page_of_act here_now act
  written_is word act is = ap (option_and_then (λ x. page_of_act here_now (act_of r.context x))) is.word_is ∙ ap (page_of_act here_now) is.act_is

  isnt_store : (act : Act) → (way_of r act ≡ seeks → ⊥) → page_of_act here_now act ≡ None
  isnt_store (Set context) other = refl
  isnt_store (Load address width is_signed rd) other = refl
  isnt_store (Store address width value) other = absurd (other refl)
  isnt_store (Call number value) other = refl
  isnt_store (Trap cause value) other = refl

  -- EXIT retires without a store
  pages_exit : (word : ℕ) (act : Act) → IsFetched standing.image.pages (page_bytes w.ctl.mirror) r word act → page_of_act here_now act ≡ None → PagesAre w.setup s.number (retired_with r r.context) n
  pages_exit word act is no_store =
      pages_retired w.setup s.number r n pages (retired_with r r.context) n here_now
      (record { image = refl; kinds = refl; left = refl; parent = refl; pages = refl; spares = refl })
      refl refl (ap (λ (i : Image). alone (flat_image i) r.sent r.retired) alone_so.image_is ∙ alone_so.live.alone_is)
      (λ shadow p forked stores. absurd (none_some p (page_of_act here_now act) no_store (sym (written_is word act is) ∙ stores)))

  pub pages_stay : (now : Enclave) → Retires standing.image.pages (page_bytes w.ctl.mirror) (page_bytes w.ctl.mirror) r now → (word : ℕ) (act : Act) → IsFetched standing.image.pages (page_bytes w.ctl.mirror) r word act
      → page_of_act here_now act ≡ None → PagesAre w.setup s.number now n
  pages_stay now steps word act is no_store = pages_retire now (page_bytes w.ctl.mirror) steps
      (λ shadow p forked stores. absurd (none_some p (page_of_act here_now act) no_store (sym (written_is word act is) ∙ stores)))

  ends_kept : (code : ℕ) → PagesAre w.setup s.number (retired_with r r.context) n
      → alone (flat_image standing.image) r.sent (r.retired + 1) ≡ Some (record (flat_of (page_bytes w.ctl.mirror) standing.image.pages r) { status = ended code })
      → Kept digest_of (leaves w run (retired_with r r.context) (count + 1) (why_is.Ended code))
  ends_kept code pages_now is =
      leaving w.ctl still (why_is.Ended code) (retired_with r r.context) (count + 1) (record { image = refl; pages = refl; parent = refl })
      (records_ended r n count code alone_so.counted.retired alone_so.n_live agrees) pages_now
      (stands_ended w.setup w.ctl.mirror w.owners e.0 r n standing (count + 1) alone_so.same_image alone_so.n_live code count alone_so.live alone_so.counted refl is)
      (leaves_ended standing.image w.ctl.mirror r n count budget alone_so.live alone_so.counted MayFault code running.within is)

  same_records : with_enclave w.enclaves e.0 r ≡ w.enclaves
  same_records = ap (set w.enclaves e.0) (unwrap_or-slice_get w.enclaves e.0 free_enclave) ∙ set-get_or w.enclaves e.0 free_enclave

  -- a walk to the data that hasn't begun
  walk_starts : (access : Option (Kind × ℕ)) → WalkingStands w.ctl (IsFresh w.setup (enclave_at w.enclaves) s w.fences hart)
      (option_map (λ (a : Kind × ℕ). record { view = number_view w.setup.tables e.0; va = record { 0 = a.1 }; walk = Start }) access)
  walk_starts None = tt
  walk_starts (Some access) = tt

  seeks_kept : (word : ℕ) (act : Act) → IsFetched standing.image.pages (page_bytes w.ctl.mirror) r word act → (access : Kind × ℕ) → access_of act ≡ Some access
      → Kept digest_of (goes_on w hart (Running (Reaching word Start) count))
  seeks_kept word act is access access_is =
      subst (λ (all : List Enclave). Kept digest_of (goes_on (record w { enclaves = all }) hart (Running (Reaching word Start) count))) same_records
      (going w.ctl still r (Reaching word Start) count (keeps_all r) agrees pages standing
      (running_reaches w.setup (written_page w) standing.image r n hart budget count word micro running alone_so.image_is is.word_is access (ap access_of is.act_is ∙ access_is))
      (walk_starts (access_of (act_of r.context word))))

  by_way : (word : ℕ) (act : Act) (way : Way) → way_of r act ≡ way → IsFetched standing.image.pages (page_bytes w.ctl.mirror) r word act → GoesBy standing.image w.ctl.mirror r act way
      → Kept digest_of (world_by w run r word way)
  by_way word act (goes_on_with now) way_is is steps =
      retires_kept w.ctl still now steps (pages_stay now steps word act is (isnt_store act (λ seeking. (let clash : goes_on_with now ≡ seeks = sym way_is ∙ seeking in cc))))
  by_way word act (stops why) way_is is stopped = stops_kept why stopped
  by_way word act (ends code) way_is is over =
      ends_kept code (pages_exit word act is (isnt_store act (λ seeking. (let clash : ends code ≡ seeks = sym way_is ∙ seeking in cc)))) over
  by_way word act seeks way_is is access = seeks_kept word act is access.0 access.1

  -- a fetched instruction is done, or its data is sought
  pub acts_kept : (word : ℕ) (act : Act) → IsFetched standing.image.pages (page_bytes w.ctl.mirror) r word act → Kept digest_of (acts w run r word act)
  acts_kept word act is =
      subst (Kept digest_of) (sym (acts_is w run r word act)) (by_way word act (way_of r act) refl is (goes_by standing.image w.ctl.mirror r alone_so.live word act is))
