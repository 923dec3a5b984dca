-- The rows that begin `run` and `resume`.
use Rattle.std.proofs.Common.{◌≡◌, ◌≢◌, ℕ, ◌<◌, ◌||◌, Bool, true, false, List, length, unwrap_or, Option, Some, None, refl, sym, ap, ◌∙◌, subst, arith}
use Rattle.std.specs.Prelude.{slice_set}
use Rattle.std.proofs.lemmas.Bool.{false≢true}
use Rattle.std.proofs.lemmas.Bool.Decides.{nat_tests}
use Rattle.pl_base.specs.declared.number.EncNo.{EncNo}
use Rattle.pl_base.specs.declared.refusal.No.{No}
use Rattle.pl_base.specs.declared.state.State.{State}
use Rattle.pl_base.specs.declared.state.State.TheVariants as state_is
use Rattle.pl_base.specs.States.{is_free, is_sealed, is_under_way, run_refusal}
use Rattle.rv_alone.specs.Flat.{Status, on}
use Rattle.rv_hart.specs.declared.walks.Micro.TheVariants.{Fetching}
use Rattle.rv_hart.specs.declared.walks.Walk.TheVariants.{Start}
use Rattle.rv_tlb.specs.declared.tlb.TlbEntry.{TlbEntry}
use Rattle.mem_ctl.specs.Data.{CtlData}
use Rattle.mon_enclave.specs.declared.enclave.Enclave.{Enclave}
use Rattle.mon_enclave.specs.Records.{enclave_at, free_enclave, with_enclave}
use Rattle.mon_life.specs.Running.{may_run, run_begun, run_refusal_of}
use Rattle.pl_history.specs.declared.answer.Answer.TheVariants as answer_is
use Rattle.pl_history.specs.declared.line.Line.{Line}
use Rattle.pl_history.specs.declared.line.Line.TheVariants.{Run, Resume}
use Rattle.pl_history.specs.declared.setup.SetupParts.{SetupParts}
use Rattle.pl_history.specs.Legal.{AllowedAnswer, after_answer}
use Rattle.pl_history.specs.Monitor.{Monitor, Number, answer, begin}
use Rattle.pl_history.specs.Rules.{is_line}
use Rattle.pl_history.specs.Running.{entered}
use Rattle.world_attack.specs.Room.{RoomStays}
use Rattle.world_machine.specs.declared.under.Under.TheVariants.{Idle, Running}
use Rattle.world_machine.specs.Answering.{entry_now, with_entry}
use Rattle.world_machine.specs.BytesAgree.{HasPut}
use Rattle.world_machine.specs.EnclavesAgree.{EnclaveStands, EnclavesAgree, StatusStands}
use Rattle.world_machine.specs.LinesUnderWay.{IsRunning, LineUnderWay, number_under_way}
use Rattle.world_machine.specs.Making.{begins_unless}
use Rattle.world_machine.specs.PagesAgree.{PagesAgree}
use Rattle.world_machine.specs.RecordsAgree.{LiveAgrees, RecordAgrees, RecordsAgree, RetiredAgrees, is_begun}
use Rattle.world_machine.specs.Running.{begin_run}
use Rattle.world_machine.specs.Standing.{Kept, state_of, written_page}
use Rattle.world_machine.specs.TranslationsAgree.{IsFresh, TranslationsStand, WalkingStands, walking}
use Rattle.world_machine.specs.Worlds.{WorldData, answered_at, hart_line, under_at}
use Rattle.world_machine.proofs.ForkedNumbers.{childless}
use Rattle.world_machine.proofs.Frames.{Frame, enclaves_frame, line_frame, records_frame}
use Rattle.world_machine.proofs.LineKinds.{begun_line}
use Rattle.world_machine.proofs.LineMoves.{LineMoves}
use Rattle.world_machine.proofs.LineTranslations.{isnt_waiting}
use Rattle.world_machine.proofs.Lists.{ChangedAt, changed_set, everywhere, if_other, if_same}
use Rattle.world_machine.proofs.OneNumber.{attacks_stay}
use Rattle.world_machine.proofs.PagesStay.{pages_changed, pages_same}
use Rattle.world_machine.proofs.QuietRows.{answers_kept}
use Rattle.world_machine.proofs.RowKept.{line_after, row_kept}
use Rattle.world_machine.proofs.SentOut.{retired_few}
use Rattle.world_machine.proofs.SetupFacts.{line_forms, used_there}
use Rattle.world_machine.proofs.TranslationFrames.{KeepsSpace, SpacesStay, TablePagesStay, entries_stay, same_keeps, translations_stay, written_stay}
use Rattle.world_machine.proofs.UnderWay.{under_way_busy}

-- `run`, or `resume` where it isn't the first run
abbrev pub run_of : Bool → EncNo → ℕ → Line
run_of true e budget = Run e budget
run_of false e budget = Resume e budget

-- a number that can be run is fresh or paused
abbrev pub is_ready : State → Bool
is_ready state_is.Fresh = true
is_ready state_is.Paused = true
is_ready _ = false

pub none_is : {A : Type 0} (a : A) → Some a ≡ None → ⊥
none_is a is = cc

ready_by : (first : Bool) (state : State) → run_refusal (may_run first) state ≡ None → is_ready state ≡ true
ready_by true state_is.Fresh is = refl
ready_by true state_is.Free is = absurd (none_is _ is)
ready_by true state_is.Building is = absurd (none_is _ is)
ready_by true state_is.On is = absurd (none_is _ is)
ready_by true state_is.Paused is = absurd (none_is _ is)
ready_by true state_is.Ended is = absurd (none_is _ is)
ready_by true state_is.Trapped is = absurd (none_is _ is)
ready_by true state_is.Faulted is = absurd (none_is _ is)
ready_by true state_is.Dying is = absurd (none_is _ is)
ready_by true state_is.Sealed is = absurd (none_is _ is)
ready_by false state_is.Paused is = refl
ready_by false state_is.Free is = absurd (none_is _ is)
ready_by false state_is.Building is = absurd (none_is _ is)
ready_by false state_is.Fresh is = absurd (none_is _ is)
ready_by false state_is.On is = absurd (none_is _ is)
ready_by false state_is.Ended is = absurd (none_is _ is)
ready_by false state_is.Trapped is = absurd (none_is _ is)
ready_by false state_is.Faulted is = absurd (none_is _ is)
ready_by false state_is.Dying is = absurd (none_is _ is)
ready_by false state_is.Sealed is = absurd (none_is _ is)

ready_used : (state : State) → is_ready state ≡ true → is_free state ≡ false
ready_used state_is.Free is = absurd (false≢true is)
ready_used state is = refl

ready_live : (state : State) (live : Bool) → is_ready state ≡ true → LiveAgrees state live → live ≡ true
ready_live state_is.Fresh live is agrees = agrees
ready_live state_is.Paused live is agrees = agrees
ready_live state live is agrees = absurd (false≢true is)

ready_status : (state : State) (status : Status) → is_ready state ≡ true → StatusStands state status → status ≡ on
ready_status state_is.Fresh status is stands = stands
ready_status state_is.Paused status is stands = stands
ready_status state status is stands = absurd (false≢true is)

ready_retired : (state : State) (retired n : ℕ) → is_ready state ≡ true → RetiredAgrees state retired n → retired ≡ n
ready_retired state_is.Fresh retired n is agrees = agrees
ready_retired state_is.Paused retired n is agrees = agrees
ready_retired state retired n is agrees = absurd (false≢true is)

ready_rests : (state : State) → is_ready state ≡ true → is_under_way state ≡ false
ready_rests state_is.Fresh is = refl
ready_rests state_is.Paused is = refl
ready_rests state is = absurd (false≢true is)

ready_unsealed : (state : State) → is_ready state ≡ true → state ≢ state_is.Sealed
ready_unsealed state is sealed = false≢true (sym (ap is_ready sealed) ∙ is)

-- what a run's line says in the monitor
refused_run : (setup : SetupParts) (s : Monitor) (first : Bool) (e : EncNo) (budget : ℕ) (cause : No) → run_refusal (may_run first) (s.number e.0).state ≡ Some cause
    → AllowedAnswer setup s (run_of first e budget) false (answer_is.No cause)
refused_run setup s true e budget cause is = is
refused_run setup s false e budget cause is = is

begun_run : (setup : SetupParts) (s : Monitor) (first : Bool) (e : EncNo) (budget : ℕ) → run_refusal (may_run first) (s.number e.0).state ≡ None
    → AllowedAnswer setup s (run_of first e budget) false answer_is.Begun
begun_run setup s true e budget is = is
begun_run setup s false e budget is = is

refused_stays : (s : Monitor) (hart : ℕ) (first : Bool) (e : EncNo) (budget : ℕ) (cause : No) → after_answer s hart (run_of first e budget) (answer_is.No cause) ≡ answer s hart
refused_stays s hart true e budget cause = refl
refused_stays s hart false e budget cause = refl

begun_gives : (s : Monitor) (hart : ℕ) (first : Bool) (e : EncNo) (budget : ℕ) → after_answer s hart (run_of first e budget) answer_is.Begun ≡ begin (entered s hart e.0) hart
begun_gives s hart true e budget = refl
begun_gives s hart false e budget = refl

some_budget : (first : Bool) (e : EncNo) (budget : ℕ) → is_line (run_of first e budget) ≡ true → 0 < budget
some_budget true e budget is = grind (arith, nat_tests)
some_budget false e budget is = grind (arith, nat_tests)

running_line : (setup : SetupParts) (bytes : ℕ → List ℕ) (rec : ℕ → Enclave) (number : ℕ → Number) (hart : ℕ) (first : Bool) (e : EncNo) (budget : ℕ)
    → IsRunning setup bytes (rec e.0) (number e.0) hart budget 0 (Fetching Start) → LineUnderWay setup bytes rec number hart (Some (run_of first e budget)) (Running (Fetching Start) 0)
running_line setup bytes rec number hart true e budget k = k
running_line setup bytes rec number hart false e budget k = k

running_number : (first : Bool) (e : EncNo) (budget f : ℕ) → number_under_way (Some (run_of first e budget)) (Running (Fetching Start) 0) ≡ Some f → e.0 ≡ f
running_number true e budget f is = ap (λ o. unwrap_or o e.0) is
running_number false e budget f is = ap (λ o. unwrap_or o e.0) is

running_put : (first : Bool) (e : EncNo) (budget page : ℕ) → HasPut (Some (run_of first e budget)) (Running (Fetching Start) 0) page → ⊥
running_put true e budget page put = put
running_put false e budget page put = put

-- the walk of its first fetch hasn't begun
running_walk : (ctl : CtlData) (Fresh : TlbEntry → Type 0) (tables : ℕ) (rec : ℕ → Enclave) (first : Bool) (e : EncNo) (budget : ℕ)
    → WalkingStands ctl Fresh (walking tables rec (Some (run_of first e budget)) (Running (Fetching Start) 0))
running_walk ctl Fresh tables rec true e budget = tt
running_walk ctl Fresh tables rec false e budget = tt

module _ (digest_of : List ℕ → List ℕ) (room_stays : RoomStays) (w : WorldData) (k : Kept digest_of w) (none : w.collision ≡ None) (hart : ℕ) (below : hart < w.setup.harts)
    (idle : under_at w.under hart ≡ Idle) (first : Bool) (e : EncNo) (budget : ℕ) (here : hart_line w hart ≡ Some (run_of first e budget)) where
  abbrev s : Monitor
  s = state_of w

  abbrev r : Enclave
  r = enclave_at w.enclaves e.0

  abbrev n : Number
  n = s.number e.0

  agrees : RecordAgrees r n
  agrees = k.stands.records e.0

  not_begun : is_begun (under_at w.under hart) ≡ false
  not_begun = ap is_begun idle

  module _ (ready : is_ready r.state ≡ true) (passes : run_refusal (may_run first) r.state ≡ None) where
    abbrev now : Enclave
    now = record r { state = state_is.On; hart = record { 0 = hart } }

    abbrev number_now : Number
    number_now = record n { state = state_is.On; hart = hart }

    abbrev enclaves' : List Enclave
    enclaves' = with_enclave w.enclaves e.0 now

    abbrev s' : Monitor
    s' = begin (entered s hart e.0) hart

    x : EnclaveStands w.setup (written_page w) w.owners e.0 r n
    x = k.stands.enclaves e.0 (ready_used r.state ready)

    there : e.0 < length w.enclaves
    there = used_there w.enclaves e.0 (ready_used r.state ready)

    change : ChangedAt free_enclave w.enclaves enclaves' e.0 now
    change = changed_set free_enclave w.enclaves e.0 now there

    number_here : s'.number e.0 ≡ number_now
    number_here = if_same e.0 number_now n

    number_other : (f : ℕ) → f ≢ e.0 → s'.number f ≡ s.number f
    number_other f other = if_other e.0 f number_now (s.number f) other

    live : n.live ≡ true
    live = ready_live r.state n.live ready agrees.live

    now_agrees : RecordAgrees now number_now
    now_agrees = record {
      state = refl;
      live = live;
      hart = refl;
      image = agrees.image;
      given = agrees.given;
      parent = agrees.parent;
      sent = agrees.sent;
      taken = agrees.taken;
      retired = retired_few r.state r.retired n.retired agrees.retired;
    }

    now_stands : EnclaveStands w.setup (written_page w) w.owners e.0 now number_now
    now_stands = record {
      image = x.image;
      image_is = x.image_is;
      held = record { count = x.held.count; apart = x.held.apart; owned = x.held.owned };
      state = record {
        now = x.state.now;
        alone_is = x.state.alone_is;
        context = x.state.context;
        received = x.state.received;
        out = x.state.out;
        status = ready_status r.state x.state.now.status ready x.state.status;
        aligned = x.state.aligned;
        taken_few = x.state.taken_few;
        shown_few = x.state.shown_few;
        shown = x.state.shown;
        pages = λ made. x.state.pages (ap (λ b. b || is_sealed n.state) live);
        start = λ not_live alive. absurd (false≢true (sym not_live ∙ live));
      };
    }

    frame : Frame w.setup e.0 (enclave_at w.enclaves) (enclave_at enclaves') s.number s'.number (written_page w) (written_page w) w.owners w.owners
    frame = record {
      records = change.others;
      numbers = number_other;
      owned = λ f page other is. is;
      own_bytes = λ f page other is. refl;
      table_bytes = λ f level other few low. refl;
      childless = λ f shadow other. childless digest_of w k e.0 (ready_unsealed r.state ready) f shadow;
    }

    same_retired : r.retired ≡ n.retired
    same_retired = ready_retired r.state r.retired n.retired ready agrees.retired

    moves : LineMoves w hart (slice_set w.under hart (Running (Fetching Start) 0)) w.answered (with_entry w.history (entry_now w hart answer_is.Begun)) s' (Running (Fetching Start) 0) (answered_at w.answered hart)
    moves = begun_line digest_of room_stays w k hart below (run_of first e budget) answer_is.Begun refl here
        (subst (λ b. AllowedAnswer w.setup s (run_of first e budget) b answer_is.Begun) (sym not_begun)
        (begun_run w.setup s first e budget (ap (run_refusal (may_run first)) agrees.state ∙ passes)))
        (entered s hart e.0) (λ actor. refl) (Running (Fetching Start) 0) refl (begun_gives s hart first e budget)

    runs : IsRunning w.setup (written_page w) (enclave_at enclaves' e.0) (s'.number e.0) hart budget 0 (Fetching Start)
    runs = subst (λ y. IsRunning w.setup (written_page w) y (s'.number e.0) hart budget 0 (Fetching Start)) (sym change.here)
        (subst (λ m. IsRunning w.setup (written_page w) now m hart budget 0 (Fetching Start)) (sym number_here)
        (record {
          state = refl;
          hart_is = refl;
          within = some_budget first e budget (line_forms w.setup hart (answered_at w.answered hart) (run_of first e budget) k.sizes.rules here);
          retired = let h : r.retired ≡ n.retired = same_retired in omega arith;
          instruction = tt;
        }))

    records_agree : RecordsAgree (enclave_at enclaves') s'.number
    records_agree = records_frame w.setup e.0 (enclave_at w.enclaves) (enclave_at enclaves') s.number s'.number (written_page w) (written_page w) w.owners w.owners frame k.stands.records
        (subst (λ y. RecordAgrees y (s'.number e.0)) (sym change.here) (subst (RecordAgrees now) (sym number_here) now_agrees))

    enclaves_agree : EnclavesAgree w.setup (written_page w) w.owners (enclave_at enclaves') s'.number
    enclaves_agree = enclaves_frame w.setup e.0 (enclave_at w.enclaves) (enclave_at enclaves') s.number s'.number (written_page w) (written_page w) w.owners w.owners frame k.stands.enclaves
        (λ used. subst (λ y. EnclaveStands w.setup (written_page w) w.owners e.0 y (s'.number e.0)) (sym change.here)
        (subst (EnclaveStands w.setup (written_page w) w.owners e.0 now) (sym number_here) now_stands))

    pages_agree : PagesAgree w.setup (enclave_at enclaves') s'.number
    pages_agree = pages_changed w.setup e.0 (enclave_at w.enclaves) (enclave_at enclaves') s.number s'.number now number_now change.others number_other
        change.here number_here refl k.stands.pages
        (pages_same w.setup s.number r now n number_now
        (record { image = refl; sent = refl; retired = refl; kinds = refl; left = refl; parent = refl; pages = refl; spares = refl })
        (k.stands.pages e.0))

    -- a number that is under way isn't the one that begins
    not_theirs : (other f : ℕ) → number_under_way (hart_line w other) (under_at w.under other) ≡ Some f → f ≢ e.0
    not_theirs other f is same =
        false≢true (sym (ready_rests r.state ready) ∙ ap (λ g. is_under_way (enclave_at w.enclaves g).state) (sym same)
        ∙ under_way_busy w.setup (written_page w) (enclave_at w.enclaves) s.number other f (hart_line w other) (under_at w.under other) (k.stands.lines other) is)

    -- ---- translations

    spaces : SpacesStay digest_of w k w.ctl (enclave_at enclaves') s'
    spaces = record {
      space = refl;
      removals = refl;
      numbers = everywhere (λ f. (s.number f).live ≡ true → KeepsSpace (enclave_at w.enclaves f) (enclave_at enclaves' f) (s'.number f)) e.0
          (λ was. subst (λ y. KeepsSpace r y (s'.number e.0)) (sym change.here) (subst (KeepsSpace r now) (sym number_here) (record { live = was; image = refl; pages = refl })))
          (λ f other was. same_keeps (enclave_at w.enclaves f) (enclave_at enclaves' f) (s.number f) (s'.number f) (change.others f other) (number_other f other) was);
    }

    table_pages : TablePagesStay digest_of w k w.ctl (enclave_at enclaves') s'
    table_pages = written_stay digest_of w k (enclave_at enclaves') s' (everywhere (λ f. (s.number f).live ≡ false → (s'.number f).live ≡ false) e.0
        (λ was. absurd (false≢true (sym was ∙ live))) (λ f other was. ap (λ (m : Number). m.live) (number_other f other) ∙ was))

    translations : TranslationsStand w.setup w.ctl w.tlbs w.fences (enclave_at enclaves') s' (line_after w w.answered) (under_at (slice_set w.under hart (Running (Fetching Start) 0)))
    translations = translations_stay digest_of w k w.ctl (enclave_at enclaves') s' spaces table_pages hart w.tlbs
        (line_after w w.answered) (under_at (slice_set w.under hart (Running (Fetching Start) 0))) (record {
          lines = λ other differs. refl;
          unders = moves.under_change.others;
          contexts = λ other f differs is. ap (λ (y : Enclave). y.context) (change.others f (not_theirs other f is));
          harts = refl;
          tlbs = λ other differs. refl;
          waited_none = ap isnt_waiting idle;
          waits_none = ap isnt_waiting moves.under_change.here;
          entries = entries_stay digest_of w k w.ctl (enclave_at enclaves') s' spaces hart;
          walk = subst (λ u. WalkingStands w.ctl (IsFresh w.setup (enclave_at enclaves') s' w.fences hart) (walking w.setup.tables (enclave_at enclaves') (hart_line w hart) u)) (sym moves.under_change.here)
              (subst (λ l. WalkingStands w.ctl (IsFresh w.setup (enclave_at enclaves') s' w.fences hart) (walking w.setup.tables (enclave_at enclaves') l (Running (Fetching Start) 0))) (sym here)
              (running_walk w.ctl (IsFresh w.setup (enclave_at enclaves') s' w.fences hart) w.setup.tables (enclave_at enclaves') first e budget));
        })

    begun_kept : Kept digest_of (begins_unless None (record w { enclaves = enclaves' }) hart (Running (Fetching Start) 0))
    begun_kept = row_kept digest_of w hart w.ctl w.owners enclaves' w.tlbs w.fences (slice_set w.under hart (Running (Fetching Start) 0)) w.answered (with_entry w.history (entry_now w hart answer_is.Begun)) s' (Running (Fetching Start) 0) (answered_at w.answered hart) k none (record {
      line = moves;
      sizes = record { zones = refl; slots = refl; pages = refl; guarded = λ page is. is; numbers = change.size };
      trees = k.trees;
      owners_agree = record { owner = k.stands.owners.owner; maps = k.stands.owners.maps };
      records = records_agree;
      pages_agree = pages_agree;
      enclaves_agree = enclaves_agree;
      host = k.stands.host;
      attacks = attacks_stay digest_of w k hart e.0 (enclave_at enclaves') s' w.owners (slice_set w.under hart (Running (Fetching Start) 0)) w.answered (record {
        attacks = refl;
        records = change.others;
        numbers = number_other;
        guarded = λ page is. is;
        made = λ made. (ap (λ b. b || is_sealed n.state) live, ap (λ (y : Enclave). y.pages) change.here);
        lines = λ other differs. refl;
        unders = moves.under_change.others;
        put = λ page put. running_put first e budget page
            (subst (λ l. HasPut l (Running (Fetching Start) 0) page) here (subst (λ u. HasPut (hart_line w hart) u page) moves.under_change.here put));
      });
      other_lines = λ other differs. line_frame w.setup e.0 (enclave_at w.enclaves) (enclave_at enclaves') s.number s'.number (written_page w) (written_page w) w.owners w.owners frame
          k.stands.enclaves (λ f used. subst (λ m. f < m) k.sizes.numbers (used_there w.enclaves f used)) other (hart_line w other) (under_at w.under other)
          (not_theirs other)
          (k.stands.lines other);
      own_line = subst (λ l. LineUnderWay w.setup (written_page w) (enclave_at enclaves') s'.number hart l (Running (Fetching Start) 0)) (sym here)
          (running_line w.setup (written_page w) (enclave_at enclaves') s'.number hart first e budget runs);
      own_apart = λ other f differs own theirs.
          not_theirs other f theirs (sym (running_number first e budget f (ap (λ l. number_under_way l (Running (Fetching Start) 0)) (sym here) ∙ own)));
      translations = translations;
    })

  begin_by : (o : Option No) → run_refusal_of w.enclaves e.0 first ≡ o
      → Kept digest_of (let b = Rattle.mon_life.specs.Running.entered_unless o w.enclaves (Rattle.mon_life.specs.Running.entered w.enclaves (record { 0 = hart }) e.0) in
      begins_unless b.refusal (record w { enclaves = b.enclaves }) hart (Running (Fetching Start) 0))
  begin_by (Some cause) is = answers_kept digest_of room_stays w k none hart below (run_of first e budget) (answer_is.No cause) refl here
      (subst (λ b. AllowedAnswer w.setup s (run_of first e budget) b (answer_is.No cause)) (sym not_begun)
      (refused_run w.setup s first e budget cause (ap (run_refusal (may_run first)) agrees.state ∙ is)))
      (refused_stays s hart first e budget cause) (ap isnt_waiting idle)
  begin_by None is = begun_kept (ready_by first r.state is) is

  pub begin_run_kept : Kept digest_of (begin_run w hart e.0 first).world
  unfolding run_begun
  begin_run_kept = begin_by (run_refusal_of w.enclaves e.0 first) refl
