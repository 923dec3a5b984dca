-- The row that begins `destroy`: it is refused, or the number is dying, and the hart waits until all others have dropped its translations.
use Rattle.std.proofs.Common.{◌≡◌, ◌≢◌, ℕ, ◌<◌, false, List, [], length, Option, Some, None, refl, sym, ap, ◌∙◌, subst, length-set}
use Rattle.std.specs.Prelude.{slice_set}
use Rattle.std.specs.List.{All}
use Rattle.std.proofs.lemmas.Bool.{false≢true}
use Rattle.pl_base.specs.HartSet.{space_of_number}
use Rattle.pl_base.specs.States.{idle_refusal, is_free, is_under_way}
use Rattle.pl_base.specs.declared.number.EncNo.{EncNo}
use Rattle.pl_base.specs.declared.refusal.No.{No}
use Rattle.pl_base.specs.declared.refusal.No.TheVariants.{NoEnclave}
use Rattle.pl_base.specs.declared.state.State.{State}
use Rattle.pl_base.specs.declared.state.State.TheVariants as state_is
use Rattle.rv_tlb.specs.declared.tlb.TlbEntry.{TlbEntry}
use Rattle.mon_enclave.specs.declared.enclave.Enclave.{Enclave}
use Rattle.mon_enclave.specs.Records.{enclave_at, free_enclave, with_enclave}
use Rattle.mon_fence.specs.declared.fences.Fence.{Fence}
use Rattle.mon_fence.specs.Fences.{fence_of, posted}
use Rattle.mon_fence.proofs.Needs.{fence_of-set_other, fence_of-set_same}
use Rattle.mon_life.specs.Destroying as destroying_is
use Rattle.mon_life.specs.Destroying.{DestroyBegun, destroy_refusal_of, dying_unless}
use Rattle.mon_life.specs.Putting.{in_state}
use Rattle.pl_history.specs.declared.answer.Answer.TheVariants as answer_is
use Rattle.pl_history.specs.declared.line.Line.{Line}
use Rattle.pl_history.specs.declared.line.Line.TheVariants.{Destroy}
use Rattle.pl_history.specs.GivingBack.{dying}
use Rattle.pl_history.specs.Legal.{AllowedAnswer}
use Rattle.pl_history.specs.Monitor.{Monitor, Number, begin}
use Rattle.world_attack.specs.Room.{RoomStays}
use Rattle.world_machine.specs.declared.under.Under.{Under}
use Rattle.world_machine.specs.declared.under.Under.TheVariants.{Destroying, Idle}
use Rattle.world_machine.specs.Acknowledging.{without_covered}
use Rattle.world_machine.specs.Answering.{entry_now, with_entry}
use Rattle.world_machine.specs.BytesAgree.{HasPut, OnlyAttacksDiffer}
use Rattle.world_machine.specs.EnclavesAgree.{EnclaveStands, EnclavesAgree, is_made}
use Rattle.world_machine.specs.FencesStand.{NumberFenceStands, RemovalStands, removals_by}
use Rattle.world_machine.specs.GivingBack.{begins_destroy, destroys_unless}
use Rattle.world_machine.specs.LinesUnderWay.{LineUnderWay, number_under_way}
use Rattle.world_machine.specs.PagesAgree.{PagesAgree}
use Rattle.world_machine.specs.RecordsAgree.{RecordAgrees, RecordsAgree, RetiredAgrees, is_begun}
use Rattle.world_machine.specs.Standing.{Kept, state_of, written_page}
use Rattle.world_machine.specs.TranslationsAgree.{IsFresh, WalkingStands, walking}
use Rattle.world_machine.specs.Worlds.{WorldData, answered_at, hart_line, tlb_at, under_at}
use Rattle.world_machine.proofs.BeginRunRows.{none_is}
use Rattle.world_machine.proofs.ForkedNumbers.{childless}
use Rattle.world_machine.proofs.Frames.{Frame, enclaves_frame, line_frame, records_frame}
use Rattle.world_machine.proofs.GivingChanges.{other_spaces, tables_given}
use Rattle.world_machine.proofs.LineKinds.{begun_line}
use Rattle.world_machine.proofs.LineMoves.{LineMoves}
use Rattle.world_machine.proofs.LineTranslations.{isnt_waiting}
use Rattle.world_machine.proofs.Lists.{ChangedAt, changed_set, if_other, if_same, or_other, or_same}
use Rattle.world_machine.proofs.NumberChanges.{NumberChange, number_changed}
use Rattle.world_machine.proofs.NumberFreshness.{AllButOneSpace, dying_entries, dying_fresh}
use Rattle.world_machine.proofs.OneNumber.{attacks_stay}
use Rattle.world_machine.proofs.PagesStay.{pages_changed, pages_same}
use Rattle.world_machine.proofs.QuietRows.{answers_kept}
use Rattle.world_machine.proofs.RowKept.{RowFacts, line_after, row_kept}
use Rattle.world_machine.proofs.SetupFacts.{used_there}
use Rattle.world_machine.proofs.StandingFences.{fences_giving, no_fence}
use Rattle.world_machine.proofs.TranslationFrames.{giving_so, removal_so}
use Rattle.world_machine.proofs.UnderWay.{some_same, under_way_busy}

-- ---- a number that can be given back

-- it isn't free, and no line has it under way
rests_by : (state : State) → idle_refusal state ≡ None → (is_free state ≡ false) × (is_under_way state ≡ false)
rests_by state_is.Free is = absurd (none_is _ is)
rests_by state_is.Sealed is = absurd (none_is _ is)
rests_by state_is.On is = absurd (none_is _ is)
rests_by state_is.Building is = absurd (none_is _ is)
rests_by state_is.Dying is = absurd (none_is _ is)
rests_by state_is.Fresh is = (refl, refl)
rests_by state_is.Paused is = (refl, refl)
rests_by state_is.Ended is = (refl, refl)
rests_by state_is.Trapped is = (refl, refl)
rests_by state_is.Faulted is = (refl, refl)

rests_retired : (state : State) (retired n : ℕ) → is_under_way state ≡ false → RetiredAgrees state retired n → retired ≡ n
rests_retired state_is.On retired n is agrees = absurd (false≢true (sym is))
rests_retired state retired n is agrees = agrees

rests_unsealed : (state : State) → idle_refusal state ≡ None → state ≢ state_is.Sealed
rests_unsealed state is sealed = none_is NoEnclave (sym (ap idle_refusal sealed) ∙ is)

module _ (digest_of : List ℕ → List ℕ) (room_stays : RoomStays) (w : WorldData) (k : Kept digest_of w) (none : w.collision ≡ None) (hart : ℕ) (below : hart < w.setup.harts)
    (e : EncNo) (here : hart_line w hart ≡ Some (Destroy e)) (idle : under_at w.under hart ≡ Idle) (there : e.0 < length w.enclaves) where
  abbrev s : Monitor
  s = state_of w

  abbrev r : Enclave
  r = enclave_at w.enclaves e.0

  abbrev n : Number
  n = s.number e.0

  agrees : RecordAgrees r n
  agrees = k.stands.records e.0

  not_begun : is_begun (under_at w.under hart) ≡ false
  not_begun = ap is_begun idle

  -- ---- begun

  module _ (passes : idle_refusal r.state ≡ None) where
    used : is_free r.state ≡ false
    used = (rests_by r.state passes).0

    at_rest : is_under_way r.state ≡ false
    at_rest = (rests_by r.state passes).1

    abbrev r_now : Enclave
    r_now = record r { state = state_is.Dying }

    abbrev n_now : Number
    n_now = record n { state = state_is.Dying; live = false }

    abbrev enclaves' : List Enclave
    enclaves' = with_enclave w.enclaves e.0 r_now

    abbrev fences' : List (Option Fence)
    fences' = posted w.fences hart (space_of_number e) None

    abbrev entries' : List TlbEntry
    entries' = without_covered (tlb_at w.tlbs hart) (space_of_number e) None

    abbrev tlbs' : List (List TlbEntry)
    tlbs' = slice_set w.tlbs hart entries'

    abbrev under' : List Under
    under' = slice_set w.under hart Destroying

    abbrev s' : Monitor
    s' = begin (dying s e.0) hart

    change : ChangedAt free_enclave w.enclaves enclaves' e.0 r_now
    change = changed_set free_enclave w.enclaves e.0 r_now there

    number_here : s'.number e.0 ≡ n_now
    number_here = if_same e.0 n_now n

    number_other : (f : ℕ) → f ≢ e.0 → s'.number f ≡ s.number f
    number_other f other = if_other e.0 f n_now (s.number f) other

    -- a number that is under way isn't the one that is given back
    not_theirs : (other f : ℕ) → number_under_way (hart_line w other) (under_at w.under other) ≡ Some f → f ≢ e.0
    not_theirs other f is same =
        false≢true (sym at_rest ∙ ap (λ g. is_under_way (enclave_at w.enclaves g).state) (sym same)
        ∙ under_way_busy w.setup (written_page w) (enclave_at w.enclaves) s.number other f (hart_line w other) (under_at w.under other) (k.stands.lines other) is)

    moves : LineMoves w hart under' w.answered (with_entry w.history (entry_now w hart answer_is.Begun)) s' Destroying (answered_at w.answered hart)
    moves = begun_line digest_of room_stays w k hart below (Destroy e) answer_is.Begun refl here
        (subst (λ b. AllowedAnswer w.setup s (Destroy e) b answer_is.Begun) (sym not_begun) (ap idle_refusal agrees.state ∙ passes))
        (dying s e.0) (λ actor. refl) Destroying refl refl

    -- ---- records

    frame : Frame w.setup e.0 (enclave_at w.enclaves) (enclave_at enclaves') s.number s'.number (written_page w) (written_page w) w.owners w.owners
    frame = record {
      records = change.others;
      numbers = number_other;
      owned = λ f page other is. is;
      own_bytes = λ f page other is. refl;
      table_bytes = λ f level other few low. refl;
      childless = λ f shadow other. childless digest_of w k e.0 (rests_unsealed r.state passes) f shadow;
    }

    now_agrees : RecordAgrees r_now n_now
    now_agrees = record {
      state = refl;
      live = refl;
      hart = agrees.hart;
      image = agrees.image;
      given = agrees.given;
      parent = agrees.parent;
      sent = agrees.sent;
      taken = agrees.taken;
      retired = rests_retired r.state r.retired n.retired at_rest agrees.retired;
    }

    x : EnclaveStands w.setup (written_page w) w.owners e.0 r n
    x = k.stands.enclaves e.0 used

    now_stands : EnclaveStands w.setup (written_page w) w.owners e.0 r_now n_now
    now_stands = record {
      image = x.image;
      image_is = x.image_is;
      held = x.held;
      state = record {
        now = x.state.now;
        alone_is = x.state.alone_is;
        context = x.state.context;
        received = x.state.received;
        out = x.state.out;
        status = tt;
        aligned = x.state.aligned;
        taken_few = x.state.taken_few;
        shown_few = x.state.shown_few;
        shown = x.state.shown;
        pages = λ made. absurd (false≢true made);
        start = λ not_live not_dying. absurd (false≢true (sym not_dying));
      };
    }

    records_agree : RecordsAgree (enclave_at enclaves') s'.number
    records_agree = records_frame w.setup e.0 (enclave_at w.enclaves) (enclave_at enclaves') s.number s'.number (written_page w) (written_page w) w.owners w.owners frame k.stands.records
        (subst (λ y. RecordAgrees y (s'.number e.0)) (sym change.here) (subst (RecordAgrees r_now) (sym number_here) now_agrees))

    enclaves_agree : EnclavesAgree w.setup (written_page w) w.owners (enclave_at enclaves') s'.number
    enclaves_agree = enclaves_frame w.setup e.0 (enclave_at w.enclaves) (enclave_at enclaves') s.number s'.number (written_page w) (written_page w) w.owners w.owners frame k.stands.enclaves
        (λ used. subst (λ y. EnclaveStands w.setup (written_page w) w.owners e.0 y (s'.number e.0)) (sym change.here)
        (subst (EnclaveStands w.setup (written_page w) w.owners e.0 r_now) (sym number_here) now_stands))

    pages_agree : PagesAgree w.setup (enclave_at enclaves') s'.number
    pages_agree = pages_changed w.setup e.0 (enclave_at w.enclaves) (enclave_at enclaves') s.number s'.number r_now n_now change.others number_other
        change.here number_here refl k.stands.pages
        (pages_same w.setup s.number r r_now n n_now (record { image = refl; sent = refl; retired = refl; kinds = refl; left = refl; parent = refl; pages = refl; spares = refl })
        (k.stands.pages e.0))

    -- ---- bytes

    not_live : (s'.number e.0).live ≡ false
    not_live = ap (λ (m : Number). m.live) number_here

    put_none : (page : ℕ) → HasPut (line_after w w.answered hart) (under_at under' hart) page → ⊥
    put_none page put = subst (λ l. HasPut l Destroying page) here (subst (λ u. HasPut (hart_line w hart) u page) moves.under_change.here put)

    attacks : OnlyAttacksDiffer w.setup.zones w.ctl.off_chip w.ctl.mirror s'.attacks w.owners (enclave_at enclaves') s'.number (line_after w w.answered) (under_at under')
    attacks = attacks_stay digest_of w k hart e.0 (enclave_at enclaves') s' w.owners under' w.answered (record {
      attacks = refl;
      records = change.others;
      numbers = number_other;
      guarded = λ page is. is;
      made = λ made. absurd (false≢true (sym (ap is_made number_here) ∙ made));
      lines = λ other differs. refl;
      unders = moves.under_change.others;
      put = put_none;
    })

    -- ---- translations

    no_removal : removals_by s.removals hart ≡ []
    no_removal = removal_so digest_of w k hart Idle idle refl

    hart_has_fence : hart < length w.fences
    hart_has_fence = subst (λ size. hart < size) (sym k.stands.translations.fences_stand.size) below

    hart_has_tlb : hart < length w.tlbs
    hart_has_tlb = subst (λ size. hart < size) (sym k.stands.translations.harts) below

    none_posted : fence_of w.fences hart ≡ None
    none_posted = no_fence w.setup.harts w.fences s.removals k.stands.translations.fences_stand hart below (giving_so digest_of w k hart (ap isnt_waiting idle)) no_removal

    spaces : AllButOneSpace w.setup (enclave_at w.enclaves) (enclave_at enclaves') s s' e.0
    spaces = other_spaces w e.0 (enclave_at enclaves') s' refl refl change.others number_other

    -- the hart's line after it
    abbrev AtDestroying : (Option Line → Under → Type 0) → Type 0
    AtDestroying P = P (line_after w w.answered hart) (under_at under' hart)

    at_destroying : (P : Option Line → Under → Type 0) → P (Some (Destroy e)) Destroying → AtDestroying P
    at_destroying P holds = subst (λ l. P l (under_at under' hart)) (sym here) (subst (P (Some (Destroy e))) (sym moves.under_change.here) holds)

    numbers_change : NumberChange w hart e.0 w.ctl (enclave_at enclaves') tlbs' fences' s' (line_after w w.answered) (under_at under')
    numbers_change = record {
      removals = refl;
      records = change.others;
      tables = tables_given digest_of w k e.0 (enclave_at enclaves') s' refl change.others number_other not_live w.ctl.off_chip;
      host_at = λ vpn level. refl;
      number_at = λ f live vpn level. refl;
      harts = length-set w.tlbs hart entries';
      fences_stand = fences_giving w.setup.harts w.fences s.removals k.stands.translations.fences_stand hart below e.0 no_removal;
      lines = λ other differs. refl;
      unders = moves.under_change.others;
      apart = λ other f differs is. not_theirs other f is;
      fences = λ other differs. fence_of-set_other w.fences hart other _ differs;
      tlbs = λ other differs. or_other w.tlbs hart other entries' [] differs;
      used = λ other inside differs. dying_fresh w.setup (enclave_at w.enclaves) (enclave_at enclaves') s s' e.0 spaces w.fences hart none_posted k.stands.translations.fences_stand.needs_others hart_has_fence other
          (subst (λ size. other < size) (sym k.stands.translations.fences_stand.size) inside) differs;
      own_removals = at_destroying (λ l u. RemovalStands l u (removals_by s.removals hart)) no_removal;
      own_giving = at_destroying (λ l u. NumberFenceStands l u (fence_of fences' hart))
          (record { posted = _; is = fence_of-set_same w.fences hart _ hart_has_fence; of_number = refl; whole = refl });
      own_entries = subst (All (IsFresh w.setup (enclave_at enclaves') s' fences' hart)) (sym (or_same w.tlbs hart entries' [] hart_has_tlb))
          (dying_entries w.setup (enclave_at w.enclaves) (enclave_at enclaves') s s' e.0 spaces w.fences hart none_posted k.stands.translations.fences_stand.needs_others hart_has_fence (tlb_at w.tlbs hart)
          (k.stands.translations.fresh.entries hart));
      own_walk = at_destroying (λ l u. WalkingStands w.ctl (IsFresh w.setup (enclave_at enclaves') s' fences' hart) (walking w.setup.tables (enclave_at enclaves') l u)) tt;
    }

    facts : RowFacts digest_of w hart w.ctl w.owners enclaves' tlbs' fences' under' w.answered (with_entry w.history (entry_now w hart answer_is.Begun)) s' Destroying (answered_at w.answered hart)
    facts = record {
      line = moves;
      sizes = record { zones = refl; slots = refl; pages = refl; guarded = λ page is. is; numbers = change.size };
      trees = k.trees;
      owners_agree = record { owner = k.stands.owners.owner; maps = k.stands.owners.maps };
      records = records_agree;
      pages_agree = pages_agree;
      enclaves_agree = enclaves_agree;
      host = k.stands.host;
      attacks = attacks;
      other_lines = λ other differs. line_frame w.setup e.0 (enclave_at w.enclaves) (enclave_at enclaves') s.number s'.number (written_page w) (written_page w) w.owners w.owners frame
          k.stands.enclaves (λ f used. subst (λ m. f < m) k.sizes.numbers (used_there w.enclaves f used)) other (hart_line w other) (under_at w.under other)
          (not_theirs other) (k.stands.lines other);
      own_line = subst (λ l. LineUnderWay w.setup (written_page w) (enclave_at enclaves') s'.number hart l Destroying) (sym here) (ap (λ (y : Enclave). y.state) change.here);
      own_apart = λ other f differs own theirs. not_theirs other f theirs (some_same f e.0 (sym own ∙ ap (λ l. number_under_way l Destroying) here));
      translations = number_changed digest_of w k hart e.0 w.ctl (enclave_at enclaves') tlbs' fences' s' (line_after w w.answered) (under_at under') numbers_change;
    }

    begun_kept : Kept digest_of (destroys_unless None (record w { enclaves = enclaves'; fences = fences' }) hart e)
    begun_kept = row_kept digest_of w hart w.ctl w.owners enclaves' tlbs' fences' under' w.answered (with_entry w.history (entry_now w hart answer_is.Begun)) s' Destroying
        (answered_at w.answered hart) k none facts

  -- ---- the event, by whether it is refused

  abbrev world_of : DestroyBegun → WorldData
  world_of begun = destroys_unless begun.refusal (record w { enclaves = begun.enclaves; fences = begun.fences }) hart e

  abbrev begun_by : Option No → DestroyBegun
  begun_by o = dying_unless o w.enclaves w.fences (in_state w.enclaves e.0 state_is.Dying) (posted w.fences hart (space_of_number e) None)

  by_refusal : (o : Option No) → destroy_refusal_of w.enclaves e.0 ≡ o → Kept digest_of (world_of (begun_by o))
  by_refusal (Some cause) is = answers_kept digest_of room_stays w k none hart below (Destroy e) (answer_is.No cause) refl here
      (subst (λ b. AllowedAnswer w.setup s (Destroy e) b (answer_is.No cause)) (sym not_begun) (ap idle_refusal agrees.state ∙ is)) refl (ap isnt_waiting idle)
  by_refusal None is = begun_kept is

  -- an event that begins a `destroy` keeps what a world keeps
  pub begins_destroy_kept : Kept digest_of (begins_destroy w hart e).world
  unfolding destroying_is.destroy_begun
  begins_destroy_kept = by_refusal (destroy_refusal_of w.enclaves e.0) refl
