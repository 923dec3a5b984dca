-- The row of `grant`: it is refused, or the page is the number's, and the last of its spares.
use Rattle.std.proofs.Common.{◌≡◌, ◌≢◌, ℕ, ◌+◌, ◌<◌, true, false, if◌then◌else◌, List, [], ◌∷◌, ◌++◌, Option, Some, None, slice_get, refl, sym, ap, ◌∙◌, subst}
use Rattle.std.specs.List.{All}
use Rattle.std.specs.Prelude.{nat_lt, slice_set}
use Rattle.std.proofs.lemmas.Bool.{false≢true}
use Rattle.std.proofs.lemmas.List.{length-append}
use Rattle.std.proofs.lemmas.List.Elements.{All-from_recursion, All-weaker}
use Rattle.pl_base.specs.Pages.{is_among, most_spares}
use Rattle.pl_base.specs.Refusals.{first_refusal, refuse}
use Rattle.pl_base.specs.States.{idle_refusal, is_absent, is_free, is_under_way}
use Rattle.pl_base.specs.declared.number.EncNo.{EncNo}
use Rattle.pl_base.specs.declared.refusal.No.{No}
use Rattle.pl_base.specs.declared.refusal.No.TheVariants.{TooMany}
use Rattle.pl_base.specs.declared.state.State.{State}
use Rattle.pl_base.specs.declared.state.State.TheVariants as state_is
use Rattle.mon_enclave.specs.declared.enclave.Enclave.{Enclave}
use Rattle.mon_enclave.specs.declared.enclave.PageKind.{PageKind}
use Rattle.mon_enclave.specs.declared.enclave.PageKind.TheVariants.{Own, Shared}
use Rattle.mon_enclave.specs.Records.{enclave_at, free_enclave, with_enclave, with_spare}
use Rattle.mon_life.specs.Making as machine
use Rattle.mon_life.specs.Making.{PagesTaken, taken_unless, taker}
use Rattle.mon_owner.specs.declared.owners.Owner.{Owner}
use Rattle.mon_owner.specs.declared.owners.Owner.TheVariants as owner_is
use Rattle.mon_owner.specs.Owners.{given_to}
use Rattle.mon_owner.proofs.OwnerLists.{length-given_to}
use Rattle.mon_shadow.specs.Granting.{grant_made, grant_refusal_of}
use Rattle.mon_shadow.specs.Laws.{MayGrant}
use Rattle.mon_shadow.proofs.GrantLemmas.{grants_are_refused}
use Rattle.pl_history.specs.declared.answer.Answer.TheVariants as answer_is
use Rattle.pl_history.specs.declared.line.Line.TheVariants.{Grant}
use Rattle.pl_history.specs.Legal.{AllowedAnswer}
use Rattle.pl_history.specs.Making as monitor
use Rattle.pl_history.specs.Making.{grant_refusal, granted}
use Rattle.pl_history.specs.Monitor.{Monitor, Number, answer, number, script_of}
use Rattle.pl_history.specs.Protection.{pmp_of}
use Rattle.world_attack.specs.Room.{RoomStays}
use Rattle.world_machine.specs.declared.under.Under.{Under}
use Rattle.world_machine.specs.declared.under.Under.TheVariants.{Idle}
use Rattle.world_machine.specs.Answering.{answers, entry_now, with_entry}
use Rattle.world_machine.specs.BytesAgree.{HasPut}
use Rattle.world_machine.specs.EnclavesAgree.{EnclaveStands, EnclavesAgree, IsOwnOrShared, is_made}
use Rattle.world_machine.specs.LinesUnderWay.{number_under_way}
use Rattle.world_machine.specs.Making.{answers_by, grants_page}
use Rattle.world_machine.specs.PagesAgree.{PagesAgree}
use Rattle.world_machine.specs.RecordsAgree.{RecordAgrees, RecordsAgree, is_begun}
use Rattle.world_machine.specs.Standing.{Kept, state_of, written_page}
use Rattle.world_machine.specs.TranslationsAgree.{IsFresh, TranslationsStand, WalkingStands, walking}
use Rattle.world_machine.specs.Worlds.{WorldData, answered_at, hart_line, under_at}
use Rattle.world_machine.proofs.BrokenPages.{pages_granted}
use Rattle.world_machine.proofs.CreateRefusals.{behind, page_refusals_same}
use Rattle.world_machine.proofs.ForkedNumbers.{childless}
use Rattle.world_machine.proofs.Frames.{Frame, enclaves_frame, line_frame, records_frame}
use Rattle.world_machine.proofs.LineKinds.{answered_line}
use Rattle.world_machine.proofs.LineMoves.{LineMoves}
use Rattle.world_machine.proofs.LineTranslations.{idle_walks, isnt_waiting}
use Rattle.world_machine.proofs.Lists.{ChangedAt, changed_set, everywhere, if_other, if_same}
use Rattle.world_machine.proofs.OneNumber.{attacks_stay}
use Rattle.world_machine.proofs.OwnersGiven.{given_agree, given_host, guard_stays, guard_stood, own_stays}
use Rattle.world_machine.proofs.PagesStay.{pages_changed}
use Rattle.world_machine.proofs.QuietRows.{answers_kept, idle_has_none, idle_put_none, none_some}
use Rattle.world_machine.proofs.RowKept.{line_after, row_kept}
use Rattle.world_machine.proofs.SetupFacts.{used_there}
use Rattle.world_machine.proofs.TranslationFrames.{KeepsSpace, SpacesStay, TablePagesStay, entries_stay, same_keeps, translations_stay, written_stay}
use Rattle.world_machine.proofs.UnderWay.{under_way_busy}

there_used : (state : State) → is_absent state ≡ false → is_free state ≡ false
there_used state_is.Free is = absurd (false≢true (sym is))
there_used state is = refl

there_unsealed : (state : State) → is_absent state ≡ false → state ≢ state_is.Sealed
there_unsealed state is sealed = false≢true (sym is ∙ ap is_absent sealed)

module _ (digest_of : List ℕ → List ℕ) (room_stays : RoomStays) (w : WorldData) (k : Kept digest_of w) (none : w.collision ≡ None) (hart : ℕ) (below : hart < w.setup.harts)
    (e : EncNo) (page : ℕ) (here : hart_line w hart ≡ Some (Grant e page)) (idle : under_at w.under hart ≡ Idle) where
  abbrev s : Monitor
  s = state_of w

  abbrev r : Enclave
  r = enclave_at w.enclaves e.0

  abbrev n : Number
  n = s.number e.0

  agrees : RecordAgrees r n
  agrees = k.stands.records e.0

  abbrev refusal : Option No
  refusal = grant_refusal_of w.owners w.enclaves (pmp_of w.setup) e.0 page

  refusal_is : refusal ≡ grant_refusal w.setup s e.0 page
  refusal_is =
      let many : Option No = refuse (nat_lt most_spares (r.given + 1)) TooMany in
      behind (idle_refusal r.state) (machine.page_refusals w.owners (pmp_of w.setup) (page ∷ []) ++ many ∷ []) (monitor.page_refusals w.setup s (page ∷ []) ++ many ∷ [])
      (page_refusals_same w.setup w.owners s k.stands.owners (page ∷ []) (many ∷ []))
      ∙ (λ i. first_refusal (idle_refusal (sym agrees.state i)
      ∷ (monitor.page_refusals w.setup s (page ∷ []) ++ refuse (nat_lt most_spares (sym agrees.given i + 1)) TooMany ∷ [])))

  not_begun : is_begun (under_at w.under hart) ≡ false
  not_begun = ap is_begun idle

  -- ---- granted

  module _ (passes : refusal ≡ None) where
    may : MayGrant w.owners w.enclaves (pmp_of w.setup) e.0 page
    may = (grants_are_refused w.owners w.enclaves (pmp_of w.setup) e.0 page).0 passes

    free : All (λ p. slice_get w.owners p ≡ Some (owner_is.Host 0)) (page ∷ [])
    free = All-from_recursion (λ p. slice_get w.owners p ≡ Some (owner_is.Host 0)) (page ∷ []) (may.host, tt)

    used : is_free r.state ≡ false
    used = there_used r.state may.there

    abbrev r_now : Enclave
    r_now = with_spare r page

    abbrev n_now : Number
    n_now = record n { spares = n.spares ++ page ∷ [] }

    abbrev owners' : List Owner
    owners' = given_to w.owners (page ∷ []) (taker e.0 false)

    abbrev enclaves' : List Enclave
    enclaves' = with_enclave w.enclaves e.0 r_now

    abbrev under' : List Under
    under' = slice_set w.under hart Idle

    abbrev answered' : List ℕ
    answered' = slice_set w.answered hart (answered_at w.answered hart + 1)

    abbrev s' : Monitor
    s' = answer (granted s e.0 page) hart

    moves : LineMoves w hart under' answered' (with_entry w.history (entry_now w hart answer_is.Ok)) s' Idle (answered_at w.answered hart + 1)
    moves = answered_line digest_of room_stays w k hart below (Grant e page) answer_is.Ok refl here
        (subst (λ b. AllowedAnswer w.setup s (Grant e page) b answer_is.Ok) (sym not_begun) (sym refusal_is ∙ passes, refl)) (granted s e.0 page) (λ actor. refl) refl

    change : ChangedAt free_enclave w.enclaves enclaves' e.0 r_now
    change = changed_set free_enclave w.enclaves e.0 r_now (used_there w.enclaves e.0 used)

    number_here : s'.number e.0 ≡ n_now
    number_here = if_same e.0 n_now n

    number_other : (f : ℕ) → f ≢ e.0 → s'.number f ≡ s.number f
    number_other f other = if_other e.0 f n_now (s.number f) other

    -- no hart has the number under way
    not_theirs : (other f : ℕ) → number_under_way (hart_line w other) (under_at w.under other) ≡ Some f → f ≢ e.0
    not_theirs other f is same =
        false≢true (sym may.at_rest ∙ ap (λ g. is_under_way (enclave_at w.enclaves g).state) (sym same)
        ∙ under_way_busy w.setup (written_page w) (enclave_at w.enclaves) s.number other f (hart_line w other) (under_at w.under other) (k.stands.lines other) is)

    -- ---- records

    frame : Frame w.setup e.0 (enclave_at w.enclaves) (enclave_at enclaves') s.number s'.number (written_page w) (written_page w) w.owners owners'
    frame = record {
      records = change.others;
      numbers = number_other;
      owned = λ f p other is. own_stays w.owners (taker e.0 false) (page ∷ []) free f p is;
      own_bytes = λ f p other is. refl;
      table_bytes = λ f level other few low. refl;
      childless = λ f shadow other. childless digest_of w k e.0 (there_unsealed r.state may.there) f shadow;
    }

    now_agrees : RecordAgrees r_now n_now
    now_agrees = record {
      state = agrees.state;
      live = agrees.live;
      hart = agrees.hart;
      image = agrees.image;
      given = length-append n.spares (page ∷ []) ∙ ap (λ size. size + 1) agrees.given;
      parent = agrees.parent;
      sent = agrees.sent;
      taken = agrees.taken;
      retired = agrees.retired;
    }

    x : EnclaveStands w.setup (written_page w) w.owners e.0 r n
    x = k.stands.enclaves e.0 used

    still_held : (kind : PageKind) → IsOwnOrShared w.owners e.0 r.parent kind → IsOwnOrShared owners' e.0 r.parent kind
    still_held (Own p) own = own_stays w.owners (taker e.0 false) (page ∷ []) free e.0 p own
    still_held (Shared p) (shadow, parent, own) = (shadow, parent, own_stays w.owners (taker e.0 false) (page ∷ []) free shadow.0 p own)

    now_stands : EnclaveStands w.setup (written_page w) owners' e.0 r_now n_now
    now_stands = record {
      image = x.image;
      image_is = x.image_is;
      held = record {
        count = x.held.count;
        apart = x.held.apart;
        owned = All-weaker (IsOwnOrShared w.owners e.0 r.parent) (IsOwnOrShared owners' e.0 r.parent) still_held r.pages x.held.owned;
      };
      state = record {
        now = x.state.now;
        alone_is = x.state.alone_is;
        context = x.state.context;
        received = x.state.received;
        out = x.state.out;
        status = x.state.status;
        aligned = x.state.aligned;
        taken_few = x.state.taken_few;
        shown_few = x.state.shown_few;
        shown = x.state.shown;
        pages = x.state.pages;
        start = x.state.start;
      };
    }

    records_agree : RecordsAgree (enclave_at enclaves') s'.number
    records_agree = records_frame w.setup e.0 (enclave_at w.enclaves) (enclave_at enclaves') s.number s'.number (written_page w)
        (written_page w) w.owners owners' frame k.stands.records
        (subst (λ y. RecordAgrees y (s'.number e.0)) (sym change.here) (subst (RecordAgrees r_now) (sym number_here) now_agrees))

    enclaves_agree : EnclavesAgree w.setup (written_page w) owners' (enclave_at enclaves') s'.number
    enclaves_agree = enclaves_frame w.setup e.0 (enclave_at w.enclaves) (enclave_at enclaves') s.number s'.number (written_page w)
        (written_page w) w.owners owners' frame k.stands.enclaves
        (λ in_use. subst (λ y. EnclaveStands w.setup (written_page w) owners' e.0 y (s'.number e.0)) (sym change.here)
        (subst (EnclaveStands w.setup (written_page w) owners' e.0 r_now) (sym number_here) now_stands))

    pages_agree : PagesAgree w.setup (enclave_at enclaves') s'.number
    pages_agree = pages_changed w.setup e.0 (enclave_at w.enclaves)
        (enclave_at enclaves') s.number s'.number r_now n_now change.others number_other change.here number_here refl k.stands.pages
        (pages_granted w.setup s.number r n (k.stands.pages e.0) page)

    -- ---- translations

    spaces : SpacesStay digest_of w k w.ctl (enclave_at enclaves') s'
    spaces = record {
      space = refl;
      removals = refl;
      numbers = everywhere (λ f. (s.number f).live ≡ true → KeepsSpace (enclave_at w.enclaves f) (enclave_at enclaves' f) (s'.number f)) e.0
          (λ was. subst (λ y. KeepsSpace r y (s'.number e.0)) (sym change.here) (subst (KeepsSpace r r_now) (sym number_here) (record { live = was; image = refl; pages = refl })))
          (λ f other was. same_keeps (enclave_at w.enclaves f) (enclave_at enclaves' f) (s.number f) (s'.number f) (change.others f other) (number_other f other) was);
    }

    table_pages : TablePagesStay digest_of w k w.ctl (enclave_at enclaves') s'
    table_pages = written_stay digest_of w k (enclave_at enclaves') s' (everywhere (λ f. (s.number f).live ≡ false → (s'.number f).live ≡ false) e.0
        (λ was. ap (λ (m : Number). m.live) number_here ∙ was) (λ f other was. ap (λ (m : Number). m.live) (number_other f other) ∙ was))

    translations : TranslationsStand w.setup w.ctl w.tlbs w.fences (enclave_at enclaves') s' (line_after w answered') (under_at under')
    translations = translations_stay digest_of w k w.ctl (enclave_at enclaves') s' spaces table_pages hart w.tlbs (line_after w answered') (under_at under') (record {
      lines = λ other differs. ap (slice_get (script_of w.setup other)) (moves.answered_change.others other differs);
      unders = moves.under_change.others;
      contexts = λ other f differs is. ap (λ (y : Enclave). y.context) (change.others f (not_theirs other f is));
      harts = refl;
      tlbs = λ other differs. refl;
      waited_none = ap isnt_waiting idle;
      waits_none = ap isnt_waiting moves.under_change.here;
      entries = entries_stay digest_of w k w.ctl (enclave_at enclaves') s' spaces hart;
      walk =
          subst (λ u. WalkingStands w.ctl (IsFresh w.setup (enclave_at enclaves') s' w.fences hart) (walking w.setup.tables (enclave_at enclaves') (line_after w answered' hart) u))
          (sym moves.under_change.here) (idle_walks w.ctl (IsFresh w.setup (enclave_at enclaves') s' w.fences hart) w.setup.tables (enclave_at enclaves') _);
    })

    -- ---- the event

    owner_now : (p : ℕ) → s'.owner p ≡ (if is_among (page ∷ []) p then Some (number e.0) else s.owner p)
    owner_now p = refl

    granted_kept : Kept digest_of (answers (record w { owners = owners'; enclaves = enclaves' }) hart answer_is.Ok)
    granted_kept = row_kept digest_of w hart w.ctl owners' enclaves' w.tlbs w.fences under' answered' (with_entry w.history (entry_now w hart answer_is.Ok)) s' Idle
        (answered_at w.answered hart + 1) k none (record {
          line = moves;
          sizes = record {
            zones = refl;
            slots = refl;
            pages = length-given_to w.owners (taker e.0 false) (page ∷ []);
            guarded = guard_stays w.owners (taker e.0 false) (page ∷ []) free;
            numbers = change.size;
          };
          trees = k.trees;
          owners_agree = given_agree w.owners (taker e.0 false) (page ∷ []) free e.0 refl s s' owner_now (λ p. refl) k.stands.owners;
          records = records_agree;
          pages_agree = pages_agree;
          enclaves_agree = enclaves_agree;
          host = given_host w.owners (taker e.0 false) (page ∷ []) free e.0 refl s s' owner_now w.ctl.off_chip (λ p. refl) k.stands.host;
          attacks = attacks_stay digest_of w k hart e.0 (enclave_at enclaves') s' owners' under' answered' (record {
            attacks = refl;
            records = change.others;
            numbers = number_other;
            guarded = guard_stood w.owners (taker e.0 false) (page ∷ []) free e.0 refl;
            made = λ made. (ap is_made (sym number_here) ∙ made, ap (λ (y : Enclave). y.pages) change.here);
            lines = λ other differs. ap (slice_get (script_of w.setup other)) (moves.answered_change.others other differs);
            unders = moves.under_change.others;
            put = λ p put. idle_put_none _ p (subst (λ u. HasPut (line_after w answered' hart) u p) moves.under_change.here put);
          });
          other_lines = λ other differs. line_frame w.setup e.0 (enclave_at w.enclaves) (enclave_at enclaves') s.number s'.number (written_page w)
              (written_page w) w.owners owners' frame
              k.stands.enclaves (λ f in_use. subst (λ m. f < m) k.sizes.numbers (used_there w.enclaves f in_use)) other (hart_line w other) (under_at w.under other)
              (not_theirs other) (k.stands.lines other);
          own_line = tt;
          own_apart = λ other f differs own is. none_some f _ (idle_has_none _) own;
          translations = translations;
        })

  -- ---- the event, by whether it is refused

  abbrev world_of : PagesTaken → WorldData
  world_of made = answers_by made.refusal (record w { owners = made.owners; enclaves = made.enclaves }) hart

  abbrev made_by : Option No → PagesTaken
  made_by o = taken_unless o w.owners w.enclaves (given_to w.owners (page ∷ []) (taker e.0 false)) (with_enclave w.enclaves e.0 (with_spare r page))

  by_refusal : (o : Option No) → refusal ≡ o → Kept digest_of (world_of (made_by o))
  by_refusal (Some cause) is = answers_kept digest_of room_stays w k none hart below (Grant e page) (answer_is.No cause) refl here
      (subst (λ b. AllowedAnswer w.setup s (Grant e page) b (answer_is.No cause)) (sym not_begun) (sym refusal_is ∙ is)) refl (ap isnt_waiting idle)
  by_refusal None is = granted_kept is

  -- an event of `grant` keeps what a world keeps
  pub grant_kept : Kept digest_of (grants_page w hart e.0 page).world
  unfolding grant_made
  grant_kept = by_refusal refusal refl
