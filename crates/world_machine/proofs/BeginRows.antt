-- A line that begins to make a number: the pages that it names are the number's now, and nothing is put yet.
use Rattle.std.proofs.Common.{◌≡◌, ◌≢◌, ℕ, ◌%◌, ◌<◌, true, false, List, [], length, slice_get, Option, Some, None, option_map, option_and_then, refl, sym, ap, ◌∙◌, subst, arith}
use Rattle.std.specs.Prelude.{slice_set}
use Rattle.std.specs.List.{All}
use Rattle.std.specs.Option.{option_map_or}
use Rattle.std.proofs.lemmas.Bool.{false≢true}
use Rattle.pl_base.specs.declared.number.EncNo.{EncNo}
use Rattle.pl_base.specs.declared.number.HartNo.{HartNo}
use Rattle.pl_base.specs.declared.state.State.{State}
use Rattle.pl_base.specs.declared.state.State.TheVariants as state_is
use Rattle.pl_base.specs.States.{is_free}
use Rattle.rv_alone.proofs.AloneLemmas.{alone_none}
use Rattle.rv_alone.specs.declared.step.Context.{Context}
use Rattle.rv_alone.specs.Alone.{alone, context_of}
use Rattle.rv_alone.specs.Flat.{Flat, start_of}
use Rattle.rv_tlb.specs.declared.tlb.TlbEntry.{TlbEntry}
use Rattle.mon_enclave.specs.declared.enclave.Enclave.{Enclave}
use Rattle.mon_enclave.specs.declared.enclave.PageKind.{PageKind}
use Rattle.mon_enclave.specs.Records.{enclave_at, free_enclave, with_enclave}
use Rattle.mon_image.specs.declared.image.Image.{Image}
use Rattle.mon_owner.specs.declared.owners.Owner.{Owner}
use Rattle.mon_owner.specs.declared.owners.Owner.TheVariants as owner_is
use Rattle.mon_owner.specs.Owners.{given_to}
use Rattle.mon_owner.proofs.OwnerLists.{length-given_to}
use Rattle.pl_history.specs.declared.answer.Answer.TheVariants as answer_is
use Rattle.pl_history.specs.declared.line.Line.{Line}
use Rattle.pl_history.specs.declared.setup.SetupParts.{SetupParts}
use Rattle.pl_history.specs.History.{HistoryData}
use Rattle.pl_history.specs.Legal.{AllowedAnswer, after_answer}
use Rattle.pl_history.specs.Monitor.{Monitor, Number, begin, flat_image, number, with_number, with_owner}
use Rattle.pl_history.proofs.ShadowLemmas.{no_forks}
use Rattle.world_attack.specs.Room.{RoomStays}
use Rattle.world_machine.specs.declared.under.Under.{Under}
use Rattle.world_machine.specs.declared.under.Under.TheVariants.{Idle, Putting}
use Rattle.world_machine.specs.Answering.{begins, entry_now, with_entry}
use Rattle.world_machine.specs.BytesAgree.{HasPut, OnlyAttacksDiffer}
use Rattle.world_machine.specs.EnclavesAgree.{EnclaveStands, EnclavesAgree, StateStands, is_made}
use Rattle.world_machine.specs.LinesUnderWay.{LineUnderWay, number_under_way}
use Rattle.world_machine.specs.PagesAgree.{PagesAgree, PagesAre}
use Rattle.world_machine.specs.RecordsAgree.{RecordAgrees, RecordsAgree, is_begun, owner_of}
use Rattle.world_machine.specs.Standing.{Kept, state_of, written_page}
use Rattle.world_machine.specs.TranslationsAgree.{IsFresh, TranslationsStand, WalkingStands, walking}
use Rattle.world_machine.specs.Worlds.{WorldData, answered_at, hart_line, under_at}
use Rattle.world_machine.proofs.ForkedNumbers.{childless, shadows_stand}
use Rattle.world_machine.proofs.Frames.{Frame, enclaves_frame, line_frame, records_frame}
use Rattle.world_machine.proofs.LineKinds.{begun_line}
use Rattle.world_machine.proofs.LineMoves.{LineMoves}
use Rattle.world_machine.proofs.LineTranslations.{isnt_waiting}
use Rattle.world_machine.proofs.Lists.{ChangedAt, changed_set, everywhere, if_other, if_same}
use Rattle.world_machine.proofs.OwnersGiven.{given_agree, given_host, guard_stays, guard_stood, own_stays}
use Rattle.world_machine.proofs.PagesStay.{pages_frame}
use Rattle.world_machine.proofs.RowKept.{RowFacts, attacks_frame, line_after, row_kept}
use Rattle.world_machine.proofs.SetupFacts.{used_there}
use Rattle.world_machine.proofs.TranslationFrames.{KeepsSpace, SpacesStay, TablePagesStay, entries_stay, live_in_use, same_keeps, translations_stay, written_stay}
use Rattle.world_machine.proofs.UnderWay.{line_used, some_same}

-- ---- a record whose image hasn't begun

-- the record of a number that is being built, of this image, in these pages and with these spares
abbrev pub starting : ℕ → List PageKind → List ℕ → ℕ → Context → HartNo → Option EncNo → Enclave
starting image pages spares given context hart parent = record {
  image = image;
  pages = pages;
  spares = spares;
  given = given;
  context = context;
  sent = [];
  received = 0;
  out = [];
  shown = 0;
  taken = 0;
  retired = 0;
  state = state_is.Building;
  hart = hart;
  parent = parent;
}

-- it stands for the start of the image
pub start_stands : (setup : SetupParts) (bytes_of : ℕ → List ℕ) (at : ℕ) (image : Image) (pages : List PageKind) (spares : List ℕ) (given : ℕ) (context : Context)
    (hart : HartNo) (parent : Option EncNo) (n : Number)
    → slice_get setup.images at ≡ Some image → context ≡ context_of (start_of (flat_image image)) → context.pc % 4 ≡ 0
    → n.image ≡ at → n.sent ≡ [] → n.retired ≡ 0 → is_made n ≡ false → StateStands setup bytes_of image (starting at pages spares given context hart parent) n
start_stands setup bytes_of at image pages spares given context hart parent n image_is same aligned of_image sent retired not_made =
    let alone_is : alone (flat_image image) [] 0 ≡ Some (start_of (flat_image image)) = alone_none (flat_image image) [] in
    record {
      now = start_of (flat_image image);
      alone_is = alone_is;
      context = same;
      received = refl;
      out = refl;
      status = refl;
      aligned = aligned;
      taken_few = omega arith;
      shown_few = omega arith;
      shown = sym ((λ i. option_map_or (λ (a : Flat). a.out)
          (option_and_then (λ image. alone image (sent i) (retired i)) (option_map flat_image (slice_get setup.images (of_image i)))) [])
          ∙ ap (λ o. option_map_or (λ (a : Flat). a.out) (option_and_then (λ i. alone i [] 0) (option_map flat_image o)) []) image_is
          ∙ ap (λ o. option_map_or (λ (a : Flat). a.out) o []) alone_is);
      pages = λ made. absurd (false≢true (sym not_made ∙ made));
      start = λ not_live alive. refl;
    }

module _ (digest_of : List ℕ → List ℕ) (room_stays : RoomStays) (w : WorldData) (k : Kept digest_of w) (none : w.collision ≡ None) (hart : ℕ) (below : hart < w.setup.harts)
    (line : Line) (here : hart_line w hart ≡ Some line) (idle : under_at w.under hart ≡ Idle) (e : ℕ) (pages : List ℕ) (to : Owner) (r : Enclave) (n : Number) (first : ℕ) where
  abbrev s : Monitor
  s = state_of w

  abbrev owners' : List Owner
  owners' = given_to w.owners pages to

  abbrev enclaves' : List Enclave
  enclaves' = with_enclave w.enclaves e r

  -- the state of the monitor, before the line has begun
  abbrev pub taken : Monitor
  taken = with_owner (with_number s e n) pages (number e)

  abbrev s' : Monitor
  s' = begin taken hart

  -- what is known of the line, of the pages and of the number
  pub record BeginsMaking : Type 0 where
    pub allowed : AllowedAnswer w.setup s line false answer_is.Begun
    pub gives : after_answer s hart line answer_is.Begun ≡ s'
    pub under_way : number_under_way (Some line) (Putting first) ≡ Some e
    pub none_put : (page : ℕ) → HasPut (Some line) (Putting first) page → ⊥
    pub no_walk : (rec : ℕ → Enclave) → walking w.setup.tables rec (Some line) (Putting first) ≡ None
    pub own_line : (rec : ℕ → Enclave) → rec e ≡ r → LineUnderWay w.setup (written_page w) rec s'.number hart (Some line) (Putting first)
    pub free : All (λ page. slice_get w.owners page ≡ Some (owner_is.Host 0)) pages
    pub taker : owner_of to ≡ number e
    pub there : e < length w.enclaves
    pub was_free : is_free (enclave_at w.enclaves e).state ≡ true
    pub not_live : n.live ≡ false
    pub not_made : is_made n ≡ false
    pub agrees : RecordAgrees r n
    pub pages_now : PagesAre w.setup s'.number r n
    pub stands : EnclaveStands w.setup (written_page w) owners' e r n

  module _ (f : BeginsMaking) where
    change : ChangedAt free_enclave w.enclaves enclaves' e r
    change = changed_set free_enclave w.enclaves e r f.there

    number_here : s'.number e ≡ n
    number_here = if_same e n (s.number e)

    number_other : (g : ℕ) → g ≢ e → s'.number g ≡ s.number g
    number_other g other = if_other e g n (s.number g) other

    -- the number was free: it has no forks, and no line has it under way
    unsealed : (state : State) → is_free state ≡ true → state ≢ state_is.Sealed
    unsealed state free sealed = false≢true (sym (ap is_free sealed) ∙ free)

    not_under_way : (other g : ℕ) → number_under_way (hart_line w other) (under_at w.under other) ≡ Some g → g ≢ e
    not_under_way other g is same =
        let used : is_free (enclave_at w.enclaves g).state ≡ false
        = line_used w.setup (written_page w) (enclave_at w.enclaves) s.number other (hart_line w other) (under_at w.under other) g (k.stands.lines other) is in
        false≢true (sym used ∙ ap (λ x. is_free (enclave_at w.enclaves x).state) same ∙ f.was_free)

    never_live : (s.number e).live ≡ true → ⊥
    never_live live = false≢true (sym (live_in_use (enclave_at w.enclaves e) (s.number e) (k.stands.records e) live) ∙ f.was_free)

    frame : Frame w.setup e (enclave_at w.enclaves) (enclave_at enclaves') s.number s'.number (written_page w) (written_page w) w.owners owners'
    frame = record {
      records = change.others;
      numbers = number_other;
      owned = λ g page other is. own_stays w.owners to pages f.free g page is;
      own_bytes = λ g page other is. refl;
      table_bytes = λ g level other few low. refl;
      childless = λ g shadow other parent. childless digest_of w k e (unsealed (enclave_at w.enclaves e).state f.was_free) g shadow parent;
    }

    records_agree : RecordsAgree (enclave_at enclaves') s'.number
    records_agree = records_frame w.setup e (enclave_at w.enclaves) (enclave_at enclaves') s.number s'.number (written_page w) (written_page w) w.owners owners' frame
        k.stands.records (subst (λ x. RecordAgrees x (s'.number e)) (sym change.here) (subst (RecordAgrees r) (sym number_here) f.agrees))

    enclaves_agree : EnclavesAgree w.setup (written_page w) owners' (enclave_at enclaves') s'.number
    enclaves_agree = enclaves_frame w.setup e (enclave_at w.enclaves) (enclave_at enclaves') s.number s'.number (written_page w) (written_page w) w.owners owners' frame
        k.stands.enclaves (λ used. subst (λ x. EnclaveStands w.setup (written_page w) owners' e x (s'.number e)) (sym change.here)
        (subst (EnclaveStands w.setup (written_page w) owners' e r) (sym number_here) f.stands))

    pages_agree : PagesAgree w.setup (enclave_at enclaves') s'.number
    pages_agree = pages_frame w.setup e (enclave_at w.enclaves) (enclave_at enclaves') s.number s'.number change.others number_other
        (λ g shadow parent. ap (λ (m : Number). m.pages) (number_other shadow (λ same.
        no_forks w.setup s.number (shadows_stand digest_of w k) e (unsealed (s.number e).state (ap is_free (k.stands.records e).state ∙ f.was_free)) g (parent ∙ ap Some same))))
        k.stands.pages
        (subst (λ x. PagesAre w.setup s'.number x (s'.number e)) (sym change.here) (subst (PagesAre w.setup s'.number r) (sym number_here) f.pages_now))

    -- ---- the line

    not_begun : is_begun (under_at w.under hart) ≡ false
    not_begun = ap is_begun idle

    abbrev under' : List Under
    under' = slice_set w.under hart (Putting first)

    moves : LineMoves w hart under' w.answered (with_entry w.history (entry_now w hart answer_is.Begun)) s' (Putting first) (answered_at w.answered hart)
    moves = begun_line digest_of room_stays w k hart below line answer_is.Begun refl here (subst (λ b. AllowedAnswer w.setup s line b answer_is.Begun) (sym not_begun) f.allowed)
        taken (λ actor. refl) (Putting first) refl f.gives

    attacks : OnlyAttacksDiffer w.setup.zones w.ctl.off_chip w.ctl.mirror s'.attacks owners' (enclave_at enclaves') s'.number (line_after w w.answered) (under_at under')
    attacks = attacks_frame w.setup.zones w.ctl.off_chip w.ctl.mirror w.ctl.off_chip w.ctl.mirror s.attacks s'.attacks w.owners owners'
        (enclave_at w.enclaves) (enclave_at enclaves') s.number s'.number (hart_line w) (line_after w w.answered) (under_at w.under) (under_at under') hart e (λ i old. old)
        (record {
          guarded = λ page is. guard_stood w.owners to pages f.free e f.taker page is;
          made = λ g other. ap is_made (number_other g other);
          pages = λ g other. ap (λ (x : Enclave). x.pages) (change.others g other);
          lines = λ other differs. refl;
          unders = moves.under_change.others;
          made_own = λ page is made. absurd (false≢true (sym (ap is_made number_here ∙ f.not_made) ∙ made));
          put_own = λ page put. absurd (f.none_put page (subst (λ l. HasPut l (Putting first) page) here
              (subst (λ u. HasPut (hart_line w hart) u page) moves.under_change.here put)));
        })
        k.stands.attacks

    -- ---- translations

    spaces : SpacesStay digest_of w k w.ctl (enclave_at enclaves') s'
    spaces = record {
      space = refl;
      removals = refl;
      numbers = everywhere (λ g. (s.number g).live ≡ true → KeepsSpace (enclave_at w.enclaves g) (enclave_at enclaves' g) (s'.number g)) e (λ live. absurd (never_live live))
          (λ g other live. same_keeps (enclave_at w.enclaves g) (enclave_at enclaves' g) (s.number g) (s'.number g) (change.others g other) (number_other g other) live);
    }

    table_pages : TablePagesStay digest_of w k w.ctl (enclave_at enclaves') s'
    table_pages = written_stay digest_of w k (enclave_at enclaves') s' (everywhere (λ g. (s.number g).live ≡ false → (s'.number g).live ≡ false) e
        (λ was. ap (λ (m : Number). m.live) number_here ∙ f.not_live) (λ g other was. ap (λ (m : Number). m.live) (number_other g other) ∙ was))

    abbrev IsFreshNow : TlbEntry → Type 0
    IsFreshNow = IsFresh w.setup (enclave_at enclaves') s' w.fences hart

    translations : TranslationsStand w.setup w.ctl w.tlbs w.fences (enclave_at enclaves') s' (line_after w w.answered) (under_at under')
    translations = translations_stay digest_of w k w.ctl (enclave_at enclaves') s' spaces table_pages hart w.tlbs (line_after w w.answered) (under_at under') (record {
      lines = λ other differs. refl;
      unders = moves.under_change.others;
      contexts = λ other g differs is. ap (λ (x : Enclave). x.context) (change.others g (not_under_way other g is));
      harts = refl;
      tlbs = λ other differs. refl;
      waited_none = ap isnt_waiting idle;
      waits_none = ap isnt_waiting moves.under_change.here;
      entries = entries_stay digest_of w k w.ctl (enclave_at enclaves') s' spaces hart;
      walk = subst (λ walk. WalkingStands w.ctl IsFreshNow walk)
          (sym ((λ i. walking w.setup.tables (enclave_at enclaves') (here i) (moves.under_change.here i)) ∙ f.no_walk (enclave_at enclaves'))) tt;
    })

    abbrev history' : HistoryData
    history' = with_entry w.history (entry_now w hart answer_is.Begun)

    facts : RowFacts digest_of w hart w.ctl owners' enclaves' w.tlbs w.fences under' w.answered history' s' (Putting first) (answered_at w.answered hart)
    facts = record {
      line = moves;
      sizes = record {
        zones = refl;
        slots = refl;
        pages = length-given_to w.owners to pages;
        guarded = λ page is. guard_stays w.owners to pages f.free page is;
        numbers = change.size;
      };
      trees = k.trees;
      owners_agree = given_agree w.owners to pages f.free e f.taker s s' (λ page. refl) (λ page. refl) k.stands.owners;
      records = records_agree;
      pages_agree = pages_agree;
      enclaves_agree = enclaves_agree;
      host = given_host w.owners to pages f.free e f.taker s s' (λ page. refl) w.ctl.off_chip (λ page. refl) k.stands.host;
      attacks = attacks;
      other_lines = λ other differs. line_frame w.setup e (enclave_at w.enclaves) (enclave_at enclaves') s.number s'.number (written_page w) (written_page w) w.owners owners' frame
          k.stands.enclaves (λ g used. subst (λ size. g < size) k.sizes.numbers (used_there w.enclaves g used))
          other (hart_line w other) (under_at w.under other) (not_under_way other) (k.stands.lines other);
      own_line = subst (λ l. LineUnderWay w.setup (written_page w) (enclave_at enclaves') s'.number hart l (Putting first)) (sym here)
          (f.own_line (enclave_at enclaves') change.here);
      own_apart = λ other g differs own is. not_under_way other g is (some_same g e (sym own ∙ ap (λ l. number_under_way l (Putting first)) here ∙ f.under_way));
      translations = translations;
    }

    -- such an event keeps what a world keeps
    pub begun_kept : Kept digest_of (begins (record w { owners = owners'; enclaves = enclaves' }) hart (Putting first))
    begun_kept = row_kept digest_of w hart w.ctl owners' enclaves' w.tlbs w.fences under' w.answered history' s' (Putting first) (answered_at w.answered hart) k none facts
