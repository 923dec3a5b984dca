-- The rows of `create`, `shadow` and `fork` that put a page: the line goes on, its number is made, or a fault stops it; or a collision is kept.
use Rattle.std.proofs.Common.{◌≡◌, ◌≢◌, ℕ, ◌+◌, ◌*◌, ◌<◌, ◌≤◌, ◌⊎◌, ◌||◌, eqb, Bool, true, false, if◌then◌else◌, List, [], length, map, slice_get, unwrap_or, Option, Some, None, refl, sym, ap, ◌∙◌, subst, arith, inl, inr}
use Rattle.std.specs.Prelude.{Contains, slice_set}
use Rattle.std.proofs.lemmas.Bool.{cases_Bool, eqb-true, eqb-false, false≢true}
use Rattle.pl_base.specs.declared.number.EncNo.{EncNo}
use Rattle.pl_base.specs.declared.place.Place.{Place}
use Rattle.pl_base.specs.declared.refusal.No.{No}
use Rattle.pl_base.specs.declared.refusal.No.TheVariants as refused
use Rattle.pl_base.specs.declared.state.State.{State}
use Rattle.pl_base.specs.declared.state.State.TheVariants as state_is
use Rattle.pl_base.specs.States.{is_dying, is_free, is_sealed}
use Rattle.rv_alone.specs.Flat.{Flat, on, start_of}
use Rattle.mem_ctl.specs.Access.{Accessed, BothChange, BothStay, IsTampered, Leaves}
use Rattle.mem_ctl.specs.Calls.{put_page_of}
use Rattle.mem_ctl.specs.Data.{After, CtlData, Going, Outcome, Value, Fault, Collision, Again, answer as answers_by, go_on, going}
use Rattle.mem_ctl.specs.Laws.{PageWritesTell}
use Rattle.mem_geom.specs.Parts.{page_bytes}
use Rattle.mem_geom.specs.PathPlaces.{replaced_places}
use Rattle.mon_enclave.specs.declared.enclave.Enclave.{Enclave}
use Rattle.mon_enclave.specs.Records.{enclave_at, free_enclave}
use Rattle.mon_image.specs.declared.image.Image.{Image}
use Rattle.mon_life.specs.Pages.{PagePut, page_put_at}
use Rattle.mon_life.specs.Putting.{CreatePut, create_put, create_put_by, in_state, made_state, put_at, steps_of}
use Rattle.pl_history.specs.declared.answer.Answer.{Answer}
use Rattle.pl_history.specs.declared.answer.Answer.TheVariants as answer_is
use Rattle.pl_history.specs.declared.line.Line.{Line}
use Rattle.pl_history.specs.declared.setup.SetupParts.{SetupParts}
use Rattle.pl_history.specs.Legal.{AllowedAnswer, after_answer}
use Rattle.pl_history.specs.Licence.{LiesOnPath, Licensed, number_pages, pages_concerned}
use Rattle.pl_history.specs.Making.{made_faulted}
use Rattle.pl_history.specs.Monitor.{Monitor, Number, Progress, answer, flat_image, flat_page}
use Rattle.pl_history.specs.Words.{sent_out}
use Rattle.world_attack.specs.Room.{RoomStays}
use Rattle.world_machine.specs.declared.under.Under.{Under}
use Rattle.world_machine.specs.declared.under.Under.TheVariants.{Idle, Putting}
use Rattle.world_machine.specs.Answering.{answers, decided, goes_on, entry_now, with_entry}
use Rattle.world_machine.specs.BytesAgree.{HasPut, PageAgrees}
use Rattle.world_machine.specs.EnclavesAgree.{EnclaveStands, IsOwn, StateStands, StatusStands, is_made}
use Rattle.world_machine.specs.LinesUnderWay.{HasBytes, IsPutting, LineUnderWay, number_under_way}
use Rattle.world_machine.specs.Making.{image_of, put_next}
use Rattle.world_machine.specs.Pages.{flat_pages, numbers_of}
use Rattle.world_machine.specs.PagesAgree.{PagesAre}
use Rattle.world_machine.specs.RecordsAgree.{LiveAgrees, RecordAgrees, RetiredAgrees, is_begun}
use Rattle.world_machine.specs.Standing.{IsAttackedPlace, Kept, state_of, written_page}
use Rattle.world_machine.specs.TranslationsAgree.{IsFresh, WalkingStands, walking}
use Rattle.world_machine.specs.Worlds.{WorldData, answered_at, hart_line, under_at}
use Rattle.world_machine.proofs.Frames.{few_steps}
use Rattle.world_machine.proofs.HostBytes.{byte_of_page}
use Rattle.world_machine.proofs.Licences.{by_replaced, collision_of, lies_on_path, replaced_is_attacked, table_concerned}
use Rattle.world_machine.proofs.LineKinds.{answered_line, goes_on_line, still_line}
use Rattle.world_machine.proofs.LineTranslations.{isnt_waiting}
use Rattle.world_machine.proofs.Lists.{changed_none, changed_set, if_same}
use Rattle.world_machine.proofs.MadeTables.{made_tables}
use Rattle.world_machine.proofs.MakeLines.{made_by, made_number}
use Rattle.world_machine.proofs.NumberRows.{AllButOneStay, IsPageOfNumber, NumberTranslates, becomes_answered, becomes_same, but_changed, but_none, idle_translates, keeps_tlbs, never_live, not_others, number_row, of_number_within, own_within, table_guard}
use Rattle.world_machine.proofs.PagesStay.{pages_same}
use Rattle.world_machine.proofs.PutSteps.{put_among, put_of_number, put_size, puts_apart}
use Rattle.world_machine.proofs.QuietRows.{idle_has_none, idle_put_none, none_some}
use Rattle.world_machine.proofs.RecordPages.{held_concerned}
use Rattle.world_machine.proofs.RowKept.{collision_kept}
use Rattle.world_machine.proofs.SetupFacts.{image_few, page_size}
use Rattle.world_machine.proofs.UnderWay.{some_same}

-- the state of an image stands for a record that changes its own state alone
state_as : (setup : SetupParts) (bytes bytes' : ℕ → List ℕ) (image : Image) (r : Enclave) (n n' : Number) (state : State) (k : StateStands setup bytes image r n)
    → sent_out setup n' ≡ sent_out setup n → StatusStands state k.now.status → (is_made n' ≡ true → k.now.pages ≡ flat_pages bytes' image.pages (numbers_of r.pages))
    → (n'.live ≡ false → is_dying state ≡ false → k.now ≡ start_of (flat_image image)) → StateStands setup bytes' image (record r { state = state }) n'
state_as setup bytes bytes' image r n n' state k sent status pages start = record {
  now = k.now;
  alone_is = k.alone_is;
  context = k.context;
  received = k.received;
  out = k.out;
  status = status;
  aligned = k.aligned;
  taken_few = k.taken_few;
  shown_few = k.shown_few;
  shown = k.shown ∙ sym sent;
  pages = pages;
  start = start;
}

module _ (digest_of : List ℕ → List ℕ) (tells : PageWritesTell digest_of) (room_stays : RoomStays) (w : WorldData) (k : Kept digest_of w) (none : w.collision ≡ None) (hart : ℕ)
    (below : hart < w.setup.harts) (positions : List ℕ) (line : Line) (e : EncNo) (image : ℕ) (shadow : Bool) (first done : ℕ) (here : hart_line w hart ≡ Some line)
    (so_far : under_at w.under hart ≡ Putting done) where
  abbrev s : Monitor
  s = state_of w

  abbrev r : Enclave
  r = enclave_at w.enclaves e.0

  abbrev n : Number
  n = s.number e.0

  abbrev im : Image
  im = image_of w.setup image

  abbrev put : ℕ → PagePut
  put = page_put_at w.setup.tables e.0 im r.pages

  -- What is known of a line that makes a number by steps from the first one on: that one isn't past the image's pages; each step puts a page of the
  -- number; of the pages that the line has put, one more is the one of its last step; with the last step all pages of the number are put or hold
  -- already, and have the image's bytes.
  pub record Puts : Type 0 where
    pub there : e.0 < w.setup.enclaves
    pub puts : IsPutting w.setup (written_page w) r e.0 image shadow first done
    pub from : first ≤ done
    pub first_low : first ≤ length im.pages
    pub owned : (at : ℕ) → first ≤ at → at < length im.pages → IsOwn w.owners e.0 (put at).page
    pub under_way : (at : ℕ) → number_under_way (Some line) (Putting at) ≡ Some e.0
    pub no_walk : (rec : ℕ → Enclave) (at : ℕ) → walking w.setup.tables rec (Some line) (Putting at) ≡ None
    pub goes_on : (bytes_of : ℕ → List ℕ) (at : ℕ) → first ≤ at → IsPutting w.setup bytes_of r e.0 image shadow first at
        → LineUnderWay w.setup bytes_of (enclave_at w.enclaves) s.number hart (Some line) (Putting at)
    pub more_put : (own : ℕ) → HasPut (Some line) (Putting (done + 1)) own → HasPut (Some line) (Putting done) own ⊎ ((put done).page ≡ own)
    pub all_put : done + 1 ≡ steps_of shadow (length im.pages) → (own : ℕ) → Contains (numbers_of r.pages) own
        → HasPut (Some line) (Putting (done + 1)) own ⊎ PageAgrees w.ctl.off_chip w.ctl.mirror s.attacks own
    pub has_bytes : done + 1 ≡ steps_of shadow (length im.pages) → (bytes_of : ℕ → List ℕ)
        → ((f page : ℕ) → f ≢ e.0 → IsOwn w.owners f page → bytes_of page ≡ written_page w page) → ((at : ℕ) → first ≤ at → at < done + 1 → HasBytes bytes_of (put at))
        → map flat_page im.pages ≡ flat_pages bytes_of im.pages (numbers_of r.pages)
    pub concerns : pages_concerned w.setup s line ≡ number_pages w.setup s e.0
    pub may_end : AllowedAnswer w.setup s line true answer_is.Ok
    pub ended : after_answer s hart line answer_is.Ok ≡ answer (made_by shadow s e.0) hart
    pub may_fault : (place : Place) → Licensed w.setup s line place → AllowedAnswer w.setup s line true (answer_is.No (refused.Fault place))
    pub faulted : (cause : No) → (s.progress hart).begun ≡ true → after_answer s hart line (answer_is.No cause) ≡ answer (made_faulted s e.0) hart

  module _ (f : Puts) where
    -- ---- what stands before

    back : (P : Option Line → Under → Type 0) → P (Some line) (Putting done) → P (hart_line w hart) (under_at w.under hart)
    back P p = subst (P (hart_line w hart)) (sym so_far) (subst (λ l. P l (Putting done)) (sym here) p)

    under_way : number_under_way (hart_line w hart) (under_at w.under hart) ≡ Some e.0
    under_way = back (λ l u. number_under_way l u ≡ Some e.0) (f.under_way done)

    begun : is_begun (under_at w.under hart) ≡ true
    begun = ap is_begun so_far

    used : is_free r.state ≡ false
    used = ap is_free f.puts.state

    stands : EnclaveStands w.setup (written_page w) w.owners e.0 r n
    stands = k.stands.enclaves e.0 used

    pages_now : PagesAre w.setup s.number r n
    pages_now = k.stands.pages e.0

    -- which another state of it leaves
    pages_stay : (state : State) (n' : Number) → n'.parent ≡ n.parent → n'.pages ≡ n.pages → n'.spares ≡ n.spares → PagesAre w.setup s.number (record r { state = state }) n'
    pages_stay state n' parent pages spares = pages_same w.setup s.number r (record r { state = state }) n n'
        (record { image = refl; sent = refl; retired = refl; kinds = refl; left = refl; parent = parent; pages = pages; spares = spares }) pages_now

    agrees : RecordAgrees r n
    agrees = k.stands.records e.0

    not_live : n.live ≡ false
    not_live = subst (λ st. LiveAgrees st n.live) f.puts.state agrees.live

    retired : r.retired ≡ n.retired
    retired = subst (λ st. RetiredAgrees st r.retired n.retired) f.puts.state agrees.retired

    not_made : is_made n ≡ false
    not_made = λ i. not_live i || is_sealed ((agrees.state ∙ f.puts.state) i)

    runs_on : stands.state.now.status ≡ on
    runs_on = subst (λ st. StatusStands st stands.state.now.status) f.puts.state stands.state.status

    starts : stands.state.now ≡ start_of (flat_image stands.image)
    starts = stands.state.start not_live (ap is_dying f.puts.state)

    held : e.0 < length w.enclaves
    held = subst (λ size. e.0 < size) (sym k.sizes.numbers) f.there

    image_now : im ≡ stands.image
    image_now = ap (λ i. image_of w.setup i) (sym f.puts.image_is) ∙ ap (λ o. unwrap_or o (record { entry = 0; pages = [] })) stands.image_is

    image_is : slice_get w.setup.images image ≡ Some im
    image_is = ap (slice_get w.setup.images) (sym f.puts.image_is) ∙ stands.image_is ∙ ap Some (sym image_now)

    as_many : length r.pages ≡ length im.pages
    as_many = stands.held.count ∙ ap (λ (i : Image). length i.pages) (sym image_now)

    few : done < length im.pages + 3
    few = few_steps shadow (length im.pages) done f.puts.few

    page_of : (at : ℕ) → first ≤ at → at < length im.pages + 3 → IsPageOfNumber w.setup w.owners e.0 (put at).page
    page_of = put_of_number w.setup.tables e.0 im r.pages as_many w.owners first f.owned

    page_done : IsPageOfNumber w.setup w.owners e.0 (put done).page
    page_done = page_of done f.from few

    within : (at : ℕ) → first ≤ at → at < length im.pages + 3 → (put at).page < 64 * w.ctl.zones
    within at from fits = of_number_within digest_of w k e.0 f.there (put at).page (page_of at from fits)

    size : length (put done).bytes ≡ 4096
    size = put_size w.setup.tables e.0 im r.pages done (image_few w.setup image im k.sizes.rules image_is) (page_size w.setup image im k.sizes.rules image_is)

    apart : (at : ℕ) → first ≤ at → at < done → (put at).page ≢ (put done).page
    apart at from before = puts_apart w.setup.tables e.0 im r.pages as_many w.owners first f.owned (λ level. table_guard digest_of w k e.0 level f.there)
        stands.held.apart at done from before few

    -- ---- after an access that leaves the data so

    module _ (c : CtlData) (leaves : Leaves digest_of w.ctl c) (stay : AllButOneStay (put done).page w.ctl c) where
      abbrev bytes' : ℕ → List ℕ
      bytes' = page_bytes c.mirror

      still : (page : ℕ) → PageAgrees w.ctl.off_chip w.ctl.mirror s.attacks page → PageAgrees c.off_chip c.mirror s.attacks page
      still page old i low free = leaves.still_written (4096 * page + i) (old i low free)

      stays_put : (at : ℕ) → first ≤ at → at < done → HasBytes bytes' (put at)
      stays_put at from before = stay.mirror (put at).page (within at from (omega (arith, few))) (apart at from before) ∙ f.puts.put at from before

      others_stay : (g page : ℕ) → g ≢ e.0 → IsOwn w.owners g page → bytes' page ≡ written_page w page
      others_stay g page other own = stay.mirror page (own_within digest_of w k g page own) (not_others digest_of w k e.0 f.there g (put done).page page other own page_done)

      -- a number that isn't made stands whatever bytes its pages have
      unmade : (state now : State) → StatusStands state stands.state.now.status → is_sealed now ≡ false
          → EnclaveStands w.setup bytes' w.owners e.0 (record r { state = state }) (record n { state = now })
      unmade state now status unsealed = record {
        image = stands.image;
        image_is = stands.image_is;
        held = stands.held;
        state = state_as w.setup (written_page w) bytes' stands.image r n (record n { state = now }) state stands.state refl status
            (λ made. absurd (false≢true (sym (λ i. not_live i || unsealed i) ∙ made))) (λ idle alive. starts);
      }

      still_unmade : EnclaveStands w.setup bytes' w.owners e.0 r n
      still_unmade = unmade r.state n.state stands.state.status (ap is_sealed (agrees.state ∙ f.puts.state))

      old_put : (own : ℕ) → HasPut (Some line) (Putting done) own → PageAgrees c.off_chip c.mirror s.attacks own
      old_put own is = still own (k.stands.attacks.put hart own (back (λ l u. HasPut l u own) is))

    -- ---- the page is put

    module _ (c : CtlData) (leaves : Leaves digest_of w.ctl c) (both : BothChange (put done).page (λ bytes. (put done).bytes) w.ctl c) where
      abbrev stay : AllButOneStay (put done).page w.ctl c
      stay = but_changed (put done).page (λ bytes. (put done).bytes) w.ctl c both

      mirror_has : page_bytes c.mirror (put done).page ≡ (put done).bytes
      mirror_has = both.mirror_pages (put done).page (within done f.from few) ∙ if_same (put done).page (put done).bytes (page_bytes w.ctl.mirror (put done).page)

      off_chip_has : page_bytes c.off_chip (put done).page ≡ (put done).bytes
      off_chip_has = both.off_chip_pages (put done).page (within done f.from few) ∙ if_same (put done).page (put done).bytes (page_bytes w.ctl.off_chip (put done).page)

      fresh_agrees : PageAgrees c.off_chip c.mirror s.attacks (put done).page
      fresh_agrees i low free =
          sym (byte_of_page c.off_chip (put done).page i low) ∙ ap (λ bytes. slice_get bytes i) (off_chip_has ∙ sym mirror_has) ∙ byte_of_page c.mirror (put done).page i low

      all_have : (at : ℕ) → first ≤ at → at < done + 1 → HasBytes (page_bytes c.mirror) (put at)
      all_have at from low = elim (cases_Bool (eqb at done)) [
        | inl same ↦ subst (λ i. HasBytes (page_bytes c.mirror) (put i)) (sym (eqb-true at done same)) mirror_has
        | inr differ ↦ (let other : at ≢ done = eqb-false at done differ in stays_put c leaves stay at from (omega arith))
      ]

      put_agrees : (own : ℕ) → HasPut (Some line) (Putting (done + 1)) own → PageAgrees c.off_chip c.mirror s.attacks own
      put_agrees own is = elim (f.more_put own is) [
        | inl before ↦ old_put c leaves stay own before
        | inr at ↦ subst (PageAgrees c.off_chip c.mirror s.attacks) at fresh_agrees
      ]

      -- and it isn't the last
      module _ (not_last : eqb (done + 1) (steps_of shadow (length im.pages)) ≡ false) where
        more : done + 1 < steps_of shadow (length im.pages)
        more =
            let differs : done + 1 ≢ steps_of shadow (length im.pages) = eqb-false (done + 1) (steps_of shadow (length im.pages)) not_last in
            let fits : done < steps_of shadow (length im.pages) = f.puts.few in
            one_less done (steps_of shadow (length im.pages)) differs fits
          where
            one_less : (at steps : ℕ) → at + 1 ≢ steps → at < steps → at + 1 < steps
            one_less at steps differs fits = omega arith

        abbrev u_more : Under
        u_more = Putting (done + 1)

        putting_more : LineUnderWay w.setup (page_bytes c.mirror) (enclave_at w.enclaves) s.number hart (Some line) u_more
        putting_more = f.goes_on (page_bytes c.mirror) (done + 1) (let from : first ≤ done = f.from in omega arith)
            (record { state = f.puts.state; image_is = f.puts.image_is; few = more; put = all_have })

        more_kept : Kept digest_of (goes_on (record w { ctl = c }) hart (Putting (done + 1)))
        more_kept = number_row digest_of w k e.0 f.there none hart under_way (ap isnt_waiting so_far) c leaves (put done).page page_done stay
            w.enclaves r (changed_none free_enclave w.enclaves e.0) s n (becomes_same s e.0)
            (slice_set w.under hart u_more) w.answered w.history u_more (answered_at w.answered hart)
            (goes_on_line digest_of room_stays w k hart below u_more (sym begun))
            agrees pages_now refl (still_unmade c leaves stay)
            (λ own is made. absurd (false≢true (sym not_made ∙ made)))
            (λ own is. put_agrees own (subst (λ l. HasPut l u_more own) here is))
            (subst (λ l. LineUnderWay w.setup (page_bytes c.mirror) (enclave_at w.enclaves) s.number hart l u_more) (sym here) putting_more)
            (λ g is. some_same g e.0 (sym is ∙ ap (λ l. number_under_way l u_more) here ∙ f.under_way (done + 1)))
            (never_live w e.0 c r n not_live not_live) w.tlbs
            (keeps_tlbs digest_of w hart c w.enclaves (hart_line w hart) u_more k refl
            (subst (WalkingStands c (IsFresh w.setup (enclave_at w.enclaves) s w.fences hart))
            (sym (ap (λ l. walking w.setup.tables (enclave_at w.enclaves) l u_more) here ∙ f.no_walk (enclave_at w.enclaves) (done + 1))) tt))

      -- or it is the last, and the number is made
      module _ (last : eqb (done + 1) (steps_of shadow (length im.pages)) ≡ true) where
        all_done : done + 1 ≡ steps_of shadow (length im.pages)
        all_done = eqb-true (done + 1) (steps_of shadow (length im.pages)) last

        abbrev r_made : Enclave
        r_made = record r { state = made_state shadow }

        abbrev n_made : Number
        n_made = made_number shadow n

        agrees_made : (b : Bool) → RecordAgrees (record r { state = made_state b }) (made_number b n)
        agrees_made true = record {
          state = refl;
          live = not_live;
          hart = agrees.hart;
          image = agrees.image;
          given = agrees.given;
          parent = agrees.parent;
          sent = agrees.sent;
          taken = agrees.taken;
          retired = retired;
        }
        agrees_made false = record {
          state = refl;
          live = refl;
          hart = agrees.hart;
          image = agrees.image;
          given = agrees.given;
          parent = agrees.parent;
          sent = agrees.sent;
          taken = agrees.taken;
          retired = retired;
        }

        pages_made : (b : Bool) → PagesAre w.setup s.number (record r { state = made_state b }) (made_number b n)
        pages_made true = pages_stay state_is.Sealed (made_number true n) refl refl refl
        pages_made false = pages_stay state_is.Fresh (made_number false n) refl refl refl

        same_pages : (b : Bool) → (made_number b n).pages ≡ n.pages
        same_pages true = refl
        same_pages false = refl

        bytes_made : stands.state.now.pages ≡ flat_pages (page_bytes c.mirror) stands.image.pages (numbers_of r.pages)
        bytes_made =
            ap (λ (a : Flat). a.pages) starts
            ∙ ap (λ (i : Image). map flat_page i.pages) (sym image_now)
            ∙ f.has_bytes all_done (page_bytes c.mirror) (others_stay c leaves stay) all_have
            ∙ ap (λ (i : Image). flat_pages (page_bytes c.mirror) i.pages (numbers_of r.pages)) image_now

        state_made : (b : Bool) → StateStands w.setup (page_bytes c.mirror) stands.image (record r { state = made_state b }) (made_number b n)
        state_made true = state_as w.setup (written_page w) (page_bytes c.mirror) stands.image r n (made_number true n) (made_state true) stands.state refl runs_on
            (λ made. bytes_made) (λ idle alive. starts)
        state_made false = state_as w.setup (written_page w) (page_bytes c.mirror) stands.image r n (made_number false n) (made_state false) stands.state refl runs_on
            (λ made. bytes_made) (λ idle alive. starts)

        stands_made : EnclaveStands w.setup (page_bytes c.mirror) w.owners e.0 r_made n_made
        stands_made = record { image = stands.image; image_is = stands.image_is; held = stands.held; state = state_made shadow }

        own_agrees : (own : ℕ) → Contains (numbers_of r.pages) own → PageAgrees c.off_chip c.mirror s.attacks own
        own_agrees own is = elim (f.all_put all_done own is) [
          | inl put_now ↦ put_agrees own put_now
          | inr before ↦ still c leaves stay own before
        ]

        -- all steps stand now, so the tables of an enclave do
        translates : (b : Bool) → shadow ≡ b → NumberTranslates w e.0 c (record r { state = made_state b }) (made_number b n)
        translates true is = never_live w e.0 c (record r { state = made_state true }) (made_number true n) not_live not_live
        translates false is = record {
          keeps = λ live. absurd (false≢true (sym not_live ∙ live));
          tables = λ level live low. absurd (false≢true (sym not_live ∙ live));
          made = λ was live. made_tables digest_of w k e.0 used c (λ at from before.
              subst (λ i. HasBytes (page_bytes c.mirror) (page_put_at w.setup.tables e.0 (image_of w.setup i) r.pages at)) (sym f.puts.image_is)
              (let from' : length im.pages ≤ at = subst (λ i. length (image_of w.setup i).pages ≤ at) f.puts.image_is from in
              let before' : at < length im.pages + 3 = subst (λ i. at < length (image_of w.setup i).pages + 3) f.puts.image_is before in
              let steps : done + 1 ≡ length im.pages + 3 = all_done ∙ ap (λ b. steps_of b (length im.pages)) is in
              let low : first ≤ length im.pages = f.first_low in
              all_have at (omega arith) (omega arith)));
        }

        made_kept : Kept digest_of (answers (record w { ctl = c; enclaves = in_state w.enclaves e.0 (made_state shadow) }) hart answer_is.Ok)
        made_kept = number_row digest_of w k e.0 f.there none hart under_way (ap isnt_waiting so_far) c leaves (put done).page page_done stay
            (in_state w.enclaves e.0 (made_state shadow)) r_made (changed_set free_enclave w.enclaves e.0 r_made held) (answer (made_by shadow s e.0) hart) n_made
            (becomes_answered s e.0 hart n_made)
            (slice_set w.under hart Idle) (slice_set w.answered hart (answered_at w.answered hart + 1)) (with_entry w.history (entry_now w hart answer_is.Ok))
            Idle (answered_at w.answered hart + 1)
            (answered_line digest_of room_stays w k hart below line answer_is.Ok refl here (subst (λ b. AllowedAnswer w.setup s line b answer_is.Ok) (sym begun) f.may_end)
            (made_by shadow s e.0) (λ actor. refl) f.ended)
            (agrees_made shadow) (pages_made shadow) (same_pages shadow) stands_made
            (λ own is made. own_agrees own is)
            (λ own is. absurd (idle_put_none _ own is))
            tt
            (λ g is. absurd (none_some g _ (idle_has_none _) is))
            (translates shadow refl)
            w.tlbs (idle_translates digest_of w hart c (in_state w.enclaves e.0 (made_state shadow)) _ k)

    -- ---- a place that doesn't hold

    module _ (c : CtlData) (leaves : Leaves digest_of w.ctl c) (both : BothStay w.ctl c) (place : Place) (tampered : IsTampered c (replaced_places (put done).page) place) where
      abbrev stays : AllButOneStay (put done).page w.ctl c
      stays = but_none (put done).page w.ctl c both

      same_zones : c.zones ≡ w.setup.zones
      same_zones = leaves.same_zones ∙ k.sizes.zones

      attacked : IsAttackedPlace w.setup.zones s.attacks place
      attacked = replaced_is_attacked w.setup.zones c s.attacks (λ i past free. leaves.still_written i (k.stands.attacks.nodes i past free)) (put done).page place same_zones tampered

      concerned : Contains (number_pages w.setup s e.0) (put done).page
      concerned = elim (put_among w.setup.tables e.0 im r.pages as_many done few) [
        | inl own ↦ held_concerned w.setup s e.0 r pages_now (put done).page own
        | inr table ↦ subst (Contains (number_pages w.setup s e.0)) (sym table.2) (table_concerned w.setup s e.0 table.0 table.1)
      ]

      licensed : Licensed w.setup s line place
      licensed = record {
        exists = attacked.exists;
        attacked = attacked.attacked;
        concerned = subst (λ pages. LiesOnPath pages place) (sym f.concerns)
            (lies_on_path (number_pages w.setup s e.0) (put done).page place concerned (by_replaced (put done).page place tampered.checked));
      }

      abbrev r_faulted : Enclave
      r_faulted = record r { state = state_is.Faulted }

      abbrev n_faulted : Number
      n_faulted = record n { state = state_is.Faulted }

      abbrev fault : Answer
      fault = answer_is.No (refused.Fault place)

      agrees_faulted : RecordAgrees r_faulted n_faulted
      agrees_faulted = record {
        state = refl;
        live = tt;
        hart = agrees.hart;
        image = agrees.image;
        given = agrees.given;
        parent = agrees.parent;
        sent = agrees.sent;
        taken = agrees.taken;
        retired = retired;
      }

      pages_faulted : PagesAre w.setup s.number r_faulted n_faulted
      pages_faulted = pages_stay state_is.Faulted n_faulted refl refl refl

      faulted_kept : Kept digest_of (answers (record w { ctl = c; enclaves = in_state w.enclaves e.0 state_is.Faulted }) hart (answer_is.No (refused.Fault place)))
      faulted_kept = number_row digest_of w k e.0 f.there none hart under_way (ap isnt_waiting so_far) c leaves (put done).page page_done stays
          (in_state w.enclaves e.0 state_is.Faulted) r_faulted (changed_set free_enclave w.enclaves e.0 r_faulted held) (answer (made_faulted s e.0) hart) n_faulted
          (becomes_answered s e.0 hart n_faulted)
          (slice_set w.under hart Idle) (slice_set w.answered hart (answered_at w.answered hart + 1)) (with_entry w.history (entry_now w hart fault))
          Idle (answered_at w.answered hart + 1)
          (answered_line digest_of room_stays w k hart below line fault refl here (subst (λ b. AllowedAnswer w.setup s line b fault) (sym begun) (f.may_fault place licensed))
          (made_faulted s e.0) (λ actor. refl)
          (f.faulted (refused.Fault place) (ap (λ (p : Progress). p.begun) (k.stands.progress hart) ∙ begun)))
          agrees_faulted pages_faulted refl (unmade c leaves stays state_is.Faulted state_is.Faulted runs_on refl)
          (λ own is made. absurd (false≢true (sym (ap (λ b. b || false) not_live) ∙ made)))
          (λ own is. absurd (idle_put_none _ own is))
          tt
          (λ g is. absurd (none_some g _ (idle_has_none _) is))
          (never_live w e.0 c r_faulted n_faulted not_live not_live) w.tlbs (idle_translates digest_of w hart c (in_state w.enclaves e.0 state_is.Faulted) _ k)

      -- the controller has changed, and nothing else
      left_kept : Kept digest_of (record w { ctl = c })
      left_kept = number_row digest_of w k e.0 f.there none hart under_way (ap isnt_waiting so_far) c leaves (put done).page page_done stays
          w.enclaves r (changed_none free_enclave w.enclaves e.0) s n (becomes_same s e.0)
          w.under w.answered w.history (under_at w.under hart) (answered_at w.answered hart)
          (still_line digest_of room_stays w k hart below)
          agrees pages_now refl (still_unmade c leaves stays)
          (λ own is made. absurd (false≢true (sym not_made ∙ made)))
          (λ own is. still c leaves stays own (k.stands.attacks.put hart own is))
          (back (λ l u. LineUnderWay w.setup (page_bytes c.mirror) (enclave_at w.enclaves) s.number hart l u)
          (f.goes_on (page_bytes c.mirror) done f.from (record { state = f.puts.state; image_is = f.puts.image_is; few = f.puts.few; put = stays_put c leaves stays })))
          (λ g is. some_same g e.0 (sym is ∙ under_way))
          (never_live w e.0 c r n not_live not_live) w.tlbs
          (keeps_tlbs digest_of w hart c w.enclaves (hart_line w hart) (under_at w.under hart) k (ap isnt_waiting so_far)
          (back (λ l u. WalkingStands c (IsFresh w.setup (enclave_at w.enclaves) s w.fences hart) (walking w.setup.tables (enclave_at w.enclaves) l u))
          (subst (WalkingStands c (IsFresh w.setup (enclave_at w.enclaves) s w.fences hart)) (sym (f.no_walk (enclave_at w.enclaves) done)) tt)))

    -- ---- the event, by what the access answered

    abbrev last_of : Bool
    last_of = eqb (done + 1) (steps_of shadow (length im.pages))

    abbrev world_of : After Bool → WorldData
    world_of after =
        let step : CreatePut = create_put_by after shadow w.enclaves e.0 in
        let left : WorldData = record w { ctl = step.put.after.ctl; enclaves = step.enclaves } in
        decided left (λ last. if last then answers left hart answer_is.Ok else goes_on left hart (Putting (done + 1)))
        (λ place. answers left hart (answer_is.No (refused.Fault place))) step.put.outcome

    -- the world of a page that is put, by whether it is the last
    by_last : (g : Going) (leaves : Leaves digest_of w.ctl g.ctl) (both : BothChange (put done).page (λ bytes. (put done).bytes) w.ctl g.ctl) (last : Bool)
        → eqb (done + 1) (steps_of shadow (length im.pages)) ≡ last → Kept digest_of (world_of (answers_by last g))
    by_last g leaves both true is = made_kept g.ctl leaves both is
    by_last g leaves both false is = more_kept g.ctl leaves both is

    by_outcome : (o : Outcome (Unit {0})) (g : Going)
        → Accessed digest_of (replaced_places (put done).page) (λ _. BothChange (put done).page (λ bytes. (put done).bytes) w.ctl g.ctl) w.ctl o g.ctl
        → Kept digest_of (world_of (go_on o g (λ _ h. answers_by last_of h)))
    by_outcome (Value done') g told = by_last g told.leaves told.tells last_of refl
    by_outcome (Fault place) g told = faulted_kept g.ctl told.leaves told.tells.0 place told.tells.1
    by_outcome (Collision place held' written) g told =
        collision_kept digest_of (record w { ctl = g.ctl }) (record { place = place; held = held'; written = written })
        (left_kept g.ctl told.leaves told.tells.0 place told.tells.1.tampered)
        (collision_of digest_of w.setup.zones s.attacks g.ctl (replaced_places (put done).page) place held' written told.tells.1
        (attacked g.ctl told.leaves told.tells.0 place told.tells.1.tampered))
    by_outcome (Again taken root) g told = absurd told.tells

    -- an event that puts a page keeps what a world keeps
    pub put_kept : Kept digest_of (put_next digest_of w hart positions e.0 image shadow done).world
    unfolding create_put put_at
    put_kept =
        let called : After (Unit {0}) = put_page_of digest_of (put done).page (put done).bytes (going w.ctl positions) in
        by_outcome called.outcome called.after (tells (put done).page (put done).bytes (going w.ctl positions) k.trees (within done f.from few) size)
