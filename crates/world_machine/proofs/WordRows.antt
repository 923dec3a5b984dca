-- `send` and `take`, refused or done.
use Rattle.std.proofs.Common.{◌≡◌, ◌≢◌, ℕ, zero, suc, ◌+◌, ◌<◌, ◌≤◌, eqb, Bool, true, false, List, [], ◌∷◌, ◌++◌, length, take, slice_get, unwrap_or, Option, Some, None, option_map, refl, sym, ap, ◌∙◌, subst, arith}
use Rattle.std.proofs.lemmas.Bool.{eqb-false, false≢true}
use Rattle.std.proofs.lemmas.List.{length-take-le}
use Rattle.std.proofs.lemmas.Option.{slice_get-get_or}
use Rattle.pl_base.specs.declared.number.EncNo.{EncNo}
use Rattle.pl_base.specs.declared.refusal.No.{No}
use Rattle.pl_base.specs.declared.refusal.No.TheVariants.{NoEnclave, Full, Empty}
use Rattle.pl_base.specs.declared.state.State.{State}
use Rattle.pl_base.specs.declared.state.State.TheVariants as state_is
use Rattle.pl_base.specs.Refusals.{first_refusal, refuse}
use Rattle.pl_base.specs.States.{is_free, is_wordless}
use Rattle.rv_alone.specs.Alone.{alone, most_words}
use Rattle.rv_alone.proofs.Later.{sent_later}
use Rattle.mon_enclave.specs.declared.enclave.Enclave.{Enclave}
use Rattle.mon_enclave.specs.Records.{enclave_at, send_refusal, take_refusal, taken_word}
use Rattle.pl_history.specs.declared.answer.Answer.TheVariants as answer_is
use Rattle.pl_history.specs.declared.line.Line.TheVariants.{Send, Take}
use Rattle.pl_history.specs.Legal.{AllowedAnswer}
use Rattle.pl_history.specs.Monitor.{Number, flat_image}
use Rattle.pl_history.specs.Words as monitor
use Rattle.world_attack.specs.Room.{RoomStays}
use Rattle.world_machine.specs.declared.under.Under.TheVariants.{Idle}
use Rattle.world_machine.specs.EnclavesAgree.{EnclaveStands}
use Rattle.world_machine.specs.Making.{image_of}
use Rattle.world_machine.specs.PagesAgree.{PagesAre}
use Rattle.world_machine.specs.RecordsAgree.{RecordAgrees, is_begun}
use Rattle.world_machine.specs.Standing.{Kept, state_of, written_page}
use Rattle.world_machine.specs.Talking.{changes_unless, sends_word, takes_word}
use Rattle.world_machine.specs.Worlds.{WorldData, hart_line, under_at}
use Rattle.world_machine.proofs.BrokenPages.{pages_sent}
use Rattle.world_machine.proofs.LineTranslations.{isnt_waiting}
use Rattle.world_machine.proofs.PagesStay.{pages_same}
use Rattle.world_machine.proofs.QuietRows.{answers_kept}
use Rattle.world_machine.proofs.SentOut.{comes_earlier, retired_few, sent_out_later}
use Rattle.world_machine.proofs.TalkingRows.{words_kept}

-- a number that words go in and out of isn't free
worded_used : (state : State) → is_wordless state ≡ false → is_free state ≡ false
worded_used state_is.Free is = absurd (false≢true (sym is))
worded_used state is = refl

-- two tests let a line through
both_pass : (a b : Bool) (x y : No) → first_refusal (refuse a x ∷ refuse b y ∷ []) ≡ None → (a ≡ false) × (b ≡ false)
both_pass true b x y is = absurd (let h : Some x ≡ None = is in cc)
both_pass false true x y is = absurd (let h : Some y ≡ None = is in cc)
both_pass false false x y is = (refl, refl)

get-take : (xs : List ℕ) (n i : ℕ) → i < n → slice_get (take n xs) i ≡ slice_get xs i
get-take [] zero i few = absurd (omega arith)
get-take [] (suc n) i few = refl
get-take (x ∷ xs) zero i few = absurd (omega arith)
get-take (x ∷ xs) (suc n) zero few = refl
get-take (x ∷ xs) (suc n) (suc i) few = get-take xs n i (omega arith)

some_of_get : (xs : List ℕ) (i : ℕ) → i < length xs → slice_get xs i ≡ Some (unwrap_or (slice_get xs i) 0)
some_of_get xs i few =
    let here = slice_get-get_or xs i 0 few in
    here ∙ ap (λ o. Some (unwrap_or o 0)) (sym here)

module _ (digest_of : List ℕ → List ℕ) (room_stays : RoomStays) (w : WorldData) (k : Kept digest_of w) (none : w.collision ≡ None) (hart : ℕ) (below : hart < w.setup.harts)
    (idle : under_at w.under hart ≡ Idle) (e : EncNo) (there : e.0 < length w.enclaves) where
  abbrev r : Enclave
  r = enclave_at w.enclaves e.0

  abbrev n : Number
  n = (state_of w).number e.0

  agrees : RecordAgrees r n
  agrees = k.stands.records e.0

  not_begun : is_begun (under_at w.under hart) ≡ false
  not_begun = ap is_begun idle

  waited : isnt_waiting (under_at w.under hart) ≡ true
  waited = ap isnt_waiting idle

  -- ---- send

  module _ (word : ℕ) (here : hart_line w hart ≡ Some (Send e word)) where
    abbrev sent_to : Enclave
    sent_to = record r { sent = r.sent ++ word ∷ [] }

    abbrev number_sent : Number
    number_sent = record n { sent = n.sent ++ word ∷ [] }

    same_refusal : monitor.send_refusal n ≡ send_refusal r
    same_refusal =
        ap (λ state. first_refusal (refuse (is_wordless state) NoEnclave ∷ refuse (eqb (length n.sent) most_words) Full ∷ [])) agrees.state
        ∙ ap (λ sent. first_refusal (refuse (is_wordless r.state) NoEnclave ∷ refuse (eqb (length sent) most_words) Full ∷ [])) agrees.sent

    sent_agrees : RecordAgrees sent_to number_sent
    sent_agrees = record {
      state = agrees.state;
      live = agrees.live;
      hart = agrees.hart;
      image = agrees.image;
      given = agrees.given;
      parent = agrees.parent;
      sent = ap (λ xs. xs ++ word ∷ []) agrees.sent;
      taken = agrees.taken;
      retired = agrees.retired;
    }

    sent_stands : is_free r.state ≡ false → EnclaveStands w.setup (written_page w) w.owners e.0 sent_to number_sent
    sent_stands used =
        let x = k.stands.enclaves e.0 used in
        let image_is : slice_get w.setup.images n.image ≡ Some x.image = ap (slice_get w.setup.images) agrees.image ∙ x.image_is in
        let comes = comes_earlier (flat_image x.image) n.sent n.retired r.retired x.state.now (retired_few r.state r.retired n.retired agrees.retired)
        (ap (λ xs. alone (flat_image x.image) xs r.retired) agrees.sent ∙ x.state.alone_is) in
        record {
          image = x.image;
          image_is = x.image_is;
          held = x.held;
          state = record {
            now = x.state.now;
            alone_is = sent_later (flat_image x.image) r.sent (word ∷ []) r.retired x.state.now x.state.alone_is;
            context = x.state.context;
            received = x.state.received;
            out = x.state.out;
            status = x.state.status;
            aligned = x.state.aligned;
            taken_few = x.state.taken_few;
            shown_few = x.state.shown_few;
            shown = x.state.shown ∙ sym (sent_out_later w.setup n x.image word image_is comes);
            pages = x.state.pages;
            start = x.state.start;
          };
        }

    sent_pages : is_free r.state ≡ false → PagesAre w.setup (state_of w).number sent_to number_sent
    sent_pages used =
        let x = k.stands.enclaves e.0 used in
        let image_is : image_of w.setup r.image ≡ x.image = ap (λ o. unwrap_or o (record { entry = 0; pages = [] })) x.image_is in
        pages_sent w.setup (state_of w).number r n (k.stands.pages e.0) word number_sent x.state.now refl refl refl
        (ap (λ i. alone (flat_image i) r.sent r.retired) image_is ∙ x.state.alone_is)

    send_by : (o : Option No) → send_refusal r ≡ o → Kept digest_of (changes_unless o w hart e.0 sent_to answer_is.Ok)
    send_by (Some cause) is = answers_kept digest_of room_stays w k none hart below (Send e word) (answer_is.No cause) refl here
        (subst (λ b. AllowedAnswer w.setup (state_of w) (Send e word) b (answer_is.No cause)) (sym not_begun) (same_refusal ∙ is)) refl waited
    send_by None is = words_kept digest_of room_stays w k none hart below (Send e word) answer_is.Ok refl here
        (subst (λ b. AllowedAnswer w.setup (state_of w) (Send e word) b answer_is.Ok) (sym not_begun) (same_refusal ∙ is, refl))
        e.0 there sent_to number_sent refl (record { state = refl; hart = refl; image = refl; pages = refl; parent = refl; context = refl; retired = refl })
        (record { state = refl; live = refl; pages = refl; retired = refl }) sent_agrees
        (sent_pages (worded_used r.state (both_pass (is_wordless r.state) (eqb (length r.sent) most_words) NoEnclave Full is).0)) sent_stands waited

    pub send_kept : Kept digest_of (sends_word w hart e.0 word).world
    send_kept = send_by (send_refusal r) refl

  -- ---- take

  module _ (here : hart_line w hart ≡ Some (Take e)) where
    abbrev taken_from : Enclave
    taken_from = record r { taken = r.taken + 1 }

    abbrev number_taken : Number
    number_taken = record n { taken = n.taken + 1 }

    abbrev out_of_monitor : List ℕ
    out_of_monitor = monitor.sent_out w.setup n

    abbrev taken_now : ℕ
    taken_now = unwrap_or (taken_word r) 0

    taken_agrees : RecordAgrees taken_from number_taken
    taken_agrees = record {
      state = agrees.state;
      live = agrees.live;
      hart = agrees.hart;
      image = agrees.image;
      given = agrees.given;
      parent = agrees.parent;
      sent = agrees.sent;
      taken = ap (λ m. m + 1) agrees.taken;
      retired = agrees.retired;
    }

    -- where words go in and out, as many are shown as the monitor has
    shown_is : EnclaveStands w.setup (written_page w) w.owners e.0 r n → length out_of_monitor ≡ r.shown
    shown_is x = ap length (sym x.state.shown) ∙ length-take-le r.shown r.out x.state.shown_few

    same_take : (b : Bool) → is_wordless r.state ≡ b → monitor.take_refusal w.setup n ≡ take_refusal r
    same_take true is =
        ap (λ state. first_refusal (refuse (is_wordless state) NoEnclave ∷ refuse (eqb n.taken (length out_of_monitor)) Empty ∷ [])) agrees.state
        ∙ ap (λ b. first_refusal (refuse b NoEnclave ∷ refuse (eqb n.taken (length out_of_monitor)) Empty ∷ [])) is
        ∙ sym (ap (λ b. first_refusal (refuse b NoEnclave ∷ refuse (eqb r.taken r.shown) Empty ∷ [])) is)
    same_take false is =
        ap (λ state. first_refusal (refuse (is_wordless state) NoEnclave ∷ refuse (eqb n.taken (length out_of_monitor)) Empty ∷ [])) agrees.state
        ∙ ap (λ m. first_refusal (refuse (is_wordless r.state) NoEnclave ∷ refuse (eqb m (length out_of_monitor)) Empty ∷ [])) agrees.taken
        ∙ ap (λ m. first_refusal (refuse (is_wordless r.state) NoEnclave ∷ refuse (eqb r.taken m) Empty ∷ [])) (shown_is (k.stands.enclaves e.0 (worded_used r.state is)))

    -- the word that is taken is the next one that the image sent out
    module _ (passes : take_refusal r ≡ None) where
      tests : (is_wordless r.state ≡ false) × (eqb r.taken r.shown ≡ false)
      tests = both_pass (is_wordless r.state) (eqb r.taken r.shown) NoEnclave Empty passes

      x : EnclaveStands w.setup (written_page w) w.owners e.0 r n
      x = k.stands.enclaves e.0 (worded_used r.state tests.0)

      one_shown : r.taken < r.shown
      one_shown =
          let differ : r.taken ≢ r.shown = eqb-false _ _ tests.1 in
          let few : r.taken ≤ r.shown = x.state.taken_few in
          omega arith

      one_out : r.taken < length r.out
      one_out = let a : r.taken < r.shown = one_shown in let b : r.shown ≤ length r.out = x.state.shown_few in omega arith

      taken_is : slice_get out_of_monitor n.taken ≡ Some taken_now
      taken_is =
          ap (λ xs. slice_get xs n.taken) (sym x.state.shown) ∙ ap (slice_get (take r.shown r.out)) agrees.taken
          ∙ get-take r.out r.shown r.taken one_shown ∙ some_taken
        where
          some_taken : slice_get r.out r.taken ≡ Some (unwrap_or (slice_get r.out r.taken) 0)
          some_taken = some_of_get r.out r.taken one_out

      taken_stands : EnclaveStands w.setup (written_page w) w.owners e.0 taken_from number_taken
      taken_stands = record {
        image = x.image;
        image_is = x.image_is;
        held = x.held;
        state = record {
          now = x.state.now;
          alone_is = x.state.alone_is;
          context = x.state.context;
          received = x.state.received;
          out = x.state.out;
          status = x.state.status;
          aligned = x.state.aligned;
          taken_few = (let h : r.taken < r.shown = one_shown in omega arith);
          shown_few = x.state.shown_few;
          shown = x.state.shown;
          pages = x.state.pages;
          start = x.state.start;
        };
      }

      taken_pages : PagesAre w.setup (state_of w).number taken_from number_taken
      taken_pages = pages_same w.setup (state_of w).number r taken_from n number_taken
          (record { image = refl; sent = refl; retired = refl; kinds = refl; left = refl; parent = refl; pages = refl; spares = refl }) (k.stands.pages e.0)

      take_done : Kept digest_of (changes_unless None w hart e.0 taken_from (answer_is.Word taken_now))
      take_done = words_kept digest_of room_stays w k none hart below (Take e) (answer_is.Word taken_now) refl here
          (subst (λ b. AllowedAnswer w.setup (state_of w) (Take e) b (answer_is.Word taken_now)) (sym not_begun)
          (same_take (is_wordless r.state) refl ∙ passes, ap (option_map answer_is.Word) taken_is))
          e.0 there taken_from number_taken refl (record { state = refl; hart = refl; image = refl; pages = refl; parent = refl; context = refl; retired = refl })
          (record { state = refl; live = refl; pages = refl; retired = refl }) taken_agrees taken_pages (λ used. taken_stands) waited

    take_by : (o : Option No) → take_refusal r ≡ o → Kept digest_of (changes_unless o w hart e.0 taken_from (answer_is.Word taken_now))
    take_by (Some cause) is = answers_kept digest_of room_stays w k none hart below (Take e) (answer_is.No cause) refl here
        (subst (λ b. AllowedAnswer w.setup (state_of w) (Take e) b (answer_is.No cause)) (sym not_begun) (same_take (is_wordless r.state) refl ∙ is)) refl waited
    take_by None is = take_done is

    pub take_kept : Kept digest_of (takes_word w hart e.0).world
    take_kept = take_by (take_refusal r) refl
