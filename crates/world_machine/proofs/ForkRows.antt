-- The row of `fork` that begins: it is refused, or the number shares the shadow's pages, and its own are spares.
use Rattle.std.proofs.Common.{◌≡◌, ◌≢◌, ℕ, ◌<◌, ltb, ◌||◌, true, false, if◌then◌else◌, List, [], ◌∷◌, length, map, slice_get, Option, Some, None, refl, sym, ap, ◌∙◌, subst, arith}
use Rattle.std.specs.Prelude.{Contains}
use Rattle.std.specs.List.{All, AllByRecursion}
use Rattle.std.proofs.lemmas.Bool.{and_parts, false≢true, ltb-true}
use Rattle.std.proofs.lemmas.List.{length-map}
use Rattle.std.proofs.lemmas.List.Elements.{All-map, All-weaker, recursion_from_All}
use Rattle.pl_base.specs.declared.number.EncNo.{EncNo}
use Rattle.pl_base.specs.declared.refusal.No.{No}
use Rattle.pl_base.specs.declared.state.State.TheVariants as state_is
use Rattle.pl_base.specs.Pages.{first_twice}
use Rattle.pl_base.specs.States.{is_dying, is_free, is_sealed}
use Rattle.rv_alone.specs.Alone.{context_of}
use Rattle.rv_alone.specs.Flat.{Flat, start_of}
use Rattle.mon_enclave.specs.declared.enclave.Enclave.{Enclave}
use Rattle.mon_enclave.specs.declared.enclave.PageKind.{PageKind}
use Rattle.mon_enclave.specs.declared.enclave.PageKind.TheVariants.{Own, Shared}
use Rattle.mon_enclave.specs.Records.{as_shared, enclave_at, forked, is_shared, with_enclave}
use Rattle.mon_image.specs.declared.image.Image.{Image}
use Rattle.mon_life.specs.Making.{PagesTaken, taken_unless, taker}
use Rattle.mon_owner.specs.declared.owners.Owner.{Owner}
use Rattle.mon_owner.specs.declared.owners.Owner.TheVariants as owner_is
use Rattle.mon_owner.specs.Owners.{given_to}
use Rattle.mon_shadow.specs.Forking.{fork_begun, fork_refusal_of}
use Rattle.mon_shadow.proofs.ForkLemmas.{free_pages}
use Rattle.pl_history.specs.declared.answer.Answer.TheVariants as answer_is
use Rattle.pl_history.specs.declared.line.Line.{Line}
use Rattle.pl_history.specs.declared.line.Line.TheVariants.{Fork}
use Rattle.pl_history.specs.Legal.{AllowedAnswer}
use Rattle.pl_history.specs.Making.{fork_refusal, made_faulted}
use Rattle.pl_history.specs.Monitor.{Monitor, Number, Progress, answer, flat_image, flat_page, freed}
use Rattle.pl_history.specs.Protection.{pmp_of}
use Rattle.pl_history.proofs.ShadowLemmas.{sealed_state}
use Rattle.world_attack.specs.Room.{RoomStays}
use Rattle.world_machine.specs.declared.under.Under.TheVariants.{Idle, Putting}
use Rattle.world_machine.specs.Answering.{answers, begins}
use Rattle.world_machine.specs.BytesAgree.{PageAgrees}
use Rattle.world_machine.specs.EnclavesAgree.{EnclaveStands, HasItsPages, IsOwnOrShared, IsOwn, is_made}
use Rattle.world_machine.specs.LinesUnderWay.{IsForking, first_table_step}
use Rattle.world_machine.specs.Making.{begin_fork, begins_unless, image_of}
use Rattle.world_machine.specs.Pages.{flat_pages, numbers_of}
use Rattle.world_machine.specs.RecordsAgree.{LiveAgrees, is_begun, parent_of}
use Rattle.world_machine.specs.Standing.{Kept, state_of, written_page}
use Rattle.world_machine.specs.Worlds.{WorldData, answered_at, hart_line, under_at}
use Rattle.world_machine.proofs.BeginRows.{BeginsMaking, begun_kept, start_stands}
use Rattle.world_machine.proofs.BrokenPages.{pages_forked, whole_kinds}
use Rattle.world_machine.proofs.CreateRefusals.{MayFork, fork_refusal_same, may_fork}
use Rattle.world_machine.proofs.ForkedNumbers.{shadows_stand}
use Rattle.world_machine.proofs.LineTranslations.{isnt_waiting}
use Rattle.world_machine.proofs.Lists.{if_other}
use Rattle.world_machine.proofs.LiveEnclaves.{image_found}
use Rattle.world_machine.proofs.OwnersGiven.{own_stays}
use Rattle.world_machine.proofs.MakeRows.{own_held}
use Rattle.world_machine.proofs.QuietRows.{answers_kept}
use Rattle.world_machine.proofs.SetupFacts.{line_names}
use Rattle.world_machine.proofs.UnderWay.{own_numbers}

-- ---- kinds of pages

numbers_shared : (kinds : List PageKind) → numbers_of (map as_shared kinds) ≡ numbers_of kinds
numbers_shared [] = refl
numbers_shared (Own page ∷ kinds) = ap (λ numbers. page ∷ numbers) (numbers_shared kinds)
numbers_shared (Shared page ∷ kinds) = ap (λ numbers. page ∷ numbers) (numbers_shared kinds)

-- ---- a sealed shadow

module _ (digest_of : List ℕ → List ℕ) (w : WorldData) (k : Kept digest_of w) (shadow : ℕ) (sealed : ((state_of w).number shadow).state ≡ state_is.Sealed)
    (whole : ((state_of w).number shadow).parent ≡ None) where
  abbrev source : Enclave
  source = enclave_at w.enclaves shadow

  abbrev its : Number
  its = (state_of w).number shadow

  state_now : source.state ≡ state_is.Sealed
  state_now = sym (k.stands.records shadow).state ∙ sealed

  not_live : its.live ≡ false
  not_live = subst (λ st. LiveAgrees st its.live) state_now (k.stands.records shadow).live

  its_is_made : is_made its ≡ true
  its_is_made = λ i. not_live i || is_sealed (sealed i)

  abbrev source_stands : EnclaveStands w.setup (written_page w) w.owners shadow source its
  source_stands = k.stands.enclaves shadow (ap is_free state_now)

  -- it stands for the start of its image
  source_starts : source_stands.state.now ≡ start_of (flat_image source_stands.image)
  source_starts = source_stands.state.start not_live (ap is_dying state_now)

  source_pages : source.pages ≡ map Own its.pages
  source_pages = whole_kinds w.setup (state_of w).number source its (k.stands.pages shadow) whole

  source_numbers : numbers_of source.pages ≡ its.pages
  source_numbers = ap numbers_of source_pages ∙ own_numbers its.pages

  -- which is what its pages hold
  pub source_bytes : map flat_page (image_of w.setup source.image).pages ≡ flat_pages (written_page w) (image_of w.setup source.image).pages its.pages
  source_bytes =
      let image_now : image_of w.setup source.image ≡ source_stands.image = image_found w.setup source.image source_stands.image source_stands.image_is in
      ap (λ (i : Image). map flat_page i.pages) image_now ∙ ap (λ (a : Flat). a.pages) (sym source_starts) ∙ source_stands.state.pages its_is_made
      ∙ (λ i. flat_pages (written_page w) (sym image_now i).pages (source_numbers i))

  pub source_owned : AllByRecursion (IsOwn w.owners shadow) its.pages
  source_owned = own_held w.owners shadow source.parent its.pages (recursion_from_All (IsOwnOrShared w.owners shadow source.parent) (map Own its.pages)
      (subst (All (IsOwnOrShared w.owners shadow source.parent)) source_pages source_stands.held.owned))

  pub source_agrees : (page : ℕ) → Contains its.pages page → PageAgrees w.ctl.off_chip w.ctl.mirror (state_of w).attacks page
  source_agrees page is = k.stands.attacks.made page shadow (subst (λ pages. Contains pages page) (sym source_numbers) is) its_is_made

-- ---- the fork begins

module _ (digest_of : List ℕ → List ℕ) (room_stays : RoomStays) (w : WorldData) (k : Kept digest_of w) (none : w.collision ≡ None) (hart : ℕ) (below : hart < w.setup.harts)
    (shadow e : EncNo) (pages : List ℕ) (here : hart_line w hart ≡ Some (Fork shadow e pages)) (idle : under_at w.under hart ≡ Idle) where
  abbrev s : Monitor
  s = state_of w

  abbrev line : Line
  line = Fork shadow e pages

  abbrev refusal : Option No
  refusal = fork_refusal_of w.owners w.enclaves (pmp_of w.setup) shadow.0 e.0 pages

  refusal_is : refusal ≡ fork_refusal w.setup s shadow.0 e.0 pages
  refusal_is = fork_refusal_same w.setup w.owners s k.stands.owners pages w.enclaves shadow.0 e.0 (k.stands.records shadow.0).state (k.stands.records e.0).state

  not_begun : is_begun (under_at w.under hart) ≡ false
  not_begun = ap is_begun idle

  refused_kept : (cause : No) → refusal ≡ Some cause → Kept digest_of (answers w hart (answer_is.No cause))
  refused_kept cause is = answers_kept digest_of room_stays w k none hart below line (answer_is.No cause) refl here
      (subst (λ b. AllowedAnswer w.setup s line b (answer_is.No cause)) (sym not_begun) (sym refusal_is ∙ is))
      (ap (λ b. answer (if b then made_faulted s e.0 else s) hart) (ap (λ (p : Progress). p.begun) (k.stands.progress hart) ∙ not_begun))
      (ap isnt_waiting idle)

  abbrev source_now : Enclave
  source_now = enclave_at w.enclaves shadow.0

  -- the step of the first table
  abbrev from_tables : ℕ
  from_tables = first_table_step w.setup source_now

  module _ (no_cause : refusal ≡ None) where
    free : All (λ page. slice_get w.owners page ≡ Some (owner_is.Host 0)) pages
    free = free_pages w.owners w.enclaves (pmp_of w.setup) shadow.0 e.0 pages no_cause

    may : MayFork s shadow.0 e.0 pages
    may = may_fork w.setup s shadow.0 e.0 pages (sym refusal_is ∙ no_cause)

    sealed : (s.number shadow.0).state ≡ state_is.Sealed
    sealed = sealed_state (s.number shadow.0).state may.sealed

    whole : (s.number shadow.0).parent ≡ None
    whole = (((shadows_stand digest_of w k).numbers shadow.0).sealed sealed).0

    apart : shadow.0 ≢ e.0
    apart same = false≢true (sym (ap is_free (ap (λ f. (s.number f).state) (sym same) ∙ sealed)) ∙ may.free)

    there : e.0 < w.setup.enclaves
    there =
        let names = line_names w.setup hart (answered_at w.answered hart) line k.sizes.rules here in
        ltb-true e.0 w.setup.enclaves (and_parts (ltb shadow.0 w.setup.enclaves) (ltb e.0 w.setup.enclaves) names).1

    abbrev source_is : EnclaveStands w.setup (written_page w) w.owners shadow.0 source_now (s.number shadow.0)
    source_is = source_stands digest_of w k shadow.0 sealed whole

    abbrev r : Enclave
    r = forked shadow source_now pages (enclave_at w.enclaves e.0)

    abbrev n : Number
    n = record (freed (s.number e.0)) { state = state_is.Building; image = (s.number shadow.0).image; spares = pages; parent = Some shadow.0 }

    abbrev owners' : List Owner
    owners' = given_to w.owners pages (taker e.0 false)

    -- the shadow has no pages of another
    not_forked : (other : EncNo) → source_now.parent ≡ Some other → ⊥
    not_forked other is = (let clash : None ≡ Some other.0 = sym whole ∙ (k.stands.records shadow.0).parent ∙ ap parent_of is in cc)

    held : HasItsPages owners' e.0 source_is.image r.pages (Some shadow)
    held = record {
      count = length-map source_now.pages as_shared ∙ source_is.held.count;
      apart = ap first_twice (numbers_shared source_now.pages) ∙ source_is.held.apart;
      owned = All-map (IsOwnOrShared owners' e.0 (Some shadow)) as_shared source_now.pages
          (All-weaker (IsOwnOrShared w.owners shadow.0 source_now.parent) (λ kind. IsOwnOrShared owners' e.0 (Some shadow) (as_shared kind)) by_kind source_now.pages source_is.held.owned);
    }
      where
        by_kind : (kind : PageKind) → IsOwnOrShared w.owners shadow.0 source_now.parent kind → IsOwnOrShared owners' e.0 (Some shadow) (as_shared kind)
        by_kind (Own page) own = (shadow, refl, own_stays w.owners (taker e.0 false) pages free shadow.0 page own)
        by_kind (Shared page) (other, is, own) = absurd (not_forked other is)

    forking : IsForking w.setup (written_page w) r e.0 from_tables
    forking = record {
      forked = refl;
      shared = All-map (λ kind. is_shared kind ≡ true) as_shared source_now.pages (λ i none within. refl);
      from = omega arith;
      putting = record { state = refl; image_is = refl; few = omega arith; put = λ at from low. absurd (omega arith) };
    }

    begins_making : BeginsMaking digest_of room_stays w k none hart below line here idle e.0 pages (taker e.0 false) r n from_tables
    begins_making = record {
      allowed = sym refusal_is ∙ no_cause;
      gives = refl;
      under_way = refl;
      none_put = λ page put. put;
      no_walk = λ rec. refl;
      own_line = λ rec is. subst (λ x. IsForking w.setup (written_page w) x e.0 from_tables) (sym is) forking;
      free = free;
      taker = refl;
      there = subst (λ size. e.0 < size) (sym k.sizes.numbers) there;
      was_free = ap is_free (sym (k.stands.records e.0).state) ∙ may.free;
      not_live = refl;
      not_made = refl;
      agrees = record {
        state = refl;
        live = refl;
        hart = (k.stands.records e.0).hart;
        image = (k.stands.records shadow.0).image;
        given = refl;
        parent = refl;
        sent = refl;
        taken = refl;
        retired = refl;
      };
      pages_now = pages_forked w.setup _ n shadow source_now pages (s.number shadow.0).pages (enclave_at w.enclaves e.0) (source_pages digest_of w k shadow.0 sealed whole)
          (ap (λ (m : Number). m.pages) (if_other e.0 shadow.0 n (s.number shadow.0) apart)) refl refl refl;
      stands = record {
        image = source_is.image;
        image_is = source_is.image_is;
        held = held;
        state = start_stands w.setup (written_page w) source_now.image source_is.image (map as_shared source_now.pages) pages (length pages) source_now.context
            (enclave_at w.enclaves e.0).hart (Some shadow) n source_is.image_is (source_is.state.context ∙ ap context_of (source_starts digest_of w k shadow.0 sealed whole)) source_is.state.aligned
            (k.stands.records shadow.0).image refl refl refl;
      };
    }

    begun_so : Kept digest_of (begins (record w { owners = owners'; enclaves = with_enclave w.enclaves e.0 r }) hart (Putting from_tables))
    begun_so = begun_kept digest_of room_stays w k none hart below line here idle e.0 pages (taker e.0 false) r n from_tables begins_making

  abbrev world_of : PagesTaken → WorldData
  world_of begun = begins_unless begun.refusal (record w { owners = begun.owners; enclaves = begun.enclaves }) hart (Putting from_tables)

  abbrev began_by : Option No → PagesTaken
  began_by o = taken_unless o w.owners w.enclaves (given_to w.owners pages (taker e.0 false))
      (with_enclave w.enclaves e.0 (forked shadow source_now pages (enclave_at w.enclaves e.0)))

  by_refusal : (o : Option No) → refusal ≡ o → Kept digest_of (world_of (began_by o))
  by_refusal (Some cause) is = refused_kept cause is
  by_refusal None is = begun_so is

  -- an event that begins a `fork` keeps what a world keeps
  pub begin_fork_kept : Kept digest_of (begin_fork w hart shadow e.0 pages).world
  unfolding fork_begun
  begin_fork_kept = by_refusal refusal refl
