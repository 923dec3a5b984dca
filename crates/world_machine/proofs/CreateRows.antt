-- The row of `create` and `shadow` that begins: it is refused, or its number is being made and all pages are the number's own.
use Rattle.std.proofs.Common.{◌≡◌, ℕ, ◌%◌, ◌<◌, ◌≤◌, Bool, true, false, List, [], length, map, slice_get, unwrap_or, Option, Some, None, refl, sym, ap, ◌∙◌, subst, arith}
use Rattle.std.specs.Prelude.{Contains}
use Rattle.std.specs.List.{All}
use Rattle.std.specs.Option.{option_map_or}
use Rattle.std.proofs.lemmas.List.{length-map}
use Rattle.std.proofs.lemmas.List.Elements.{All-contains_itself, All-map, All-weaker}
use Rattle.pl_base.specs.declared.number.EncNo.{EncNo}
use Rattle.pl_base.specs.declared.refusal.No.{No}
use Rattle.pl_base.specs.declared.state.State.TheVariants as state_is
use Rattle.pl_base.specs.Pages.{first_twice}
use Rattle.pl_base.specs.States.{is_free}
use Rattle.rv_alone.specs.Flat.{start_registers}
use Rattle.mon_enclave.specs.declared.enclave.Enclave.{Enclave}
use Rattle.mon_enclave.specs.declared.enclave.PageKind.TheVariants.{Own}
use Rattle.mon_enclave.specs.Records.{built, enclave_at, start_context, with_enclave}
use Rattle.mon_image.specs.declared.image.Image.{Image}
use Rattle.mon_life.specs.Making.{PagesTaken, taken_unless, create_begun, create_refusal_of, taker}
use Rattle.mon_life.specs.Putting.{steps_of}
use Rattle.mon_life.proofs.BegunLemmas.{free_pages}
use Rattle.mon_owner.specs.declared.owners.Owner.{Owner}
use Rattle.mon_owner.specs.declared.owners.Owner.TheVariants as owner_is
use Rattle.mon_owner.specs.Owners.{given_to}
use Rattle.pl_history.specs.declared.answer.Answer.TheVariants as answer_is
use Rattle.pl_history.specs.declared.line.Line.{Line}
use Rattle.pl_history.specs.Legal.{AllowedAnswer}
use Rattle.pl_history.specs.Making.{building, create_refusal}
use Rattle.pl_history.specs.Monitor.{Monitor, Number, Progress, flat_page, freed, number}
use Rattle.pl_history.specs.Protection.{pmp_of}
use Rattle.world_attack.specs.Room.{RoomStays}
use Rattle.world_machine.specs.declared.under.Under.TheVariants.{Idle, Putting}
use Rattle.world_machine.specs.Answering.{answers, begins}
use Rattle.world_machine.specs.EnclavesAgree.{HasItsPages, IsOwnOrShared, IsOwn}
use Rattle.world_machine.specs.LinesUnderWay.{IsBuilding}
use Rattle.world_machine.specs.Making.{begin_create, begins_unless, image_of}
use Rattle.world_machine.specs.RecordsAgree.{is_begun, owner_of}
use Rattle.world_machine.specs.Standing.{Kept, state_of, written_page}
use Rattle.world_machine.specs.Worlds.{WorldData, answered_at, hart_line, under_at}
use Rattle.world_machine.proofs.BeginRows.{BeginsMaking, begun_kept, start_stands}
use Rattle.world_machine.proofs.CreateRefusals.{MayCreate, may_create, refusal_same}
use Rattle.world_machine.proofs.LineTranslations.{isnt_waiting}
use Rattle.world_machine.proofs.MakeLines.{begun_gives, building_is, has_put, make_line, make_names, make_walks_none, makes_number, may_begin, may_refuse, refused_gives}
use Rattle.world_machine.proofs.OwnersGiven.{given_own, in_among}
use Rattle.world_machine.proofs.QuietRows.{answers_kept}
use Rattle.world_machine.proofs.SetupFacts.{CreateNames, entry_aligned, image_some}
use Rattle.world_machine.proofs.UnderWay.{own_numbers}

pub taker_is : (e : EncNo) (shadow : Bool) → owner_of (taker e.0 shadow) ≡ number e.0
taker_is e true = refl
taker_is e false = refl

some_steps : (shadow : Bool) (pages : ℕ) → 1 ≤ pages → 0 < steps_of shadow pages
some_steps true pages some = some
some_steps false pages some = omega arith

module _ (digest_of : List ℕ → List ℕ) (room_stays : RoomStays) (w : WorldData) (k : Kept digest_of w) (none : w.collision ≡ None) (hart : ℕ) (below : hart < w.setup.harts)
    (shadow : Bool) (e : EncNo) (image : ℕ) (pages : List ℕ) (here : hart_line w hart ≡ Some (make_line shadow e image pages)) (idle : under_at w.under hart ≡ Idle) where
  abbrev s : Monitor
  s = state_of w

  abbrev line : Line
  line = make_line shadow e image pages

  abbrev refusal : Option No
  refusal = create_refusal_of w.owners w.enclaves (pmp_of w.setup) (length (image_of w.setup image).pages) e.0 pages

  refusal_is : refusal ≡ create_refusal w.setup s e.0 image pages
  refusal_is = refusal_same w.setup w.owners s k.stands.owners pages w.enclaves e.0 image (k.stands.records e.0).state

  not_begun : is_begun (under_at w.under hart) ≡ false
  not_begun = ap is_begun idle

  -- ---- refused

  refused_kept : (cause : No) → refusal ≡ Some cause → Kept digest_of (answers w hart (answer_is.No cause))
  refused_kept cause is = answers_kept digest_of room_stays w k none hart below line (answer_is.No cause) refl here
      (subst (λ b. AllowedAnswer w.setup s line b (answer_is.No cause)) (sym not_begun) (may_refuse e image pages w.setup s shadow cause (sym refusal_is ∙ is)))
      (refused_gives e image pages s hart shadow false cause (ap (λ (p : Progress). p.begun) (k.stands.progress hart) ∙ not_begun))
      (ap isnt_waiting idle)

  -- ---- begun

  module _ (no_cause : refusal ≡ None) where
    free : All (λ page. slice_get w.owners page ≡ Some (owner_is.Host 0)) pages
    free = free_pages w.owners w.enclaves (pmp_of w.setup) (length (image_of w.setup image).pages) e.0 pages no_cause

    may : MayCreate w.setup s e.0 image pages
    may = may_create w.setup s e.0 image pages (sym refusal_is ∙ no_cause)

    abbrev names : CreateNames w.setup e.0 image
    names = make_names e image pages w.setup hart (answered_at w.answered hart) shadow k.sizes.rules here

    image_now : image_of w.setup image ≡ names.image
    image_now = ap (λ o. unwrap_or o (record { entry = 0; pages = [] })) names.image_is

    abbrev r : Enclave
    r = built image (image_of w.setup image) pages (enclave_at w.enclaves e.0)

    abbrev n : Number
    n = record (freed (s.number e.0)) { state = state_is.Building; image = image; pages = pages }

    abbrev owners' : List Owner
    owners' = given_to w.owners pages (taker e.0 shadow)

    held : HasItsPages owners' e.0 names.image r.pages None
    held = record {
      count = length-map pages Own ∙ may.count ∙ ap (λ o. option_map_or (λ (i : Image). length i.pages) o 0) names.image_is;
      apart = ap first_twice (own_numbers pages) ∙ may.apart;
      owned = All-map (IsOwnOrShared owners' e.0 None) Own pages (All-weaker (Contains pages) (IsOwn owners' e.0)
          (λ page is. given_own w.owners (taker e.0 shadow) pages free e.0 (taker_is e shadow) page (in_among pages page is)) pages (All-contains_itself pages));
    }

    building_now : IsBuilding w.setup (written_page w) r e.0 image shadow pages 0
    building_now = record {
      pages_are = refl;
      putting = record {
        state = refl;
        image_is = refl;
        few = some_steps shadow (length (image_of w.setup image).pages)
            (subst (λ (i : Image). 1 ≤ length i.pages) (sym image_now) (image_some w.setup image names.image k.sizes.rules names.image_is));
        put = λ at from few. absurd (omega arith);
      };
    }

    begins_making : BeginsMaking digest_of room_stays w k none hart below line here idle e.0 pages (taker e.0 shadow) r n 0
    begins_making = record {
      allowed = may_begin e image pages w.setup s shadow (sym refusal_is ∙ no_cause);
      gives = begun_gives e image pages s hart shadow;
      under_way = makes_number e image pages shadow 0;
      none_put = λ page put. (let in_none = has_put e image pages shadow 0 page put in absurd (omega (arith, in_none.1)));
      no_walk = λ rec. make_walks_none e image pages shadow w.setup.tables rec 0;
      own_line = λ rec is. building_is e image pages w.setup (written_page w) rec (building s e.0 image pages).number hart 0 shadow
          (subst (λ x. IsBuilding w.setup (written_page w) x e.0 image shadow pages 0) (sym is) building_now);
      free = free;
      taker = taker_is e shadow;
      there = subst (λ size. e.0 < size) (sym k.sizes.numbers) names.there;
      was_free = ap is_free (sym (k.stands.records e.0).state) ∙ may.free;
      not_live = refl;
      not_made = refl;
      agrees = record {
        state = refl;
        live = refl;
        hart = (k.stands.records e.0).hart;
        image = refl;
        given = refl;
        parent = refl;
        sent = refl;
        taken = refl;
        retired = refl;
      };
      pages_now = record { broken = []; ahead = false; so_far = refl; kinds = refl; spares = refl; few = omega arith };
      stands = record {
        image = names.image;
        image_is = names.image_is;
        held = held;
        state = start_stands w.setup (written_page w) image names.image (map Own pages) [] 0 (start_context (image_of w.setup image)) (enclave_at w.enclaves e.0).hart None n
            names.image_is
            (ap start_context image_now ∙ (λ i. record { regs = start_registers (sym (length-map names.image.pages flat_page) i); pc = names.image.entry }))
            (ap (λ (i : Image). i.entry % 4) image_now ∙ entry_aligned w.setup image names.image k.sizes.rules names.image_is) refl refl refl refl;
      };
    }

    begun_so : Kept digest_of (begins (record w { owners = owners'; enclaves = with_enclave w.enclaves e.0 r }) hart (Putting 0))
    begun_so = begun_kept digest_of room_stays w k none hart below line here idle e.0 pages (taker e.0 shadow) r n 0 begins_making

  -- ---- the event, by whether it is refused

  abbrev world_of : PagesTaken → WorldData
  world_of begun = begins_unless begun.refusal (record w { owners = begun.owners; enclaves = begun.enclaves }) hart (Putting 0)

  abbrev began_by : Option No → PagesTaken
  began_by o = taken_unless o w.owners w.enclaves (given_to w.owners pages (taker e.0 shadow))
      (with_enclave w.enclaves e.0 (built image (image_of w.setup image) pages (enclave_at w.enclaves e.0)))

  by_refusal : (o : Option No) → refusal ≡ o → Kept digest_of (world_of (began_by o))
  by_refusal (Some cause) is = refused_kept cause is
  by_refusal None is = begun_so is

  -- an event that begins a `create` or a `shadow` keeps what a world keeps
  pub begin_create_kept : Kept digest_of (begin_create w hart e.0 image pages shadow).world
  unfolding create_begun
  begin_create_kept = by_refusal refusal refl
