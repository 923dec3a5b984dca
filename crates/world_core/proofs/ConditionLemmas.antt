-- What an actor's turn needs, from what every reached world keeps.
use Rattle.std.proofs.Common.{◌≡◌, ℕ, zero, suc, ◌+◌, ◌*◌, ◌^◌, ◌<◌, ◌≤◌, ◌==◌, leb, ltb, Bool, true, false, ◌&&◌, not, if◌then◌else◌, List, [], ◌∷◌, length, slice_get, unwrap_or, Option, Some, None, sum_by, refl, sym, ap, ◌∙◌, subst, arith}
use Rattle.std.specs.Prelude.{All, Contains, IsTrue, filter_map}
use Rattle.std.specs.List.{list_all}
use Rattle.std.specs.Option.{option_map_or}
use Rattle.std.proofs.lemmas.Bool.{and_parts, leb-true, ltb-true}
use Rattle.std.proofs.lemmas.Bool.Decides.{nat_tests}
use Rattle.std.proofs.lemmas.Option.{get_or_from_slice_get, slice_get_within}
use Rattle.std.proofs.lemmas.List.Sums.{get_or-le-sum_by}
use Rattle.std.proofs.lemmas.List.Elements.{All-contains, All-contains_itself, All-weaker, Contains-append_right}
use Rattle.pl_base.specs.declared.number.EncNo.{EncNo}
use Rattle.pl_base.specs.States.{is_free}
use Rattle.pl_base.specs.declared.actor.Actor.{Actor}
use Rattle.pl_base.specs.declared.actor.Actor.TheVariants as actor_is
use Rattle.pl_base.specs.Perms.{are_page_perms}
use Rattle.pl_base.specs.declared.perms.Perms.{Perms}
use Rattle.pl_base.specs.declared.state.State.{State}
use Rattle.pl_base.specs.declared.state.State.TheVariants.{On, Dying}
use Rattle.rv_hart.specs.declared.walks.Micro.{Micro}
use Rattle.rv_hart.specs.declared.walks.Walk.TheVariants.{Start}
use Rattle.mon_enclave.specs.declared.enclave.Enclave.{Enclave}
use Rattle.mon_enclave.specs.Records.{enclave_at, page_if_own, page_number_of}
use Rattle.mon_life.specs.Destroying.{held_by}
use Rattle.mon_fence.specs.Fences.{fence_of}
use Rattle.mon_host.specs.Laws.{new_mapping}
use Rattle.mon_image.specs.declared.image.Image.{Image}
use Rattle.mon_image.specs.declared.page.ImagePage.{ImagePage}
use Rattle.pl_history.specs.declared.line.Line.{Line}
use Rattle.pl_history.specs.declared.line.Line.TheVariants as line_is
use Rattle.pl_history.specs.declared.line.AttackLine.{AttackLine}
use Rattle.pl_history.specs.declared.line.AttackLine.TheVariants as attack
use Rattle.pl_history.specs.declared.setup.SetupParts.{SetupParts}
use Rattle.pl_history.specs.Monitor.{Progress, line_count, script_of}
use Rattle.pl_history.specs.Rules.{IsSetup, after_known, all_wait, attack_known, attack_length, attacks_known, counts_of, is_actor, names_known, waits_known}
use Rattle.world_attack.specs.Room.{RoomForLine}
use Rattle.world_attack.proofs.RoomLemmas.{room_for_lines}
use Rattle.world_attack.specs.Lines.{KeepIsAnswered, KeepsAnsweredFor, is_attack, line_bytes}
use Rattle.world_attack.proofs.LegalLemmas.{keeps_answered}
use Rattle.world_events.specs.Conditions.{AreInside, CanAnswer, CanAttack, CanBreak, CanDrop, CanEndDestroy, CanFork, CanGo, CanMake, CanMap, CanPut, CanReach, CanRestart}
use Rattle.world_core.proofs.TranslationConditions.{Fresh, can_acknowledge, can_destroy, can_end_unmap, can_map, can_seek_host, can_seek_next, can_unmap}
use Rattle.world_events.specs.declared.dues.Due.{Due}
use Rattle.world_events.specs.declared.dues.Due.TheVariants as due_is
use Rattle.world_core.specs.Steps.{CanDue, CanMapSoFar, CanSay, CanSayIdle}
use Rattle.world_core.specs.Turns.{CanActor, CanAttackBy, CanTurn}
use Rattle.world_events.specs.Dues.{attack_of, due_of}
use Rattle.world_machine.specs.declared.under.Under.{Under}
use Rattle.world_machine.specs.declared.under.Under.TheVariants.{Breaking, Idle, Seeking, Removing, Destroying, Putting, Running}
use Rattle.world_machine.specs.EnclavesAgree.{EnclaveStands, IsOwnOrShared}
use Rattle.world_machine.specs.FencesStand.{NumberFenceStands, IsBreaking, IsGiving, IsOfHost, RemovalStands, removals_by}
use Rattle.world_machine.specs.HostAccessing.{loads, stores}
use Rattle.world_machine.specs.LinesUnderWay.{IsForking, IsPutting, IsRunning, LineUnderWay, number_under_way}
use Rattle.world_machine.specs.Making.{image_of}
use Rattle.world_machine.specs.RecordsAgree.{LiveAgrees}
use Rattle.world_machine.specs.Standing.{Kept, state_of, written_page}
use Rattle.world_machine.specs.TranslationsAgree.{WalkingStands, walking, walking_of}
use Rattle.world_machine.specs.Worlds.{WorldData, answered_at, attacker_line, hart_line, under_at}
use Rattle.world_machine.proofs.HeldPages.{held_inside}
use Rattle.world_machine.proofs.Frames.{few_steps}
use Rattle.world_machine.proofs.MakeLines.{make_line, make_names}
use Rattle.world_machine.proofs.NumberRows.{held_within}
use Rattle.world_machine.proofs.RunMoves.{run_line, runs_number}
use Rattle.world_machine.proofs.SetupFacts.{CreateNames, each_holds, image_few, image_perms, guarded_few, line_forms, line_names}
use Rattle.world_machine.proofs.StandingFences.{no_fence}

-- ---- scripts

script_among : (scripts : List (List Line)) (hart : ℕ) (lines : List Line) → slice_get scripts hart ≡ Some lines → length lines ≤ sum_by length scripts
script_among scripts hart lines here =
    subst (λ (x : List Line). length x ≤ sum_by length scripts) (get_or_from_slice_get scripts hart lines lines here) (get_or-le-sum_by length scripts hart lines (slice_get_within scripts hart lines here))

script_few : (scripts : List (List Line)) (hart : ℕ) → length (unwrap_or (slice_get scripts hart) []) ≤ sum_by length scripts
script_few scripts hart = by (slice_get scripts hart) refl
  where
    by : (o : Option (List Line)) → slice_get scripts hart ≡ o → length (unwrap_or o []) ≤ sum_by length scripts
    by None is = omega arith
    by (Some lines) is = script_among scripts hart lines is

count_few : (setup : SetupParts) (actor : ℕ) → IsSetup setup → line_count setup actor ≤ 65536
count_few setup actor rules = by (actor == setup.harts)
  where
    all : sum_by length setup.lines + length setup.attacker ≤ 65536
    all = leb-true (sum_by length setup.lines + length setup.attacker) 65536 rules.count

    by : (b : Bool) → (if b then length setup.attacker else length (script_of setup actor)) ≤ 65536
    by true = omega (arith, all)
    by false = omega (arith, all, script_few setup.lines actor)

-- an `after` names an actor that there is
known_there : (counts : List ℕ) (me actor count : ℕ) → after_known counts me actor count ≡ true → actor < length counts
known_there counts me actor count known = by (slice_get counts actor) refl
  where
    there : option_map_or (leb count) (slice_get counts actor) false ≡ true
    there = (and_parts (not (actor == me)) (option_map_or (leb count) (slice_get counts actor) false) known).1

    by : (o : Option ℕ) → slice_get counts actor ≡ o → actor < length counts
    by (Some n) is = slice_get_within counts actor n is
    by None is = let no : false ≡ true = sym (ap (λ o. option_map_or (leb count) o false) is) ∙ there in cc

waits_there : (counts : List ℕ) (me : ℕ) (scripts : List (List Line)) (hart at actor count : ℕ) → all_wait counts me scripts ≡ true
    → slice_get (unwrap_or (slice_get scripts hart) []) at ≡ Some (line_is.After actor count) → actor < length counts
waits_there counts me [] hart at actor count all here = cc
waits_there counts me (lines ∷ scripts) zero at actor count all here =
    known_there counts me actor count (each_holds (waits_known counts me) lines at (line_is.After actor count) (and_parts (list_all (waits_known counts me) lines) (all_wait counts (me + 1) scripts) all).0 here)
waits_there counts me (lines ∷ scripts) (suc hart) at actor count all here =
    waits_there counts (me + 1) scripts hart at actor count (and_parts (list_all (waits_known counts me) lines) (all_wait counts (me + 1) scripts) all).1 here

attacks_there : (zones : ℕ) (counts : List ℕ) (me : ℕ) (earlier : List AttackLine) (total : ℕ) (lines : List AttackLine) (at actor count : ℕ) → attacks_known zones counts me earlier total lines ≡ true
    → slice_get lines at ≡ Some (attack.After actor count) → actor < length counts
attacks_there zones counts me earlier total [] at actor count all here = cc
attacks_there zones counts me earlier total (now ∷ later) zero actor count all first =
    let known = (and_parts (attack_known zones counts me earlier now) (leb (total + attack_length earlier now) 4194304 && attacks_known zones counts me (now ∷ earlier) (total + attack_length earlier now) later) all).0 in
    let same : now ≡ attack.After actor count = cc in
    known_there counts me actor count (subst (λ (line : AttackLine). attack_known zones counts me earlier line ≡ true) same known)
attacks_there zones counts me earlier total (now ∷ later) (suc i) actor count all next =
    let rest = (and_parts (attack_known zones counts me earlier now) (leb (total + attack_length earlier now) 4194304 && attacks_known zones counts me (now ∷ earlier) (total + attack_length earlier now) later) all).1 in
    attacks_there zones counts me (now ∷ earlier) (total + attack_length earlier now) later i actor count
    (and_parts (leb (total + attack_length earlier now) 4194304) (attacks_known zones counts me (now ∷ earlier) (total + attack_length earlier now) later) rest).1 next

length-counts : (scripts : List (List Line)) (attacker : List AttackLine) → length (counts_of scripts attacker) ≡ length scripts + 1
length-counts [] attacker = omega arith
length-counts (lines ∷ scripts) attacker = let rest = length-counts scripts attacker in omega arith

-- ---- answers

module _ (d : List ℕ → List ℕ) (w : WorldData) (k : Kept d w) where
  room_here : (actor : ℕ) → actor ≤ w.setup.harts → answered_at w.answered actor < line_count w.setup actor → RoomForLine w.setup (state_of w) w.history actor
  room_here actor there left =
      room_for_lines w.setup (state_of w) w.history actor k.room there
      (subst (λ (n : ℕ). n < line_count w.setup actor) (sym (ap (λ (p : Progress). p.answered) (k.stands.progress actor))) left)

  can_answer : (actor : ℕ) → actor ≤ w.setup.harts → answered_at w.answered actor < line_count w.setup actor → CanAnswer w actor
  can_answer actor there left = record {
    actors = omega (arith, k.sizes.actors, there);
    few = omega (arith, count_few w.setup actor k.sizes.rules, left);
    room = (room_here actor there left).entry;
  }

  module _ (hart : ℕ) (below : hart < w.setup.harts) where
    hart_count : line_count w.setup hart ≡ length (script_of w.setup hart)
    hart_count = let other : (hart == w.setup.harts) ≡ false = grind (arith, nat_tests) in ap (λ b. if b then length w.setup.attacker else length (script_of w.setup hart)) other

    pub can_go : (line : Line) → hart_line w hart ≡ Some line → CanGo w hart
    can_go line here = record {
      harts = omega (arith, k.sizes.harts, below);
      actors = can_answer hart (omega (arith, below))
          (let left : answered_at w.answered hart < length (script_of w.setup hart) = slice_get_within (script_of w.setup hart) (answered_at w.answered hart) line here in omega (arith, hart_count, left));
    }

    pub number_there : (line : Line) (e : ℕ) → hart_line w hart ≡ Some line → (names_known w.setup.enclaves (length w.setup.images) line ≡ true → e < w.setup.enclaves) → e < length w.enclaves
    number_there line e here names =
        let few : e < w.setup.enclaves = names (line_names w.setup hart (answered_at w.answered hart) line k.sizes.rules here) in
        let size : length w.enclaves ≡ w.setup.enclaves = k.sizes.numbers in
        omega arith

    fork_there : (shadow e : EncNo) (pages : List ℕ) → hart_line w hart ≡ Some (line_is.Fork shadow e pages) → e.0 < length w.enclaves
    fork_there shadow e pages here = number_there (line_is.Fork shadow e pages) e.0 here
        (λ is. ltb-true e.0 w.setup.enclaves (and_parts (ltb shadow.0 w.setup.enclaves) (ltb e.0 w.setup.enclaves) is).1)

    spares_inside : (e : ℕ) → e < length w.enclaves → All (λ page. page < 64 * w.ctl.zones) (enclave_at w.enclaves e).spares
    spares_inside e there =
        let r : Enclave = enclave_at w.enclaves e in
        All-weaker (Contains r.spares) (λ page. page < 64 * w.ctl.zones)
        (λ page listed. All-contains (λ p. p < 64 * w.ctl.zones) (held_by w.enclaves e) page (held_inside d w k e there)
        (Contains-append_right (filter_map page_if_own r.pages) r.spares page listed))
        r.spares (All-contains_itself r.spares)

    -- ---- numbers that are made

    can_make : (shadow : Bool) (e : EncNo) (image : ℕ) (pages : List ℕ) → hart_line w hart ≡ Some (make_line shadow e image pages) → CanMake w hart e.0 image
    can_make shadow e image pages here =
        let names : CreateNames w.setup e.0 image = make_names e image pages w.setup hart (answered_at w.answered hart) shadow k.sizes.rules here in
        record {
          harts = can_go (make_line shadow e image pages) here;
          number = omega (arith, names.there, k.sizes.numbers);
          image_there = slice_get_within w.setup.images image names.image names.image_is;
          scripts = omega (arith, k.sizes.rules.scripts, below);
        }

    can_fork : (shadow e : EncNo) (pages : List ℕ) → hart_line w hart ≡ Some (line_is.Fork shadow e pages) → CanFork w hart shadow.0 e.0
    can_fork shadow e pages here = record {
      harts = can_go (line_is.Fork shadow e pages) here;
      shadow = number_there (line_is.Fork shadow e pages) shadow.0 here
          (λ is. ltb-true shadow.0 w.setup.enclaves (and_parts (ltb shadow.0 w.setup.enclaves) (ltb e.0 w.setup.enclaves) is).0);
      number = fork_there shadow e pages here;
      scripts = omega (arith, k.sizes.rules.scripts, below);
    }

    -- ---- numbers that aren't free

    module _ (e : ℕ) (used : is_free (enclave_at w.enclaves e).state ≡ false) where
      abbrev r : Enclave
      r = enclave_at w.enclaves e

      stood : EnclaveStands w.setup (written_page w) w.owners e r ((state_of w).number e)
      stood = k.stands.enclaves e used

      pages_inside : AreInside w.ctl.zones r.pages
      pages_inside = All-weaker (IsOwnOrShared w.owners e r.parent) (λ kind. page_number_of kind < 64 * w.ctl.zones) (λ kind held. held_within d w k e r.parent kind held) r.pages stood.held.owned

      image_inside : r.image < length w.setup.images
      image_inside = slice_get_within w.setup.images r.image stood.image stood.image_is

      image_stands : image_of w.setup r.image ≡ stood.image
      image_stands = ap (λ (o : Option Image). unwrap_or o (record { entry = 0; pages = [] })) stood.image_is

      images_few : length (image_of w.setup r.image).pages ≤ 256
      images_few = subst (λ (i : Image). length i.pages ≤ 256) (sym image_stands) (image_few w.setup r.image stood.image k.sizes.rules stood.image_is)

      perms_stand : All (λ (page : ImagePage). IsTrue (are_page_perms page.perms)) (image_of w.setup r.image).pages
      perms_stand = subst (λ (i : Image). All (λ (page : ImagePage). IsTrue (are_page_perms page.perms)) i.pages) (sym image_stands)
          (image_perms w.setup r.image stood.image k.sizes.rules stood.image_is)

    -- the tables of all numbers stand in guarded pages
    tables_inside : 2 + w.setup.tables + 3 * length w.enclaves ≤ 64 * w.ctl.zones
    tables_inside = omega (arith, guarded_few w.setup k.sizes.rules, k.sizes.numbers, k.sizes.zones)

    can_put : (e : EncNo) (image : ℕ) (shadow : Bool) (first done : ℕ) → CanMake w hart e.0 image
        → IsPutting w.setup (written_page w) (enclave_at w.enclaves e.0) e.0 image shadow first done → CanPut w hart e.0 image shadow done
    can_put e image shadow first done make putting =
        let used : is_free (enclave_at w.enclaves e.0).state ≡ false = ap is_free putting.state in
        let st = stood e.0 used in
        let same : image_of w.setup image ≡ image_of w.setup (enclave_at w.enclaves e.0).image = ap (image_of w.setup) (sym putting.image_is) in
        record {
          make = make;
          building = putting.state;
          count = st.held.count ∙ ap (λ (i : Image). length i.pages) (sym (same ∙ image_stands e.0 used));
          few = putting.few;
          small = omega (arith, few_steps shadow (length (image_of w.setup image).pages) done putting.few, ap (λ (i : Image). length i.pages) same, images_few e.0 used);
          inside = pages_inside e.0 used;
          guarded = tables_inside;
          perms = subst (λ (i : Image). All (λ (page : ImagePage). IsTrue (are_page_perms page.perms)) i.pages) (sym same) (perms_stand e.0 used);
        }

    can_put_fork : (shadow e : EncNo) (pages : List ℕ) (done : ℕ) → hart_line w hart ≡ Some (line_is.Fork shadow e pages)
        → IsForking w.setup (written_page w) (enclave_at w.enclaves e.0) e.0 done → CanPut w hart e.0 (enclave_at w.enclaves e.0).image false done
    can_put_fork shadow e pages done here forking = can_put e (enclave_at w.enclaves e.0).image false _ done (record {
      harts = can_go (line_is.Fork shadow e pages) here;
      number = fork_there shadow e pages here;
      image_there = image_inside e.0 (ap is_free forking.putting.state);
      scripts = omega (arith, k.sizes.rules.scripts, below);
    }) forking.putting

    -- a number that is on is live
    on_live : (e : ℕ) → (enclave_at w.enclaves e).state ≡ On → ((state_of w).number e).live ≡ true
    on_live e on = subst (λ (state : State). LiveAgrees state ((state_of w).number e).live) on (k.stands.records e).live

    -- where no page serves an access of an enclave that is on
    can_break : (line : Line) (e : EncNo) (budget count : ℕ) → hart_line w hart ≡ Some line → (names_known w.setup.enclaves (length w.setup.images) line ≡ true → e.0 < w.setup.enclaves)
        → (enclave_at w.enclaves e.0).state ≡ On → removals_by (state_of w).removals hart ≡ [] → IsOfHost (fence_of w.fences hart)
        → CanBreak w (record { hart = hart; e = e.0; budget = budget; count = count })
    can_break line e budget count here names on none of_host = record {
      leave = record { harts = can_go line here; number = number_there line e.0 here names; on = on };
      tlbs = omega (arith, k.stands.translations.harts, below);
      fences = omega (arith, k.stands.translations.fences_stand.size, below);
      none = no_fence w.setup.harts w.fences (state_of w).removals k.stands.translations.fences_stand hart below of_host none;
      image_there = image_inside e.0 (ap is_free on);
      inside = pages_inside e.0 (ap is_free on);
      spares = spares_inside e.0 (number_there line e.0 here names);
      guarded = tables_inside;
      perms = perms_stand e.0 (ap is_free on);
    }

    -- the hart's line runs a number, whose instruction is so far
    module _ (first : Bool) (e : EncNo) (budget count : ℕ) (here : hart_line w hart ≡ Some (run_line first e budget)) where
      run_names : names_known w.setup.enclaves (length w.setup.images) (run_line first e budget) ≡ true → e.0 < w.setup.enclaves
      run_names = by first
        where
          by : (b : Bool) → names_known w.setup.enclaves (length w.setup.images) (run_line b e budget) ≡ true → e.0 < w.setup.enclaves
          by true is = ltb-true e.0 w.setup.enclaves is
          by false is = ltb-true e.0 w.setup.enclaves is

      can_reach : (micro : Micro) → under_at w.under hart ≡ Running micro count → ((state_of w).number e.0).retired ≤ 2 ^ 48
          → IsRunning w.setup (written_page w) (enclave_at w.enclaves e.0) ((state_of w).number e.0) hart budget count micro
          → WalkingStands w.ctl (Fresh d w k hart) (walking_of w.setup.tables e.0 (enclave_at w.enclaves e.0) micro)
          → removals_by (state_of w).removals hart ≡ [] → IsOfHost (fence_of w.fences hart)
          → CanReach w (record { hart = hart; e = e.0; budget = budget; count = count }) micro
      can_reach micro so_far bound running walks none of_host = record {
        runs = record {
          leave = record { harts = can_go (run_line first e budget) here; number = number_there (run_line first e budget) e.0 here run_names; on = running.state };
          within = running.within;
          retired = omega (arith, bound, running.retired);
        };
        breaks = can_break (run_line first e budget) e budget count here run_names running.state none of_host;
        seeks = can_seek_next d w k hart below e.0 (on_live e.0 running.state)
            (ap (λ l. number_under_way l (under_at w.under hart)) here ∙ ap (number_under_way (Some (run_line first e budget))) so_far ∙ runs_number first e budget count micro)
            budget count micro walks;
      }

    -- a page was broken
    can_restart : (e : EncNo) (index : ℕ) → IsBreaking (fence_of w.fences hart) e.0 index → CanRestart w hart
    can_restart e index broke = record {
      harts = omega (arith, k.sizes.harts, below);
      fences = omega (arith, k.stands.translations.fences_stand.size, below);
      fence = broke.posted;
      fence_is = broke.is;
    }

    -- each page that a number holds has an owner
    held_owned : (e : ℕ) → e < length w.enclaves → All (λ page. page < length w.owners) (held_by w.enclaves e)
    held_owned e there = λ i none h. omega (arith, held_inside d w k e there i none h, k.sizes.pages, k.sizes.zones)

    -- the pages that a dying number holds are pages that there are
    can_end_destroy : (e : EncNo) → hart_line w hart ≡ Some (line_is.Destroy e) → (enclave_at w.enclaves e.0).state ≡ Dying
        → IsGiving (fence_of w.fences hart) e.0 → CanEndDestroy w hart e.0
    can_end_destroy e here dying giving = record {
      harts = can_go (line_is.Destroy e) here;
      number = number_there (line_is.Destroy e) e.0 here (λ is. ltb-true e.0 w.setup.enclaves is);
      fences = omega (arith, k.stands.translations.fences_stand.size, below);
      fence = giving.posted;
      fence_is = giving.is;
      inside = held_inside d w k e.0 (number_there (line_is.Destroy e) e.0 here (λ is. ltb-true e.0 w.setup.enclaves is));
      owned = held_owned e.0 (number_there (line_is.Destroy e) e.0 here (λ is. ltb-true e.0 w.setup.enclaves is));
    }

    can_drop : (shadow : EncNo) → hart_line w hart ≡ Some (line_is.Drop shadow) → CanDrop w hart shadow.0
    can_drop shadow here = let there = number_there (line_is.Drop shadow) shadow.0 here (λ is. ltb-true shadow.0 w.setup.enclaves is) in record {
      harts = can_go (line_is.Drop shadow) here;
      number = there;
      inside = λ sealed. held_inside d w k shadow.0 there;
      owned = λ sealed. held_owned shadow.0 there;
    }

    actors_there : (actor count : ℕ) → hart_line w hart ≡ Some (line_is.After actor count) → actor < length w.answered
    actors_there actor count here =
        let there = waits_there (counts_of w.setup.lines w.setup.attacker) 0 w.setup.lines hart (answered_at w.answered hart) actor count k.sizes.rules.waits here in
        omega (arith, there, length-counts w.setup.lines w.setup.attacker, k.sizes.rules.scripts, k.sizes.actors)

    -- a line that is answered at once needs nothing once it has begun, nor does `map`
    idle_only : (due : Due) (under : Under) → CanSay w hart due → CanSayIdle w hart due under
    idle_only due Idle can = can
    idle_only due (Seeking walk) can = tt
    idle_only due (Removing page) can = tt
    idle_only due Destroying can = tt
    idle_only due (Putting done) can = tt
    idle_only due (Running micro count) can = tt
    idle_only due (Breaking count index) can = tt

    map_only : (page : ℕ) (perms : Perms) (under : Under) → CanMap w hart page perms → CanMapSoFar w hart page perms under
    map_only page perms Idle can = can
    map_only page perms (Seeking walk) can = tt
    map_only page perms (Removing now) can = tt
    map_only page perms Destroying can = tt
    map_only page perms (Putting done) can = tt
    map_only page perms (Running micro count) can = tt
    map_only page perms (Breaking count index) can = tt

    -- what the hart's line needs, so far
    module _ (bound : (e : ℕ) → ((state_of w).number e).retired ≤ 2 ^ 48) where
      can_due : (line : Option Line) (under : Under) → hart_line w hart ≡ line → under_at w.under hart ≡ under
          → LineUnderWay w.setup (written_page w) (enclave_at w.enclaves) (state_of w).number hart line under
          → WalkingStands w.ctl (Fresh d w k hart) (walking w.setup.tables (enclave_at w.enclaves) line under) → RemovalStands line under (removals_by (state_of w).removals hart)
          → NumberFenceStands line under (fence_of w.fences hart) → CanDue w hart (due_of line) under
      can_due None under here at so_far walks removal giving = idle_only due_is.Nothing under tt
      can_due (Some (line_is.Load va)) Idle here at so_far walks removal giving = record { harts = can_go (line_is.Load va) here; seeks = can_seek_host d w k hart below va loads Start tt }
      can_due (Some (line_is.Load va)) (Seeking walk) here at so_far walks removal giving = (record { harts = can_go (line_is.Load va) here; seeks = can_seek_host d w k hart below va loads walk walks }, so_far)
      can_due (Some (line_is.Load va)) (Removing page) here at so_far walks removal giving = tt
      can_due (Some (line_is.Load va)) Destroying here at so_far walks removal giving = tt
      can_due (Some (line_is.Load va)) (Putting done) here at so_far walks removal giving = tt
      can_due (Some (line_is.Load va)) (Running micro count) here at so_far walks removal giving = tt
      can_due (Some (line_is.Load va)) (Breaking count index) here at so_far walks removal giving = tt
      can_due (Some (line_is.Store va word)) Idle here at so_far walks removal giving = record { harts = can_go (line_is.Store va word) here; seeks = can_seek_host d w k hart below va (stores word) Start tt }
      can_due (Some (line_is.Store va word)) (Seeking walk) here at so_far walks removal giving = (record { harts = can_go (line_is.Store va word) here; seeks = can_seek_host d w k hart below va (stores word) walk walks }, so_far)
      can_due (Some (line_is.Store va word)) (Removing page) here at so_far walks removal giving = tt
      can_due (Some (line_is.Store va word)) Destroying here at so_far walks removal giving = tt
      can_due (Some (line_is.Store va word)) (Putting done) here at so_far walks removal giving = tt
      can_due (Some (line_is.Store va word)) (Running micro count) here at so_far walks removal giving = tt
      can_due (Some (line_is.Store va word)) (Breaking count index) here at so_far walks removal giving = tt
      can_due (Some (line_is.Map va page perms)) under here at so_far walks removal giving = map_only page perms under
          (can_map d w k hart below (can_go (line_is.Map va page perms) here) page perms (line_forms w.setup hart (answered_at w.answered hart) (line_is.Map va page perms) k.sizes.rules here))
      can_due (Some (line_is.Unmap va)) Idle here at so_far walks removal giving = can_unmap d w k hart below (can_go (line_is.Unmap va) here) removal giving
      can_due (Some (line_is.Unmap va)) (Seeking walk) here at so_far walks removal giving = tt
      can_due (Some (line_is.Unmap va)) (Removing page) here at so_far walks removal giving = can_end_unmap d w k hart below (can_go (line_is.Unmap va) here) (new_mapping va page removal.0) removal.1
      can_due (Some (line_is.Unmap va)) Destroying here at so_far walks removal giving = tt
      can_due (Some (line_is.Unmap va)) (Putting done) here at so_far walks removal giving = tt
      can_due (Some (line_is.Unmap va)) (Running micro count) here at so_far walks removal giving = tt
      can_due (Some (line_is.Unmap va)) (Breaking count index) here at so_far walks removal giving = tt
      can_due (Some (line_is.Create e image pages)) Idle here at so_far walks removal giving = can_make false e image pages here
      can_due (Some (line_is.Create e image pages)) (Seeking walk) here at so_far walks removal giving = tt
      can_due (Some (line_is.Create e image pages)) (Removing page) here at so_far walks removal giving = tt
      can_due (Some (line_is.Create e image pages)) Destroying here at so_far walks removal giving = tt
      can_due (Some (line_is.Create e image pages)) (Putting done) here at so_far walks removal giving = can_put e image false 0 done (can_make false e image pages here) so_far.putting
      can_due (Some (line_is.Create e image pages)) (Running micro count) here at so_far walks removal giving = tt
      can_due (Some (line_is.Create e image pages)) (Breaking count index) here at so_far walks removal giving = tt
      can_due (Some (line_is.Shadow e image pages)) Idle here at so_far walks removal giving = can_make true e image pages here
      can_due (Some (line_is.Shadow e image pages)) (Seeking walk) here at so_far walks removal giving = tt
      can_due (Some (line_is.Shadow e image pages)) (Removing page) here at so_far walks removal giving = tt
      can_due (Some (line_is.Shadow e image pages)) Destroying here at so_far walks removal giving = tt
      can_due (Some (line_is.Shadow e image pages)) (Putting done) here at so_far walks removal giving = can_put e image true 0 done (can_make true e image pages here) so_far.putting
      can_due (Some (line_is.Shadow e image pages)) (Running micro count) here at so_far walks removal giving = tt
      can_due (Some (line_is.Shadow e image pages)) (Breaking count index) here at so_far walks removal giving = tt
      can_due (Some (line_is.Fork shadow e pages)) Idle here at so_far walks removal giving = can_fork shadow e pages here
      can_due (Some (line_is.Fork shadow e pages)) (Seeking walk) here at so_far walks removal giving = tt
      can_due (Some (line_is.Fork shadow e pages)) (Removing page) here at so_far walks removal giving = tt
      can_due (Some (line_is.Fork shadow e pages)) Destroying here at so_far walks removal giving = tt
      can_due (Some (line_is.Fork shadow e pages)) (Putting done) here at so_far walks removal giving = can_put_fork shadow e pages done here so_far
      can_due (Some (line_is.Fork shadow e pages)) (Running micro count) here at so_far walks removal giving = tt
      can_due (Some (line_is.Fork shadow e pages)) (Breaking count index) here at so_far walks removal giving = tt
      can_due (Some (line_is.Run e budget)) Idle here at so_far walks removal giving = (can_go (line_is.Run e budget) here, number_there (line_is.Run e budget) e.0 here (λ is. ltb-true e.0 w.setup.enclaves is))
      can_due (Some (line_is.Run e budget)) (Seeking walk) here at so_far walks removal giving = tt
      can_due (Some (line_is.Run e budget)) (Removing page) here at so_far walks removal giving = tt
      can_due (Some (line_is.Run e budget)) Destroying here at so_far walks removal giving = tt
      can_due (Some (line_is.Run e budget)) (Putting done) here at so_far walks removal giving = tt
      can_due (Some (line_is.Run e budget)) (Running micro count) here at so_far walks removal giving = can_reach true e budget count here micro at (bound e.0) so_far walks removal giving
      can_due (Some (line_is.Run e budget)) (Breaking count index) here at so_far walks removal giving = can_restart e index giving
      can_due (Some (line_is.Resume e budget)) Idle here at so_far walks removal giving = (can_go (line_is.Resume e budget) here, number_there (line_is.Resume e budget) e.0 here (λ is. ltb-true e.0 w.setup.enclaves is))
      can_due (Some (line_is.Resume e budget)) (Seeking walk) here at so_far walks removal giving = tt
      can_due (Some (line_is.Resume e budget)) (Removing page) here at so_far walks removal giving = tt
      can_due (Some (line_is.Resume e budget)) Destroying here at so_far walks removal giving = tt
      can_due (Some (line_is.Resume e budget)) (Putting done) here at so_far walks removal giving = tt
      can_due (Some (line_is.Resume e budget)) (Running micro count) here at so_far walks removal giving = can_reach false e budget count here micro at (bound e.0) so_far walks removal giving
      can_due (Some (line_is.Resume e budget)) (Breaking count index) here at so_far walks removal giving = can_restart e index giving
      can_due (Some (line_is.Destroy e)) Idle here at so_far walks removal giving =
          can_destroy d w k hart below e.0 (can_go (line_is.Destroy e) here) (number_there (line_is.Destroy e) e.0 here (λ is. ltb-true e.0 w.setup.enclaves is)) removal giving
      can_due (Some (line_is.Destroy e)) (Seeking walk) here at so_far walks removal giving = tt
      can_due (Some (line_is.Destroy e)) (Removing page) here at so_far walks removal giving = tt
      can_due (Some (line_is.Destroy e)) Destroying here at so_far walks removal giving = can_end_destroy e here so_far giving
      can_due (Some (line_is.Destroy e)) (Putting done) here at so_far walks removal giving = tt
      can_due (Some (line_is.Destroy e)) (Running micro count) here at so_far walks removal giving = tt
      can_due (Some (line_is.Destroy e)) (Breaking count index) here at so_far walks removal giving = tt
      can_due (Some (line_is.Send e word)) under here at so_far walks removal giving =
          idle_only (due_is.Send e word) under (can_go (line_is.Send e word) here, number_there (line_is.Send e word) e.0 here (λ is. ltb-true e.0 w.setup.enclaves is))
      can_due (Some (line_is.Take e)) under here at so_far walks removal giving =
          idle_only (due_is.Take e) under (can_go (line_is.Take e) here, number_there (line_is.Take e) e.0 here (λ is. ltb-true e.0 w.setup.enclaves is))
      can_due (Some (line_is.Grant e page)) under here at so_far walks removal giving =
          idle_only (due_is.Grant e page) under (can_go (line_is.Grant e page) here, number_there (line_is.Grant e page) e.0 here (λ is. ltb-true e.0 w.setup.enclaves is))
      can_due (Some (line_is.Drop shadow)) under here at so_far walks removal giving = idle_only (due_is.Drop shadow) under (can_drop shadow here)
      can_due (Some (line_is.After actor count)) under here at so_far walks removal giving = idle_only (due_is.After actor count) under (can_go (line_is.After actor count) here, actors_there actor count here)

      pub can_turn : CanTurn w hart
      can_turn = record {
        actors = omega (arith, k.sizes.actors, below);
        harts = omega (arith, k.sizes.harts, below);
        scripts = omega (arith, k.sizes.rules.scripts, below);
        due = can_due (hart_line w hart) (under_at w.under hart) refl refl (k.stands.lines hart) (k.stands.translations.fresh.walks hart) (k.stands.translations.removals hart) (k.stands.translations.giving hart);
      }

  -- ---- the attacker

  attacker_count : line_count w.setup w.setup.harts ≡ length w.setup.attacker
  attacker_count = let same : (w.setup.harts == w.setup.harts) ≡ true = grind (arith, nat_tests) in ap (λ b. if b then length w.setup.attacker else length (script_of w.setup w.setup.harts)) same

  left_to : (line : AttackLine) → attacker_line w ≡ Some line → answered_at w.answered w.setup.harts < line_count w.setup w.setup.harts
  left_to line here = let left = slice_get_within w.setup.attacker (answered_at w.answered w.setup.harts) line here in omega (arith, left, attacker_count)

  answers_attacker : (line : AttackLine) → attacker_line w ≡ Some line → CanAnswer w w.setup.harts
  answers_attacker line here = can_answer w.setup.harts (omega arith) (left_to line here)

  keeps_here : KeepsAnsweredFor w.setup w.history (answered_at w.answered w.setup.harts)
  keeps_here name here =
      subst (λ (at : ℕ). KeepIsAnswered w.setup w.history at name) (ap (λ (p : Progress). p.answered) (k.stands.progress w.setup.harts)) (keeps_answered w.setup w.history name k.legal)

  can_attack : (line : AttackLine) → attacker_line w ≡ Some line → is_attack (Some line) ≡ true → CanAttack w
  can_attack line here attacks = record {
    actors = answers_attacker line here;
    line = ap is_attack here ∙ attacks;
    zones = k.sizes.zones;
    kept = keeps_here;
    bytes =
        subst (λ (at : ℕ). line_bytes w.setup at ≤ w.history.byte_room) (ap (λ (p : Progress). p.answered) (k.stands.progress w.setup.harts))
        ((room_here w.setup.harts (omega arith) (left_to line here)).bytes refl);
  }

  can_attack_by : (line : Option AttackLine) → attacker_line w ≡ line → CanAttackBy w (attack_of line)
  can_attack_by None here = tt
  can_attack_by (Some (attack.After actor count)) here =
      let there = attacks_there w.setup.zones (counts_of w.setup.lines w.setup.attacker) w.setup.harts [] 0 w.setup.attacker (answered_at w.answered w.setup.harts) actor count k.sizes.rules.attacks here in
      (answers_attacker (attack.After actor count) here, omega (arith, there, length-counts w.setup.lines w.setup.attacker, k.sizes.rules.scripts, k.sizes.actors))
  can_attack_by (Some (attack.Write pa bytes)) here = can_attack (attack.Write pa bytes) here refl
  can_attack_by (Some (attack.Keep name pa len)) here = can_attack (attack.Keep name pa len) here refl
  can_attack_by (Some (attack.Back name)) here = can_attack (attack.Back name) here refl

  -- what the turn of an actor needs that is there
  pub can_actor : ((e : ℕ) → ((state_of w).number e).retired ≤ 2 ^ 48) → (actor : Actor) → IsTrue (is_actor w.setup.harts actor) → CanActor w actor
  can_actor bound (actor_is.Hart h) there = can_turn h.0 (ltb-true h.0 w.setup.harts there) bound
  can_actor bound (actor_is.Ack h) there = can_acknowledge d w k h.0 (ltb-true h.0 w.setup.harts there)
  can_actor bound actor_is.Attacker there = record {
    actors = omega (arith, k.sizes.actors);
    due = can_attack_by (attacker_line w) refl;
  }
