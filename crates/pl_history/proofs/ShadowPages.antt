-- What each enclave number is made of in every state of a legal history.
use Rattle.std.proofs.Common.{◌≡◌, ◌≢◌, ℕ, ◌+◌, ◌<◌, ◌≤◌, ◌==◌, ◌&&◌, ◌⊎◌, Bool, true, false, not, if◌then◌else◌, List, [], ◌∷◌, ◌++◌, length, Option, Some, None, option_map, refl, sym, ap, ◌∙◌, subst, inl, inr, arith, slice_get, Contains}
use Rattle.std.specs.Prelude.{nat_lt, slice_index_or}
use Rattle.std.specs.List.{range_with_len}
use Rattle.std.specs.Option.{option_map_or}
use Rattle.std.proofs.lemmas.Bool.{and_parts, eq-eqb, eqb-false, eqb-true, false≢true, ltb-false, ltb-true}
use Rattle.std.proofs.lemmas.Option.{get_or_from_slice_get, slice_get_cases, slice_get_within}
use Rattle.std.proofs.lemmas.List.Elements.{Contains-append_left, Contains-append_right, Contains-get_or}
use Rattle.std.proofs.lemmas.List.FromFn.{get_or-range_with_len, length-range_with_len}
use Rattle.pl_base.specs.Pages.{first_twice, is_among, most_spares}
use Rattle.pl_base.specs.Refusals.{first_refusal, refuse}
use Rattle.pl_base.specs.States.{idle_refusal, is_absent, is_free, is_fresh, is_paused, is_sealed, is_under_way, is_wordless, run_refusal, state_left}
use Rattle.pl_base.specs.declared.refusal.No.{No}
use Rattle.pl_base.specs.declared.refusal.No.TheVariants as refused
use Rattle.pl_base.specs.declared.state.State.{State}
use Rattle.pl_base.specs.declared.state.State.TheVariants as state_is
use Rattle.pl_base.specs.declared.state.Why.{Why}
use Rattle.mon_image.specs.declared.image.Image.{Image}
use Rattle.mon_tables.specs.Space.{mapping_at, Mapping}
use Rattle.pl_base.specs.Address.{vpn_of}
use Rattle.pl_base.specs.declared.address.Va.{Va}
use Rattle.pl_history.specs.declared.answer.Answer.{Answer}
use Rattle.pl_history.specs.declared.answer.Answer.TheVariants as answer_is
use Rattle.pl_history.specs.declared.answer.Entry.{Entry}
use Rattle.pl_history.specs.declared.line.AttackLine.{AttackLine}
use Rattle.pl_history.specs.declared.line.AttackLine.TheVariants as attack
use Rattle.pl_history.specs.declared.line.Line.{Line}
use Rattle.pl_history.specs.declared.line.Line.TheVariants as line_is
use Rattle.pl_history.specs.declared.setup.SetupParts.{SetupParts}
use Rattle.pl_history.specs.Answering.{AtOnce, change_by, progressed}
use Rattle.pl_history.specs.Attacking.{Placed, written}
use Rattle.pl_history.specs.GivingBack.{drop_refusal, first_child, is_parent}
use Rattle.pl_history.specs.History.{named_part}
use Rattle.pl_history.specs.HostAccess.{mapping_used, store_to}
use Rattle.pl_history.specs.HostMaps.{removing_of}
use Rattle.rv_alone.specs.Alone.{most_words}
use Rattle.pl_history.specs.Legal.{ActorLine, AllAllowed, Allowed, AllowedAnswer, AllowedLine, after, after_line, attack_changes, changes, line_at, of_attacker, of_hart, state_after, Legal, legal_state}
use Rattle.pl_history.specs.Making.{create_refusal, first_barred, first_mapped, first_not_host, fork_refusal, grant_refusal, image_page_count, page_refusals}
use Rattle.pl_history.specs.Monitor.{Monitor, Number, free_number, freed, is_host, number, opening, pages_taken, removed_at}
use Rattle.pl_history.specs.OwnedPages.{PagesApart, PagesStand}
use Rattle.pl_history.specs.Rules.{IsSetup, names_known}
use Rattle.pl_history.specs.ShadowPages.{LegalShadows, NumberStands, ShadowsStand}
use Rattle.pl_history.specs.Words.{send_refusal, sent_out, take_refusal}
use Rattle.pl_history.proofs.Elements.{among, first_of, none_passes}
use Rattle.pl_history.proofs.HistoryLemmas.{line_holds, unchanged_holds}
use Rattle.pl_history.proofs.LinesUnderWay.{IsStep, IsUnder, IsWay, LinesStand, number_of_line, step_stands, way_under}
use Rattle.pl_history.proofs.OwnedPages as owned
use Rattle.pl_history.proofs.ProgressLemmas.{line_moves, moved_one}
use Rattle.pl_history.proofs.Refusals.{first_none, named_none, refuse_none}
use Rattle.pl_history.proofs.ScriptLines.{actor_line_names}
use Rattle.pl_history.proofs.ShadowLemmas.{IsSameShadow, building_stands, fork_of, forking_stands, freed_stands, granted_stands, left_worded, may_enter, no_forks, ready_state, ready_stands, refuse_false, sealed_state, set_stands, state_stands, wordless_parts}

-- ---- what a line that isn't refused tells

after_pages : (setup : SetupParts) (s : Monitor) (pages : List ℕ) (later : List (Option No)) → first_refusal (page_refusals setup s pages ++ later) ≡ None
    → first_refusal later ≡ None
after_pages setup s pages later is =
    let one = first_none (option_map refused.NotYours (first_not_host s pages)) (option_map refused.StillMapped (first_mapped s pages) ∷ option_map refused.Barred (first_barred setup pages) ∷ later) is in
    let two = first_none (option_map refused.StillMapped (first_mapped s pages)) (option_map refused.Barred (first_barred setup pages) ∷ later) one.1 in
    (first_none (option_map refused.Barred (first_barred setup pages)) later two.1).1

-- `create` and `shadow`
record MayMake (setup : SetupParts) (s : Monitor) (e image : ℕ) (pages : List ℕ) : Type 0 where
  free : is_free (s.number e).state ≡ true
  count : length pages ≡ image_page_count setup image
  once : first_twice pages ≡ None

may_make : (setup : SetupParts) (s : Monitor) (e image : ℕ) (pages : List ℕ) → create_refusal setup s e image pages ≡ None → MayMake setup s e image pages
may_make setup s e image pages is =
    let last : List (Option No) = page_refusals setup s pages in
    let twice : Option No = option_map refused.Twice (first_twice pages) in
    let count : Option No = refuse (not (length pages == image_page_count setup image)) refused.Count in
    let first = first_none (refuse (not (is_free (s.number e).state)) refused.Exists) (count ∷ twice ∷ last) is in
    let second = first_none count (twice ∷ last) first.1 in
    let third = first_none twice last second.1 in
    record {
      free = refuse_none (is_free (s.number e).state) refused.Exists first.0;
      count = eqb-true (length pages) (image_page_count setup image) (refuse_none (length pages == image_page_count setup image) refused.Count second.0);
      once = named_none refused.Twice (first_twice pages) third.0;
    }

record MayFork (s : Monitor) (shadow e : ℕ) (pages : List ℕ) : Type 0 where
  sealed : (s.number shadow).state ≡ state_is.Sealed
  free : is_free (s.number e).state ≡ true
  once : first_twice pages ≡ None
  few : length pages ≤ most_spares

may_fork : (setup : SetupParts) (s : Monitor) (shadow e : ℕ) (pages : List ℕ) → fork_refusal setup s shadow e pages ≡ None → MayFork s shadow e pages
may_fork setup s shadow e pages is =
    let many : Option No = refuse (nat_lt most_spares (length pages)) refused.TooMany in
    let last : List (Option No) = page_refusals setup s pages ++ many ∷ [] in
    let twice : Option No = option_map refused.Twice (first_twice pages) in
    let exists : Option No = refuse (not (is_free (s.number e).state)) refused.Exists in
    let first = first_none (refuse (not (is_sealed (s.number shadow).state)) refused.NoEnclave) (exists ∷ twice ∷ last) is in
    let second = first_none exists (twice ∷ last) first.1 in
    let third = first_none twice last second.1 in
    let final = first_none many [] (after_pages setup s pages (many ∷ []) third.1) in
    record {
      sealed = sealed_state (s.number shadow).state (refuse_none (is_sealed (s.number shadow).state) refused.NoEnclave first.0);
      free = refuse_none (is_free (s.number e).state) refused.Exists second.0;
      once = named_none refused.Twice (first_twice pages) third.0;
      few = ltb-false most_spares (length pages) (refuse_false (nat_lt most_spares (length pages)) refused.TooMany final.0);
    }

-- a number that may be given a page, or be given back
may_give : (state : State) → idle_refusal state ≡ None → (is_wordless state ≡ false) × (is_under_way state ≡ false)
may_give state is =
    let first = first_none (refuse (is_absent state) refused.NoEnclave) (refuse (is_under_way state) (refused.WrongState state) ∷ []) is in
    let absent = refuse_false (is_absent state) refused.NoEnclave first.0 in
    let under = refuse_false (is_under_way state) (refused.WrongState state) (first_none (refuse (is_under_way state) (refused.WrongState state)) [] first.1).0 in
    (wordless_parts state absent under, under)

few_spares : (setup : SetupParts) (s : Monitor) (e page : ℕ) → grant_refusal setup s e page ≡ None → length (s.number e).spares + 1 ≤ most_spares
few_spares setup s e page is =
    let last : List (Option No) = refuse (nat_lt most_spares (length (s.number e).spares + 1)) refused.TooMany ∷ [] in
    let first = first_none (idle_refusal (s.number e).state) (page_refusals setup s (page ∷ []) ++ last) is in
    let final = first_none (refuse (nat_lt most_spares (length (s.number e).spares + 1)) refused.TooMany) [] (after_pages setup s (page ∷ []) last first.1) in
    ltb-false most_spares (length (s.number e).spares + 1) (refuse_false (nat_lt most_spares (length (s.number e).spares + 1)) refused.TooMany final.0)

runs_by : (may_run : State → Bool) (state : State) → run_refusal may_run state ≡ None → may_run state ≡ true
runs_by may_run state is =
    let first = first_none (refuse (is_absent state) refused.NoEnclave) (refuse (not (may_run state)) (refused.WrongState state) ∷ []) is in
    refuse_none (may_run state) (refused.WrongState state) (first_none (refuse (not (may_run state)) (refused.WrongState state)) [] first.1).0

only_word : (refusal : Option No) (gives : Option Answer) (begun : Bool) (word : ℕ) → AtOnce refusal gives begun (answer_is.Word word) → refusal ≡ None
only_word refusal gives true word allowed = absurd allowed
only_word refusal gives false word allowed = allowed.0

-- a shadow that is dropped has no forks
pub dropped_childless : (setup : SetupParts) (s : Monitor) (e : ℕ) → ShadowsStand setup s.number → drop_refusal setup s e ≡ None → (fork : ℕ) → (s.number fork).parent ≡ Some e → ⊥
dropped_childless setup s e k is fork forked = from (nat_lt fork setup.enclaves) refl
  where
    none_found : first_child setup s e ≡ None
    none_found =
        let first = first_none (refuse (not (is_sealed (s.number e).state)) refused.NoEnclave) (option_map (λ child. refused.InUse (record { 0 = child })) (first_child setup s e) ∷ []) is in
        named_none (λ child. refused.InUse (record { 0 = child })) (first_child setup s e) (first_none (option_map (λ child. refused.InUse (record { 0 = child })) (first_child setup s e)) [] first.1).0

    from : (b : Bool) → nat_lt fork setup.enclaves ≡ b → ⊥
    from true below =
        let inside : fork < setup.enclaves = ltb-true fork setup.enclaves below in
        let long : length (range_with_len 0 setup.enclaves) ≡ setup.enclaves = length-range_with_len 0 setup.enclaves in
        let none : is_parent e (s.number (slice_index_or (range_with_len 0 setup.enclaves) fork 0)).parent ≡ false
        = none_passes (λ child. is_parent e (s.number child).parent) (range_with_len 0 setup.enclaves) none_found fork 0 (omega arith) in
        let here : slice_index_or (range_with_len 0 setup.enclaves) fork 0 ≡ 0 + fork = get_or-range_with_len 0 setup.enclaves fork 0 inside in
        let other : is_parent e (s.number fork).parent ≡ false = subst (λ child. is_parent e (s.number child).parent ≡ false) (here ∙ omega arith) none in
        false≢true (sym other ∙ ap (is_parent e) forked ∙ eq-eqb e e refl)
    from false past =
        let free : (s.number fork).state ≡ state_is.Free = k.beyond fork (ltb-false fork setup.enclaves past) in
        let none : None ≡ Some e = sym ((k.numbers fork).free (ap is_free free)).0 ∙ forked in
        cc

-- ---- each line

module _ (setup : SetupParts) (s : Monitor) (stand : PagesStand setup s) (k : ShadowsStand setup s.number) (l : LinesStand setup s.progress s.number) where
  -- the numbers, of which one is another
  abbrev set_number : ℕ → Number → ℕ → Number
  set_number e next f = if f == e then next else s.number f

  -- what is to be shown of the numbers after an answer
  record IsDone (numbers : ℕ → Number) (hart : ℕ) (line : ActorLine) (now : Answer) : Type 0 where
    shadows : ShadowsStand setup numbers
    step : IsStep setup s.progress numbers hart line now

  same_done : (hart : ℕ) (line : ActorLine) (now : Answer) → (now ≡ answer_is.Begun → (e : ℕ) → number_of_line line ≡ Some e → ⊥) → IsDone s.number hart line now
  same_done hart line now quiet = record {
    shadows = k;
    step = record {
      others = λ other later e differ u. l.ways other later e u;
      own = λ begun e names. absurd (quiet begun e names);
      unused = λ begun e names. absurd (quiet begun e names);
    };
  }

  -- a number that no line has under way
  unused : (e : ℕ) → is_under_way (s.number e).state ≡ false → (other : ℕ) (later : ActorLine) → IsUnder setup (s.progress other) other later e → ⊥
  unused e idle other later u = false≢true (sym idle ∙ way_under later e (s.number e).state (s.number e).parent u.names (l.ways other later e u))

  set_done : (hart : ℕ) (line : ActorLine) (now : Answer) (e : ℕ) (next : Number) → ShadowsStand setup (set_number e next)
      → ((other : ℕ) (later : ActorLine) → other ≢ hart → IsUnder setup (s.progress other) other later e → IsWay later next.state next.parent)
      → (now ≡ answer_is.Begun → (number_of_line line ≡ Some e) × IsWay line next.state next.parent × (is_under_way (s.number e).state ≡ false))
      → IsDone (set_number e next) hart line now
  set_done hart line now e next shadows others own = record {
    shadows = shadows;
    step = record {
      others = λ other later f differ u. others_at other later f differ u (f == e) refl;
      own = λ begun f names. own_at f begun names (f == e) refl;
      unused = λ begun f names other later u.
          let same : e ≡ f = some_inside e f (sym (own begun).0 ∙ names) in
          unused e (own begun).2 other later (subst (λ x. IsUnder setup (s.progress other) other later x) (sym same) u);
    };
  }
    where
      some_inside : (a b : ℕ) → Some a ≡ Some b → a ≡ b
      some_inside a b same = cc

      others_at : (other : ℕ) (later : ActorLine) (f : ℕ) → other ≢ hart → IsUnder setup (s.progress other) other later f → (b : Bool) → (f == e) ≡ b
          → IsWay later (if b then next else s.number f).state (if b then next else s.number f).parent
      others_at other later f differ u true is = others other later differ (subst (λ x. IsUnder setup (s.progress other) other later x) (eqb-true f e is) u)
      others_at other later f differ u false is = l.ways other later f u

      own_at : (f : ℕ) → now ≡ answer_is.Begun → number_of_line line ≡ Some f → (b : Bool) → (f == e) ≡ b
          → IsWay line (if b then next else s.number f).state (if b then next else s.number f).parent
      own_at f begun names true is = (own begun).1
      own_at f begun names false is = absurd (eqb-false f e is (sym (some_inside e f (sym (own begun).0 ∙ names))))

  begin_done : (hart : ℕ) (line : ActorLine) (e : ℕ) (next : Number) → ShadowsStand setup (set_number e next) → number_of_line line ≡ Some e
      → is_under_way (s.number e).state ≡ false → IsWay line next.state next.parent → IsDone (set_number e next) hart line answer_is.Begun
  begin_done hart line e next shadows names idle way =
      set_done hart line answer_is.Begun e next shadows (λ other later differ u. absurd (unused e idle other later u)) (λ begun. (names, way, idle))

  end_done : (hart : ℕ) (line : ActorLine) (now : Answer) (e : ℕ) (next : Number) → ShadowsStand setup (set_number e next) → (now ≡ answer_is.Begun → ⊥)
      → IsUnder setup (s.progress hart) hart line e → IsDone (set_number e next) hart line now
  end_done hart line now e next shadows ends under =
      set_done hart line now e next shadows (λ other later differ u. absurd (differ (l.apart other hart later line e u under))) (λ begun. absurd (ends begun))

  idle_done : (hart : ℕ) (line : ActorLine) (now : Answer) (e : ℕ) (next : Number) → ShadowsStand setup (set_number e next) → (now ≡ answer_is.Begun → ⊥)
      → is_under_way (s.number e).state ≡ false → IsDone (set_number e next) hart line now
  idle_done hart line now e next shadows ends idle =
      set_done hart line now e next shadows (λ other later differ u. absurd (unused e idle other later u)) (λ begun. absurd (ends begun))

  -- ---- numbers that begin and end

  unsealed_free : (state : State) → is_free state ≡ true → state ≡ state_is.Sealed → ⊥
  unsealed_free state free is = false≢true (sym (ap is_free is) ∙ free)

  idle_free : (state : State) → is_free state ≡ true → is_under_way state ≡ false
  idle_free state_is.Free is = refl
  idle_free state is = absurd (false≢true is)

  image_there : (image : ℕ) → image < length setup.images → (i : Image) × (slice_get setup.images image ≡ Some i)
  image_there image inside = elim (slice_get_cases setup.images image).1 [
    | inl there ↦ (there.0, there.2)
    | inr past ↦ absurd (let beyond : length setup.images ≤ image = past.0 in omega arith)
  ]

  create_done : (hart : ℕ) (line : ActorLine) (e image : ℕ) (pages : List ℕ) → e < setup.enclaves → image < length setup.images → create_refusal setup s e image pages ≡ None
      → number_of_line line ≡ Some e → IsWay line state_is.Building None
      → IsDone (set_number e (record (freed (s.number e)) { state = state_is.Building; image = image; pages = pages })) hart line answer_is.Begun
  create_done hart line e image pages inside known is names way =
      let may = may_make setup s e image pages is in
      let there = image_there image known in
      begin_done hart line e (record (freed (s.number e)) { state = state_is.Building; image = image; pages = pages })
      (set_stands setup s.number k e (record (freed (s.number e)) { state = state_is.Building; image = image; pages = pages }) inside (building_stands setup s.number k e image there.0 pages there.1 may.count may.once)
      (λ fork forked. absurd (no_forks setup s.number k e (unsealed_free (s.number e).state may.free) fork forked)))
      names (idle_free (s.number e).state may.free) way

  fork_done : (hart : ℕ) (line : ActorLine) (shadow e : ℕ) (pages : List ℕ) → e < setup.enclaves → fork_refusal setup s shadow e pages ≡ None
      → number_of_line line ≡ Some e → IsWay line state_is.Building (Some shadow)
      → IsDone (set_number e (record (freed (s.number e)) { state = state_is.Building; image = (s.number shadow).image; spares = pages; parent = Some shadow })) hart line answer_is.Begun
  fork_done hart line shadow e pages inside is names way =
      let may = may_fork setup s shadow e pages is in
      begin_done hart line e (record (freed (s.number e)) { state = state_is.Building; image = (s.number shadow).image; spares = pages; parent = Some shadow })
      (set_stands setup s.number k e (record (freed (s.number e)) { state = state_is.Building; image = (s.number shadow).image; spares = pages; parent = Some shadow }) inside
      (forking_stands setup s.number k e shadow pages may.sealed may.free may.once may.few)
      (λ fork forked. absurd (no_forks setup s.number k e (unsealed_free (s.number e).state may.free) fork forked)))
      names (idle_free (s.number e).state may.free) way

  -- no fork stands on a number in a state
  unsealed_forks : (e : ℕ) (next : Number) → ((s.number e).state ≡ state_is.Sealed → ⊥) → (fork : ℕ) → (s.number fork).parent ≡ Some e → IsSameShadow (s.number e) next
  unsealed_forks e next unsealed fork forked = absurd (no_forks setup s.number k e unsealed fork forked)

  -- a number that was being made: it is fresh, or a fault stopped it
  made_done : (hart : ℕ) (line : ActorLine) (now : Answer) (e : ℕ) (state : State) (live : Bool) → e < setup.enclaves → (now ≡ answer_is.Begun → ⊥)
      → IsUnder setup (s.progress hart) hart line e
      → (s.number e).state ≡ state_is.Building → is_wordless state ≡ false → (live ≡ true) ⊎ (state ≡ state_is.Faulted)
      → IsDone (set_number e (record (s.number e) { state = state; live = live })) hart line now
  made_done hart line now e state live inside ends under building worded lively =
      let n = s.number e in
      end_done hart line now e (record n { state = state; live = live })
      (set_stands setup s.number k e (record n { state = state; live = live }) inside (ready_stands setup s.number k e state live n.hart n.sent n.taken n.retired (ap is_free building) worded lively)
      (unsealed_forks e (record n { state = state; live = live }) (λ is. (let h : state_is.Building ≡ state_is.Sealed = sym building ∙ is in cc))))
      ends under

  faulted_done : (hart : ℕ) (line : ActorLine) (now : Answer) (e : ℕ) → e < setup.enclaves → (now ≡ answer_is.Begun → ⊥) → IsUnder setup (s.progress hart) hart line e
      → (s.number e).state ≡ state_is.Building → IsDone (set_number e (record (s.number e) { state = state_is.Faulted })) hart line now
  faulted_done hart line now e inside ends under building = made_done hart line now e state_is.Faulted (s.number e).live inside ends under building refl (inr refl)

  sealed_done : (hart : ℕ) (line : ActorLine) (now : Answer) (e : ℕ) → e < setup.enclaves → (now ≡ answer_is.Begun → ⊥) → IsUnder setup (s.progress hart) hart line e
      → (s.number e).state ≡ state_is.Building → (s.number e).parent ≡ None → IsDone (set_number e (record (s.number e) { state = state_is.Sealed })) hart line now
  sealed_done hart line now e inside ends under building whole =
      let n = s.number e in
      end_done hart line now e (record n { state = state_is.Sealed })
      (set_stands setup s.number k e (record n { state = state_is.Sealed }) inside
      (state_stands setup s.number k e state_is.Sealed n.live n.hart n.sent n.taken n.retired (ap is_free building) refl (λ is. (whole, (k.numbers e).building building whole)) (λ is. cc)
      (λ is. (k.numbers e).still (ap is_wordless building)) (λ is. cc))
      (unsealed_forks e (record n { state = state_is.Sealed }) (λ is. (let h : state_is.Building ≡ state_is.Sealed = sym building ∙ is in cc))))
      ends under

  -- ---- runs

  entered_done : (hart : ℕ) (line : ActorLine) (e : ℕ) → e < setup.enclaves → (is_fresh (s.number e).state ≡ true) ⊎ (is_paused (s.number e).state ≡ true)
      → number_of_line line ≡ Some e → IsWay line state_is.On (s.number e).parent
      → IsDone (set_number e (record (s.number e) { state = state_is.On; hart = hart })) hart line answer_is.Begun
  entered_done hart line e inside may names way =
      let n = s.number e in
      let is = may_enter n.state may in
      let ready = ready_state n.state is.0 in
      begin_done hart line e (record n { state = state_is.On; hart = hart })
      (set_stands setup s.number k e (record n { state = state_is.On; hart = hart }) inside
      (ready_stands setup s.number k e state_is.On n.live hart n.sent n.taken n.retired ready.free refl (is_live ((k.numbers e).live is.0) is.2))
      (unsealed_forks e (record n { state = state_is.On; hart = hart }) ready.sealed))
      names is.1 way
    where
      is_live : ((s.number e).live ≡ true) ⊎ ((s.number e).state ≡ state_is.Faulted) → ((s.number e).state ≡ state_is.Faulted → ⊥)
          → ((s.number e).live ≡ true) ⊎ (state_is.On ≡ state_is.Faulted)
      is_live (inl live) never = inl live
      is_live (inr faulted) never = absurd (never faulted)

  left_done : (hart : ℕ) (line : ActorLine) (now : Answer) (e count : ℕ) (why : Why) → e < setup.enclaves → (now ≡ answer_is.Begun → ⊥)
      → IsUnder setup (s.progress hart) hart line e → (s.number e).state ≡ state_is.On
      → IsDone (set_number e (record (s.number e) { state = state_left why; retired = (s.number e).retired + count })) hart line now
  left_done hart line now e count why inside ends under on =
      let n = s.number e in
      let next : Number = record n { state = state_left why; retired = n.retired + count } in
      end_done hart line now e next
      (set_stands setup s.number k e next inside
      (ready_stands setup s.number k e (state_left why) n.live n.hart n.sent n.taken (n.retired + count) (ap is_free on) (left_worded why) (is_live ((k.numbers e).live (ap is_wordless on))))
      (unsealed_forks e next (λ is. (let h : state_is.On ≡ state_is.Sealed = sym on ∙ is in cc))))
      ends under
    where
      is_live : ((s.number e).live ≡ true) ⊎ ((s.number e).state ≡ state_is.Faulted) → ((s.number e).live ≡ true) ⊎ (state_left why ≡ state_is.Faulted)
      is_live (inl live) = inl live
      is_live (inr faulted) = (let h : state_is.On ≡ state_is.Faulted = sym on ∙ faulted in cc)

  -- a word goes in or out
  words_done : (hart : ℕ) (line : ActorLine) (now : Answer) (e : ℕ) (sent : List ℕ) (taken : ℕ) → e < setup.enclaves → (now ≡ answer_is.Begun → ⊥)
      → is_wordless (s.number e).state ≡ false
      → IsDone (set_number e (record (s.number e) { sent = sent; taken = taken })) hart line now
  words_done hart line now e sent taken inside ends worded =
      let n = s.number e in
      let ready = ready_state n.state worded in
      set_done hart line now e (record n { sent = sent; taken = taken })
      (set_stands setup s.number k e (record n { sent = sent; taken = taken }) inside (ready_stands setup s.number k e n.state n.live n.hart sent taken n.retired ready.free worded ((k.numbers e).live worded))
      (unsealed_forks e (record n { sent = sent; taken = taken }) ready.sealed))
      (λ other later differ u. l.ways other later e u) (λ begun. absurd (ends begun))

  -- ---- pages given and given back

  granted_done : (hart : ℕ) (line : ActorLine) (now : Answer) (e page : ℕ) → e < setup.enclaves → (now ≡ answer_is.Begun → ⊥) → grant_refusal setup s e page ≡ None
      → IsDone (set_number e (record (s.number e) { spares = (s.number e).spares ++ page ∷ [] })) hart line now
  granted_done hart line now e page inside ends is =
      let n = s.number e in
      let last : List (Option No) = refuse (nat_lt most_spares (length n.spares + 1)) refused.TooMany ∷ [] in
      let may = may_give n.state (first_none (idle_refusal n.state) (page_refusals setup s (page ∷ []) ++ last) is).0 in
      idle_done hart line now e (record n { spares = n.spares ++ page ∷ [] })
      (set_stands setup s.number k e (record n { spares = n.spares ++ page ∷ [] }) inside
      (granted_stands setup s.number k e page may.0 (absent (is_among (pages_taken n) page) refl) (few_spares setup s e page is))
      (unsealed_forks e (record n { spares = n.spares ++ page ∷ [] }) (ready_state n.state may.0).sealed))
      ends may.1
    where
      hosts : is_host (s.owner page) ≡ true
      hosts = first_of (λ p. is_host (s.owner p) ≡ true) page [] (owned.grant_takes setup s stand e page is).hosts

      absent : (b : Bool) → is_among (pages_taken (s.number e)) page ≡ b → is_among (pages_taken (s.number e)) page ≡ false
      absent true there = absurd (owned.not_both setup (s.owner page) e hosts (among (λ p. s.owner p ≡ Some (number e)) (pages_taken (s.number e)) page (stand.taken e) there))
      absent false none = none

  dying_done : (hart : ℕ) (line : ActorLine) (e : ℕ) → e < setup.enclaves → idle_refusal (s.number e).state ≡ None → number_of_line line ≡ Some e
      → IsWay line state_is.Dying (s.number e).parent
      → IsDone (set_number e (record (s.number e) { state = state_is.Dying; live = false })) hart line answer_is.Begun
  dying_done hart line e inside is names way =
      let n = s.number e in
      let may = may_give n.state is in
      let ready = ready_state n.state may.0 in
      begin_done hart line e (record n { state = state_is.Dying; live = false })
      (set_stands setup s.number k e (record n { state = state_is.Dying; live = false }) inside
      (state_stands setup s.number k e state_is.Dying false n.hart n.sent n.taken n.retired ready.free refl (λ h. cc) (λ h. cc) (λ h. refl) (λ h. cc))
      (unsealed_forks e (record n { state = state_is.Dying; live = false }) ready.sealed))
      names may.1 way

  destroyed_done : (hart : ℕ) (line : ActorLine) (now : Answer) (e : ℕ) → e < setup.enclaves → (now ≡ answer_is.Begun → ⊥) → IsUnder setup (s.progress hart) hart line e
      → (s.number e).state ≡ state_is.Dying
      → IsDone (set_number e (freed (s.number e))) hart line now
  destroyed_done hart line now e inside ends under dying =
      end_done hart line now e (freed (s.number e))
      (set_stands setup s.number k e (freed (s.number e)) inside (freed_stands setup s.number k e)
      (unsealed_forks e (freed (s.number e)) (λ is. (let h : state_is.Dying ≡ state_is.Sealed = sym dying ∙ is in cc))))
      ends under

  dropped_done : (hart : ℕ) (line : ActorLine) (now : Answer) (e : ℕ) → e < setup.enclaves → (now ≡ answer_is.Begun → ⊥) → drop_refusal setup s e ≡ None
      → IsDone (set_number e (freed (s.number e))) hart line now
  dropped_done hart line now e inside ends is =
      let first = first_none (refuse (not (is_sealed (s.number e).state)) refused.NoEnclave) (option_map (λ child. refused.InUse (record { 0 = child })) (first_child setup s e) ∷ []) is in
      let sealed = sealed_state (s.number e).state (refuse_none (is_sealed (s.number e).state) refused.NoEnclave first.0) in
      idle_done hart line now e (freed (s.number e))
      (set_stands setup s.number k e (freed (s.number e)) inside (freed_stands setup s.number k e) (λ fork forked. absurd (dropped_childless setup s e k is fork forked)))
      ends (ap is_under_way sealed)

  -- ---- each line of a hart

  known : (b c : Bool) → b && c ≡ true → b ≡ true
  known b c is = (and_parts b c is).0

  below : (e : ℕ) → nat_lt e setup.enclaves ≡ true → e < setup.enclaves
  below e is = ltb-true e setup.enclaves is

  stored_done : (hart : ℕ) (line : ActorLine) (va : Va) (word : ℕ) (m : Option Mapping) → IsDone (store_to s va word m).number hart line answer_is.Ok
  stored_done hart line va word None = same_done hart line answer_is.Ok (λ b e is. cc)
  stored_done hart line va word (Some m) = same_done hart line answer_is.Ok (λ b e is. cc)

  removing_done : (hart : ℕ) (va : Va) (m : Option Mapping) → IsDone (removing_of s hart m).number hart (of_hart (line_is.Unmap va)) answer_is.Begun
  removing_done hart va None = same_done hart (of_hart (line_is.Unmap va)) answer_is.Begun (λ b e is. cc)
  removing_done hart va (Some m) = same_done hart (of_hart (line_is.Unmap va)) answer_is.Begun (λ b e is. cc)

  -- the hart's own line, that has begun
  under : (hart : ℕ) (line : ActorLine) (e : ℕ) → line_at setup hart (s.progress hart).answered ≡ Some line → (s.progress hart).begun ≡ true → number_of_line line ≡ Some e
      → IsUnder setup (s.progress hart) hart line e
  under hart line e here begun names = record { begun = begun; here = here; names = names }

  abbrev Names : Line → Type 0
  Names line = names_known setup.enclaves (length setup.images) line ≡ true

  abbrev IsNext : ℕ → Line → Type 0
  IsNext hart line = line_at setup hart (s.progress hart).answered ≡ Some (of_hart line)

  line_done : (hart : ℕ) (line : Line) (begun : Bool) (now : Answer) → Names line → IsNext hart line → (s.progress hart).begun ≡ begun → AllowedAnswer setup s line begun now
      → IsDone (change_by (changes s hart line begun) now).number hart (of_hart line) now
  line_done hart (line_is.Store va word) begun answer_is.Ok names here is allowed =
      stored_done hart (of_hart (line_is.Store va word)) va word (mapping_used (mapping_at s.space (vpn_of va).0) (removed_at s.removals (vpn_of va).0))
  line_done hart (line_is.Unmap va) begun answer_is.Begun names here is allowed = removing_done hart va (mapping_at s.space (vpn_of va).0)
  line_done hart (line_is.Create e image pages) true answer_is.Begun names here is allowed = cc
  line_done hart (line_is.Create e image pages) false answer_is.Begun names here is allowed =
      let parts = and_parts (nat_lt e.0 setup.enclaves) (nat_lt image (length setup.images)) names in
      create_done hart (of_hart (line_is.Create e image pages)) e.0 image pages (below e.0 parts.0) (ltb-true image (length setup.images) parts.1) allowed refl refl
  line_done hart (line_is.Create e image pages) false answer_is.Ok names here is allowed = absurd allowed
  line_done hart (line_is.Create e image pages) true answer_is.Ok names here is allowed =
      let u = under hart (of_hart (line_is.Create e image pages)) e.0 here is refl in
      made_done hart (of_hart (line_is.Create e image pages)) answer_is.Ok e.0 state_is.Fresh true (below e.0 (known (nat_lt e.0 setup.enclaves) (nat_lt image (length setup.images)) names)) (λ h. cc) u
      (l.ways hart (of_hart (line_is.Create e image pages)) e.0 u) refl (inl refl)
  line_done hart (line_is.Create e image pages) true (answer_is.No cause) names here is allowed =
      let u = under hart (of_hart (line_is.Create e image pages)) e.0 here is refl in
      faulted_done hart (of_hart (line_is.Create e image pages)) (answer_is.No cause) e.0 (below e.0 (known (nat_lt e.0 setup.enclaves) (nat_lt image (length setup.images)) names)) (λ h. cc) u
      (l.ways hart (of_hart (line_is.Create e image pages)) e.0 u)
  line_done hart (line_is.Shadow e image pages) true answer_is.Begun names here is allowed = cc
  line_done hart (line_is.Shadow e image pages) false answer_is.Begun names here is allowed =
      let parts = and_parts (nat_lt e.0 setup.enclaves) (nat_lt image (length setup.images)) names in
      create_done hart (of_hart (line_is.Shadow e image pages)) e.0 image pages (below e.0 parts.0) (ltb-true image (length setup.images) parts.1) allowed refl (refl, refl)
  line_done hart (line_is.Shadow e image pages) false answer_is.Ok names here is allowed = absurd allowed
  line_done hart (line_is.Shadow e image pages) true answer_is.Ok names here is allowed =
      let u = under hart (of_hart (line_is.Shadow e image pages)) e.0 here is refl in
      let way = l.ways hart (of_hart (line_is.Shadow e image pages)) e.0 u in
      sealed_done hart (of_hart (line_is.Shadow e image pages)) answer_is.Ok e.0 (below e.0 (known (nat_lt e.0 setup.enclaves) (nat_lt image (length setup.images)) names)) (λ h. cc) u way.0 way.1
  line_done hart (line_is.Shadow e image pages) true (answer_is.No cause) names here is allowed =
      let u = under hart (of_hart (line_is.Shadow e image pages)) e.0 here is refl in
      faulted_done hart (of_hart (line_is.Shadow e image pages)) (answer_is.No cause) e.0 (below e.0 (known (nat_lt e.0 setup.enclaves) (nat_lt image (length setup.images)) names)) (λ h. cc) u
      (l.ways hart (of_hart (line_is.Shadow e image pages)) e.0 u).0
  line_done hart (line_is.Fork shadow e pages) true answer_is.Begun names here is allowed = cc
  line_done hart (line_is.Fork shadow e pages) false answer_is.Begun names here is allowed =
      fork_done hart (of_hart (line_is.Fork shadow e pages)) shadow.0 e.0 pages (below e.0 (and_parts (nat_lt shadow.0 setup.enclaves) (nat_lt e.0 setup.enclaves) names).1) allowed refl refl
  line_done hart (line_is.Fork shadow e pages) false answer_is.Ok names here is allowed = absurd allowed
  line_done hart (line_is.Fork shadow e pages) true answer_is.Ok names here is allowed =
      let u = under hart (of_hart (line_is.Fork shadow e pages)) e.0 here is refl in
      made_done hart (of_hart (line_is.Fork shadow e pages)) answer_is.Ok e.0 state_is.Fresh true (below e.0 (and_parts (nat_lt shadow.0 setup.enclaves) (nat_lt e.0 setup.enclaves) names).1) (λ h. cc) u
      (l.ways hart (of_hart (line_is.Fork shadow e pages)) e.0 u) refl (inl refl)
  line_done hart (line_is.Fork shadow e pages) true (answer_is.No cause) names here is allowed =
      let u = under hart (of_hart (line_is.Fork shadow e pages)) e.0 here is refl in
      faulted_done hart (of_hart (line_is.Fork shadow e pages)) (answer_is.No cause) e.0 (below e.0 (and_parts (nat_lt shadow.0 setup.enclaves) (nat_lt e.0 setup.enclaves) names).1) (λ h. cc) u
      (l.ways hart (of_hart (line_is.Fork shadow e pages)) e.0 u)
  line_done hart (line_is.Grant e page) begun answer_is.Ok names here is allowed =
      granted_done hart (of_hart (line_is.Grant e page)) answer_is.Ok e.0 page (below e.0 names) (λ h. cc) (owned.only_ok setup (grant_refusal setup s e.0 page) (Some answer_is.Ok) begun allowed)
  line_done hart (line_is.Run e budget) true answer_is.Begun names here is allowed = absurd allowed
  line_done hart (line_is.Run e budget) false answer_is.Begun names here is allowed =
      entered_done hart (of_hart (line_is.Run e budget)) e.0 (below e.0 names) (inl (runs_by is_fresh (s.number e.0).state allowed)) refl refl
  line_done hart (line_is.Run e budget) false (answer_is.Left count why) names here is allowed = absurd allowed
  line_done hart (line_is.Run e budget) true (answer_is.Left count why) names here is allowed =
      let u = under hart (of_hart (line_is.Run e budget)) e.0 here is refl in
      left_done hart (of_hart (line_is.Run e budget)) (answer_is.Left count why) e.0 count why (below e.0 names) (λ h. cc) u (l.ways hart (of_hart (line_is.Run e budget)) e.0 u)
  line_done hart (line_is.Resume e budget) true answer_is.Begun names here is allowed = absurd allowed
  line_done hart (line_is.Resume e budget) false answer_is.Begun names here is allowed =
      entered_done hart (of_hart (line_is.Resume e budget)) e.0 (below e.0 names) (inr (runs_by is_paused (s.number e.0).state allowed)) refl refl
  line_done hart (line_is.Resume e budget) false (answer_is.Left count why) names here is allowed = absurd allowed
  line_done hart (line_is.Resume e budget) true (answer_is.Left count why) names here is allowed =
      let u = under hart (of_hart (line_is.Resume e budget)) e.0 here is refl in
      left_done hart (of_hart (line_is.Resume e budget)) (answer_is.Left count why) e.0 count why (below e.0 names) (λ h. cc) u (l.ways hart (of_hart (line_is.Resume e budget)) e.0 u)
  line_done hart (line_is.Send e word) begun answer_is.Ok names here is allowed =
      let n = s.number e.0 in
      let first = first_none (refuse (is_wordless n.state) refused.NoEnclave) (refuse (length n.sent == most_words) refused.Full ∷ []) (owned.only_ok setup (send_refusal n) (Some answer_is.Ok) begun allowed) in
      words_done hart (of_hart (line_is.Send e word)) answer_is.Ok e.0 (n.sent ++ word ∷ []) n.taken (below e.0 names) (λ h. cc) (refuse_false (is_wordless n.state) refused.NoEnclave first.0)
  line_done hart (line_is.Take e) begun (answer_is.Word word) names here is allowed =
      let n = s.number e.0 in
      let first = first_none (refuse (is_wordless n.state) refused.NoEnclave) (refuse (n.taken == length (sent_out setup n)) refused.Empty ∷ [])
      (only_word (take_refusal setup n) (option_map answer_is.Word (slice_get (sent_out setup n) n.taken)) begun word allowed) in
      words_done hart (of_hart (line_is.Take e)) (answer_is.Word word) e.0 n.sent (n.taken + 1) (below e.0 names) (λ h. cc) (refuse_false (is_wordless n.state) refused.NoEnclave first.0)
  line_done hart (line_is.Destroy e) true answer_is.Begun names here is allowed = cc
  line_done hart (line_is.Destroy e) false answer_is.Begun names here is allowed = dying_done hart (of_hart (line_is.Destroy e)) e.0 (below e.0 names) allowed refl refl
  line_done hart (line_is.Destroy e) false answer_is.Ok names here is allowed = absurd allowed
  line_done hart (line_is.Destroy e) true answer_is.Ok names here is allowed =
      let u = under hart (of_hart (line_is.Destroy e)) e.0 here is refl in
      destroyed_done hart (of_hart (line_is.Destroy e)) answer_is.Ok e.0 (below e.0 names) (λ h. cc) u (l.ways hart (of_hart (line_is.Destroy e)) e.0 u)
  line_done hart (line_is.Drop e) begun answer_is.Ok names here is allowed =
      dropped_done hart (of_hart (line_is.Drop e)) answer_is.Ok e.0 (below e.0 names) (λ h. cc) (owned.only_ok setup (drop_refusal setup s e.0) (Some answer_is.Ok) begun allowed)
  line_done hart (line_is.Load va) begun now names here is allowed = unchanged_holds (λ t. IsDone t.number hart (of_hart (line_is.Load va)) now) s now (same_done hart (of_hart (line_is.Load va)) now (λ b e h. cc))
  line_done hart (line_is.After actor count) begun now names here is allowed =
      unchanged_holds (λ t. IsDone t.number hart (of_hart (line_is.After actor count)) now) s now (same_done hart (of_hart (line_is.After actor count)) now (λ b e h. cc))
  line_done hart (line_is.Map va page perms) begun answer_is.Ok names here is allowed = same_done hart (of_hart (line_is.Map va page perms)) answer_is.Ok (λ b e h. cc)
  line_done hart line begun now names here is allowed = same_done hart (of_hart line) now (λ b e h. cc)

-- ---- whole histories

-- what each state keeps
record IsKept (setup : SetupParts) (s : Monitor) : Type 0 where
  pages : PagesStand setup s
  shadows : ShadowsStand setup s.number
  lines : LinesStand setup s.progress s.number

progressed_number : (s : Monitor) (actor : ℕ) (now : Answer) → (progressed s actor now).number ≡ s.number
progressed_number s actor answer_is.Begun = refl
progressed_number s actor answer_is.Ok = refl
progressed_number s actor (answer_is.Value value) = refl
progressed_number s actor (answer_is.Word word) = refl
progressed_number s actor (answer_is.Left count why) = refl
progressed_number s actor (answer_is.No cause) = refl
progressed_number s actor (answer_is.Wrote changed pa from len) = refl
progressed_number s actor (answer_is.Kept pa from len) = refl

written_number : (s : Monitor) (now : Placed) (changed : Bool) → (written s now changed).number ≡ s.number
written_number s now true = refl
written_number s now false = refl

attack_number : (s : Monitor) (part : List ℕ) (line : AttackLine) (now : Answer) → (change_by (attack_changes s part line) now).number ≡ s.number
attack_number s part (attack.Write pa new) (answer_is.Wrote changed at from len) = written_number s (record { address = at; bytes = part }) changed
attack_number s part (attack.Back name) (answer_is.Wrote changed at from len) = written_number s (record { address = at; bytes = part }) changed
attack_number s part (attack.Keep name pa len) now = unchanged_holds (λ t. t.number ≡ s.number) s now refl
attack_number s part (attack.After actor count) now = unchanged_holds (λ t. t.number ≡ s.number) s now refl
attack_number s part line now = refl

module _ (setup : SetupParts) (rules : IsSetup setup) (bytes : List ℕ) where
  -- the numbers after an answer, where they stand before its actor is moved on
  kept_by : (s : Monitor) (actor : ℕ) (line : ActorLine) (part : List ℕ) (now : Answer) (numbers : ℕ → Number) → IsKept setup s
      → PagesStand setup (after_line s actor part now line)
      → (after_line s actor part now line).number ≡ numbers → line_at setup actor (s.progress actor).answered ≡ Some line → ShadowsStand setup numbers
      → IsStep setup s.progress numbers actor line now
      → IsKept setup (after_line s actor part now line)
  kept_by s actor line part now numbers k pages is here shadows step = record {
    pages = pages;
    shadows = subst (ShadowsStand setup) (sym is) shadows;
    lines = subst (λ p. LinesStand setup p (after_line s actor part now line).number) (sym (line_moves s actor part now line))
        (subst (LinesStand setup (moved_one s.progress actor now)) (sym is) (step_stands setup s.progress s.number numbers actor line now k.lines here step));
  }

  line_kept : (s : Monitor) (before : List Entry) (entry : Entry) (line : ActorLine) → IsKept setup s → line_at setup entry.actor (s.progress entry.actor).answered ≡ Some line
      → AllowedLine setup bytes s before line (s.progress entry.actor).begun entry.answer
      → IsKept setup (after_line s entry.actor (named_part bytes entry.answer) entry.answer line)
  line_kept s before entry (of_hart line) k here allowed =
      let begun = (s.progress entry.actor).begun in
      let done = line_done setup s k.pages k.shadows k.lines entry.actor line begun entry.answer (actor_line_names setup entry.actor (s.progress entry.actor).answered line rules here) here refl allowed in
      kept_by s entry.actor (of_hart line) (named_part bytes entry.answer) entry.answer (change_by (changes s entry.actor line begun) entry.answer).number k (pages_after s before entry (of_hart line) k allowed)
      (progressed_number (change_by (changes s entry.actor line begun) entry.answer) entry.actor entry.answer) here done.shadows done.step
    where
      pages_after : (s : Monitor) (before : List Entry) (entry : Entry) (line : ActorLine) → IsKept setup s
          → AllowedLine setup bytes s before line (s.progress entry.actor).begun entry.answer
          → PagesStand setup (after_line s entry.actor (named_part bytes entry.answer) entry.answer line)
      pages_after s before entry line k allowed = line_holds setup bytes (PagesStand setup) (owned.progress_stands setup) (owned.written_stands setup) (owned.line_stands setup) s before entry line k.pages allowed
  line_kept s before entry (of_attacker line) k here allowed =
      let part = named_part bytes entry.answer in
      let same = same_done setup s k.pages k.shadows k.lines entry.actor (of_attacker line) entry.answer (λ b e is. cc) in
      kept_by s entry.actor (of_attacker line) part entry.answer s.number k
      (line_holds setup bytes (PagesStand setup) (owned.progress_stands setup) (owned.written_stands setup) (owned.line_stands setup) s before entry (of_attacker line) k.pages allowed)
      (progressed_number (change_by (attack_changes s part line) entry.answer) entry.actor entry.answer ∙ attack_number s part line entry.answer) here same.shadows same.step

  entry_kept : (s : Monitor) (before : List Entry) (entry : Entry) → IsKept setup s → Allowed setup bytes s before entry → IsKept setup (after setup bytes s entry)
  entry_kept s before entry k allowed =
      subst (λ (o : Option ActorLine). IsKept setup (option_map_or (after_line s entry.actor (named_part bytes entry.answer) entry.answer) o s)) (sym allowed.1.1)
      (line_kept s before entry allowed.1.0 k (subst (λ at. line_at setup entry.actor at ≡ Some allowed.1.0) allowed.0 allowed.1.1) allowed.1.2)

  history_kept : (s : Monitor) (before entries : List Entry) → IsKept setup s → AllAllowed setup bytes s before entries → IsKept setup (state_after setup bytes s entries)
  history_kept s before [] k allowed = k
  history_kept s before (entry ∷ entries) k allowed = history_kept (after setup bytes s entry) (before ++ entry ∷ []) entries (entry_kept s before entry k allowed.0) allowed.1

free_stands : (setup : SetupParts) (e : ℕ) → NumberStands setup (λ f. free_number) e free_number
free_stands setup e = record {
  free = λ is. (refl, refl, refl);
  made = λ is. cc;
  image = λ is. cc;
  sealed = λ is. cc;
  building = λ is none. refl;
  still = λ is. refl;
  live = λ is. cc;
  once = refl;
  few = omega arith;
}

opening_kept : (setup : SetupParts) → IsKept setup (opening setup)
unfolding opening
opening_kept setup = record {
  pages = owned.opening_stands setup;
  shadows = record { numbers = free_stands setup; beyond = λ e past. refl };
  lines = record {
    ways = λ actor line e u. absurd (false≢true u.begun);
    apart = λ actor other line later e u v. absurd (false≢true u.begun);
  };
}

pub legal_shadows : LegalShadows
legal_shadows setup bytes entries rules legal = (history_kept setup rules bytes (opening setup) [] entries (opening_kept setup) legal).shadows

-- a line that has begun has its number in the state that it set, and no two have one number under way
pub legal_lines : (setup : SetupParts) (bytes : List ℕ) (entries : List Entry) → IsSetup setup → Legal setup bytes entries
    → LinesStand setup (legal_state setup bytes entries).progress (legal_state setup bytes entries).number
legal_lines setup bytes entries rules legal = (history_kept setup rules bytes (opening setup) [] entries (opening_kept setup) legal).lines

-- ---- what follows

-- a page that a fork took isn't one that its shadow took
pub fork_apart : (setup : SetupParts) (s : Monitor) → PagesApart s → ShadowsStand setup s.number → (e shadow page : ℕ) → (s.number e).parent ≡ Some shadow
    → Contains (pages_taken (s.number e)) page → Contains (pages_taken (s.number shadow)) page → ⊥
fork_apart setup s apart k e shadow page forked own its = (fork_of setup s.number k e shadow forked).other (sym (apart.numbers e shadow page own its))

contains_at : (xs : List ℕ) (i x : ℕ) → slice_get xs i ≡ Some x → Contains xs x
contains_at xs i x here = subst (Contains xs) (get_or_from_slice_get xs i x 0 here) (Contains-get_or xs i 0 (slice_get_within xs i x here))

-- so no spare of a fork is a page of its shadow
pub spare_apart : (setup : SetupParts) (s : Monitor) → PagesApart s → ShadowsStand setup s.number → (e shadow i j page : ℕ) → (s.number e).parent ≡ Some shadow
    → slice_get (s.number e).spares i ≡ Some page → slice_get (s.number shadow).pages j ≡ Some page → ⊥
spare_apart setup s apart k e shadow i j page forked own its =
    fork_apart setup s apart k e shadow page forked
    (Contains-append_right (s.number e).pages (s.number e).spares page (contains_at (s.number e).spares i page own))
    (Contains-append_left (s.number shadow).pages (s.number shadow).spares page (contains_at (s.number shadow).pages j page its))

-- a fork is a number that lines may name
pub fork_inside : (setup : SetupParts) (numbers : ℕ → Number) → ShadowsStand setup numbers → (e shadow : ℕ) → (numbers e).parent ≡ Some shadow → e < setup.enclaves
fork_inside setup numbers k e shadow forked = from (nat_lt e setup.enclaves) refl
  where
    from : (b : Bool) → nat_lt e setup.enclaves ≡ b → e < setup.enclaves
    from true inside = ltb-true e setup.enclaves inside
    from false past =
        let free = k.beyond e (ltb-false e setup.enclaves past) in
        let none : None ≡ Some shadow = sym ((k.numbers e).free (ap is_free free)).0 ∙ forked in
        cc
