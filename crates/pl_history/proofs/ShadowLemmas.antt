-- What each change of an enclave number leaves of what the numbers are made of.
use Rattle.std.proofs.Common.{option_map, ◌≡◌, ◌≢◌, ℕ, ◌+◌, ◌<◌, ◌≤◌, ◌==◌, ◌⊎◌, Bool, true, false, cond, if◌then◌else◌, List, [], ◌∷◌, ◌++◌, append_assoc, append-nil, length, length-append, count_by, Option, Some, None, refl, sym, ap, ◌∙◌, subst, inl, inr, arith, slice_get}
use Rattle.std.specs.Prelude.{nat_lt}
use Rattle.std.proofs.lemmas.Bool.{eqb-true, false≢true, ltb-false, or_parts}
use Rattle.std.proofs.lemmas.List.{length-map}
use Rattle.std.proofs.lemmas.List.Sums.{sum_by-cons}
use Rattle.std.specs.Option.{option_map_or}
use Rattle.pl_base.proofs.DistinctPages.{stands_once}
use Rattle.pl_base.specs.Pages.{first_twice, is_among, most_spares}
use Rattle.pl_base.specs.States.{is_absent, is_free, is_fresh, is_paused, is_sealed, is_under_way, is_wordless, state_left}
use Rattle.pl_base.specs.Refusals.{refuse}
use Rattle.pl_base.specs.declared.refusal.No.{No}
use Rattle.pl_base.specs.declared.state.State.{State}
use Rattle.pl_base.specs.declared.state.State.TheVariants as state_is
use Rattle.pl_base.specs.declared.state.Why.{Why}
use Rattle.pl_base.specs.declared.state.Why.TheVariants as why_is
use Rattle.mon_image.specs.declared.image.Image.{Image}
use Rattle.rv_alone.proofs.WrittenPages.{none_twice}
use Rattle.pl_history.specs.declared.setup.SetupParts.{SetupParts}
use Rattle.pl_history.specs.Making.{image_page_count}
use Rattle.pl_history.specs.Monitor.{flat_image, flat_page, image_at, Number, freed, pages_taken}
use Rattle.pl_history.specs.ShadowPages.{IsFork, IsMadeOf, NumberStands, ShadowsStand}
use Rattle.pl_history.proofs.Elements.{among, none_passes}
use Rattle.pl_history.proofs.HostMappings.{counts_none, counts_one, pushed}

-- ---- lists without doubles

absent_counted : (ws : List ℕ) (v : ℕ) → is_among ws v ≡ false → count_by (λ w. w == v) ws ≡ 0
absent_counted [] v none = refl
absent_counted (w ∷ ws) v none =
    let parts = or_parts (w == v) (is_among ws v) none in
    let rest : count_by (λ x. x == v) ws ≡ 0 = absent_counted ws v parts.1 in
    let head = counts_none (w == v) parts.0 in
    let sum : count_by (λ x. x == v) (w ∷ ws) ≡ cond (w == v) 1 0 + count_by (λ x. x == v) ws = sum_by-cons (λ x. cond (x == v) 1 0) w ws in
    omega arith

-- where none stands twice, each is counted once at most
pub once_counted : (ws : List ℕ) → first_twice ws ≡ None → (v : ℕ) → count_by (λ w. w == v) ws ≤ 1
once_counted ws once v = from (is_among ws v) refl
  where
    from : (b : Bool) → is_among ws v ≡ b → count_by (λ w. w == v) ws ≤ 1
    from true there =
        ltb-false 1 (count_by (λ w. w == v) ws)
        (among (λ page. nat_lt 1 (count_by (λ w. w == page) ws) ≡ false) ws v (none_passes (λ page. nat_lt 1 (count_by (λ w. w == page) ws)) ws once) there)
    from false absent = let none = absent_counted ws v absent in omega arith

-- one more, that isn't among them
pub once_more : (ws : List ℕ) (page : ℕ) → first_twice ws ≡ None → is_among ws page ≡ false → first_twice (ws ++ page ∷ []) ≡ None
once_more ws page once absent = none_twice (ws ++ page ∷ []) (λ v. from v (page == v) refl)
  where
    from : (v : ℕ) (b : Bool) → (page == v) ≡ b → count_by (λ w. w == v) (ws ++ page ∷ []) ≤ 1
    from v true same =
        let none : count_by (λ w. w == v) ws ≡ 0 = subst (λ x. count_by (λ w. w == x) ws ≡ 0) (eqb-true page v same) (absent_counted ws page absent) in
        let one = counts_one (page == v) same in
        let sum : count_by (λ w. w == v) (ws ++ page ∷ []) ≡ count_by (λ w. w == v) ws + cond (page == v) 1 0 = pushed (λ w. w == v) ws page in
        omega arith
    from v false other =
        let few : count_by (λ w. w == v) ws ≤ 1 = once_counted ws once v in
        let none = counts_none (page == v) other in
        let sum : count_by (λ w. w == v) (ws ++ page ∷ []) ≡ count_by (λ w. w == v) ws + cond (page == v) 1 0 = pushed (λ w. w == v) ws page in
        omega arith

-- ---- states

pub sealed_state : (state : State) → is_sealed state ≡ true → state ≡ state_is.Sealed
sealed_state state_is.Sealed is = refl
sealed_state state is = absurd (false≢true is)

-- a state in which a line may be let through that runs the number, gives it a page or takes it away
pub record IsReady (state : State) : Type 0 where
  pub free : is_free state ≡ false
  pub sealed : state ≡ state_is.Sealed → ⊥
  pub building : state ≡ state_is.Building → ⊥
  pub worded : is_wordless state ≡ false

pub ready_state : (state : State) → is_wordless state ≡ false → IsReady state
ready_state state_is.Free is = cc
ready_state state_is.Building is = cc
ready_state state_is.Dying is = cc
ready_state state_is.Sealed is = cc
ready_state state_is.Fresh is = record { free = refl; sealed = λ h. cc; building = λ h. cc; worded = refl }
ready_state state_is.On is = record { free = refl; sealed = λ h. cc; building = λ h. cc; worded = refl }
ready_state state_is.Paused is = record { free = refl; sealed = λ h. cc; building = λ h. cc; worded = refl }
ready_state state_is.Ended is = record { free = refl; sealed = λ h. cc; building = λ h. cc; worded = refl }
ready_state state_is.Trapped is = record { free = refl; sealed = λ h. cc; building = λ h. cc; worded = refl }
ready_state state_is.Faulted is = record { free = refl; sealed = λ h. cc; building = λ h. cc; worded = refl }

pub wordless_parts : (state : State) → is_absent state ≡ false → is_under_way state ≡ false → is_wordless state ≡ false
wordless_parts state_is.Free absent under = cc
wordless_parts state_is.Building absent under = cc
wordless_parts state_is.Dying absent under = cc
wordless_parts state_is.Sealed absent under = cc
wordless_parts state_is.On absent under = cc
wordless_parts state_is.Fresh absent under = refl
wordless_parts state_is.Paused absent under = refl
wordless_parts state_is.Ended absent under = refl
wordless_parts state_is.Trapped absent under = refl
wordless_parts state_is.Faulted absent under = refl

pub left_worded : (why : Why) → is_wordless (state_left why) ≡ false
left_worded (why_is.Ended code) = refl
left_worded (why_is.Trapped cause value) = refl
left_worded (why_is.Fault place) = refl
left_worded why_is.Budget = refl
left_worded why_is.Waiting = refl
left_worded why_is.OutFull = refl
left_worded why_is.NeedPage = refl

neither : (false ≡ true) ⊎ (false ≡ true) → ⊥
neither (inl is) = false≢true is
neither (inr is) = false≢true is

-- fresh or paused: the number may be entered
pub may_enter : (state : State) → (is_fresh state ≡ true) ⊎ (is_paused state ≡ true) → (is_wordless state ≡ false) × (is_under_way state ≡ false) × (state ≡ state_is.Faulted → ⊥)
may_enter state_is.Fresh is = (refl, refl, λ h. cc)
may_enter state_is.Paused is = (refl, refl, λ h. cc)
may_enter state_is.Free is = absurd (neither is)
may_enter state_is.Building is = absurd (neither is)
may_enter state_is.Dying is = absurd (neither is)
may_enter state_is.Sealed is = absurd (neither is)
may_enter state_is.On is = absurd (neither is)
may_enter state_is.Ended is = absurd (neither is)
may_enter state_is.Trapped is = absurd (neither is)
may_enter state_is.Faulted is = absurd (neither is)

pub refuse_false : (test : Bool) (cause : No) → refuse test cause ≡ None → test ≡ false
refuse_false true cause is = cc
refuse_false false cause is = refl

-- ---- a number changes

-- a number goes on to be what its forks rely on
pub record IsSameShadow (old now : Number) : Type 0 where
  pub state : now.state ≡ old.state
  pub parent : now.parent ≡ old.parent
  pub image : now.image ≡ old.image

module _ (setup : SetupParts) (number : ℕ → Number) where
  made_frame : (later : ℕ → Number) (e image : ℕ) (pages : List ℕ) (parent : Option ℕ)
      → ((shadow : ℕ) → shadow ≢ e → parent ≡ Some shadow → IsSameShadow (number shadow) (later shadow))
      → IsMadeOf setup number e image pages parent → IsMadeOf setup later e image pages parent
  made_frame later e image pages None same made = made
  made_frame later e image pages (Some shadow) same made =
      let kept = same shadow made.other refl in
      record { sealed = kept.state ∙ made.sealed; whole = kept.parent ∙ made.whole; same = kept.image ∙ made.same; other = made.other; none = made.none }

  number_frame : (later : ℕ → Number) (e : ℕ) (n : Number) → ((shadow : ℕ) → shadow ≢ e → n.parent ≡ Some shadow → IsSameShadow (number shadow) (later shadow))
      → NumberStands setup number e n → NumberStands setup later e n
  number_frame later e n same k = record {
    free = k.free;
    made = λ there. made_frame later e n.image n.pages n.parent same (k.made there);
    image = k.image;
    sealed = k.sealed;
    building = k.building;
    still = k.still;
    live = k.live;
    once = k.once;
    few = k.few;
  }

  -- what a number that was forked has
  pub fork_of : ShadowsStand setup number → (e shadow : ℕ) → (number e).parent ≡ Some shadow → IsFork number e shadow (number e).image (number e).pages
  fork_of k e shadow forked = from (is_free (number e).state) refl
    where
      from : (b : Bool) → is_free (number e).state ≡ b → IsFork number e shadow (number e).image (number e).pages
      from true is = absurd (let h : None ≡ Some shadow = sym ((k.numbers e).free is).0 ∙ forked in cc)
      from false is = subst (IsMadeOf setup number e (number e).image (number e).pages) forked ((k.numbers e).made is)

  -- a number that isn't sealed has no forks
  pub no_forks : ShadowsStand setup number → (e : ℕ) → ((number e).state ≡ state_is.Sealed → ⊥) → (fork : ℕ) → (number fork).parent ≡ Some e → ⊥
  no_forks k e unsealed fork forked = unsealed (fork_of k fork e forked).sealed

  module _ (k : ShadowsStand setup number) where
    -- one number becomes another, and its forks stay
    pub set_stands : (e : ℕ) (now : Number) → e < setup.enclaves → NumberStands setup number e now → ((fork : ℕ) → (number fork).parent ≡ Some e → IsSameShadow (number e) now)
        → ShadowsStand setup (λ f. if f == e then now else number f)
    set_stands e now inside own forks = record {
      numbers = λ f. at f (f == e) refl;
      beyond = λ f past. past_at f past (f == e) refl;
    }
      where
        same_at : (shadow : ℕ) (b : Bool) → (shadow == e) ≡ b → (shadow ≡ e → IsSameShadow (number shadow) now) → IsSameShadow (number shadow) (if b then now else number shadow)
        same_at shadow true is same = same (eqb-true shadow e is)
        same_at shadow false is same = record { state = refl; parent = refl; image = refl }

        at : (f : ℕ) (b : Bool) → (f == e) ≡ b → NumberStands setup (λ g. if g == e then now else number g) f (if b then now else number f)
        at f true is =
            subst (λ g. NumberStands setup (λ h. if h == e then now else number h) g now) (sym (eqb-true f e is))
            (number_frame (λ g. if g == e then now else number g) e now (λ shadow other parent. same_at shadow (shadow == e) refl (λ same. absurd (other same))) own)
        at f false is =
            number_frame (λ g. if g == e then now else number g) f (number f)
            (λ shadow other parent. same_at shadow (shadow == e) refl (λ same. subst (λ x. IsSameShadow (number x) now) (sym same) (forks f (parent ∙ ap Some same))))
            (k.numbers f)

        past_at : (f : ℕ) → setup.enclaves ≤ f → (b : Bool) → (f == e) ≡ b → (if b then now else number f).state ≡ state_is.Free
        past_at f past true is = absurd (let same = eqb-true f e is in omega arith)
        past_at f past false is = k.beyond f past

    -- ---- what a number becomes

    pub freed_stands : (e : ℕ) → NumberStands setup number e (freed (number e))
    freed_stands e = record {
      free = λ is. (refl, refl, refl);
      made = λ is. cc;
      image = λ is. cc;
      sealed = λ is. cc;
      building = λ is none. refl;
      still = λ is. refl;
      live = λ is. cc;
      once = refl;
      few = omega arith;
    }

    pub building_stands : (e image : ℕ) (i : Image) (pages : List ℕ) → slice_get setup.images image ≡ Some i → length pages ≡ image_page_count setup image
        → first_twice pages ≡ None
        → NumberStands setup number e (record (freed (number e)) { state = state_is.Building; image = image; pages = pages })
    building_stands e image i pages there count once = record {
      free = λ is. cc;
      made = λ is. count;
      image = λ is. (i, there);
      sealed = λ is. cc;
      building = λ is none. refl;
      still = λ is. refl;
      live = λ is. cc;
      once = ap first_twice (append-nil pages) ∙ once;
      few = omega arith;
    }

    pub forking_stands : (e shadow : ℕ) (pages : List ℕ) → (number shadow).state ≡ state_is.Sealed → is_free (number e).state ≡ true → first_twice pages ≡ None
        → length pages ≤ most_spares
        → NumberStands setup number e (record (freed (number e)) { state = state_is.Building; image = (number shadow).image; spares = pages; parent = Some shadow })
    forking_stands e shadow pages sealed free once few = record {
      free = λ is. cc;
      made = λ is.
          record { sealed = sealed; whole = ((k.numbers shadow).sealed sealed).0; same = refl; other = λ same. not_free (sym (ap (λ x. (number x).state) same) ∙ sealed) free; none = refl };
      image = λ is. (k.numbers shadow).image (ap is_free sealed);
      sealed = λ is. cc;
      building = λ is none. cc;
      still = λ is. refl;
      live = λ is. cc;
      once = once;
      few = few;
    }
      where
        not_free : (number e).state ≡ state_is.Sealed → is_free (number e).state ≡ true → ⊥
        not_free is free = false≢true (sym (ap is_free is) ∙ free)

    -- a state and what goes with it change, and not what the number is made of
    pub state_stands : (e : ℕ) (state : State) (live : Bool) (hart : ℕ) (sent : List ℕ) (taken retired : ℕ) → is_free (number e).state ≡ false → is_free state ≡ false
        → (state ≡ state_is.Sealed → ((number e).parent ≡ None) × ((number e).spares ≡ []))
        → (state ≡ state_is.Building → ⊥)
        → (is_wordless state ≡ true → live ≡ false) → (is_wordless state ≡ false → (live ≡ true) ⊎ (state ≡ state_is.Faulted))
        → NumberStands setup number e (record (number e) { state = state; live = live; hart = hart; sent = sent; taken = taken; retired = retired })
    state_stands e state live hart sent taken retired before after sealed building still lively = record {
      free = λ is. absurd (false≢true (sym after ∙ is));
      made = λ is. (k.numbers e).made before;
      image = λ is. (k.numbers e).image before;
      sealed = sealed;
      building = λ is. absurd (building is);
      still = still;
      live = lively;
      once = (k.numbers e).once;
      few = (k.numbers e).few;
    }

    -- words go in and out before and after
    pub ready_stands : (e : ℕ) (state : State) (live : Bool) (hart : ℕ) (sent : List ℕ) (taken retired : ℕ) → is_free (number e).state ≡ false → is_wordless state ≡ false
        → (live ≡ true) ⊎ (state ≡ state_is.Faulted)
        → NumberStands setup number e (record (number e) { state = state; live = live; hart = hart; sent = sent; taken = taken; retired = retired })
    ready_stands e state live hart sent taken retired before worded lively =
        let ready = ready_state state worded in
        state_stands e state live hart sent taken retired before ready.free (λ is. absurd (ready.sealed is)) ready.building (λ is. absurd (false≢true (sym worded ∙ is))) (λ is. lively)

    pub granted_stands : (e page : ℕ) → is_wordless (number e).state ≡ false → is_among (pages_taken (number e)) page ≡ false → length (number e).spares + 1 ≤ most_spares
        → NumberStands setup number e (record (number e) { spares = (number e).spares ++ page ∷ [] })
    granted_stands e page worded absent few =
        let n = number e in
        let ready = ready_state n.state worded in
        record {
          free = λ is. absurd (false≢true (sym ready.free ∙ is));
          made = (k.numbers e).made;
          image = (k.numbers e).image;
          sealed = λ is. absurd (ready.sealed is);
          building = λ is. absurd (ready.building is);
          still = (k.numbers e).still;
          live = (k.numbers e).live;
          once = ap first_twice (sym (append_assoc n.pages n.spares (page ∷ []))) ∙ once_more (pages_taken n) page (k.numbers e).once absent;
          few = (let more = length-append n.spares (page ∷ []) in let one : length (page ∷ []) ≡ 1 = refl in omega arith);
        }

    -- ---- two pages

    -- two places of one page are one place
    pub taken_once : (e i j page : ℕ) → slice_get (pages_taken (number e)) i ≡ Some page → slice_get (pages_taken (number e)) j ≡ Some page → i ≡ j
    taken_once e i j page here there = stands_once (pages_taken (number e)) (k.numbers e).once i j page here there

    -- a number that is live lets words in and out
    pub live_worded : (e : ℕ) → (number e).live ≡ true → is_wordless (number e).state ≡ false
    live_worded e live = from (is_wordless (number e).state) refl
      where
        from : (b : Bool) → is_wordless (number e).state ≡ b → is_wordless (number e).state ≡ false
        from true still = absurd (false≢true (sym ((k.numbers e).still still) ∙ live))
        from false worded = worded

    -- ---- images

    -- the image that a number is made of, as the flat machine has it, and how many pages it has
    pub number_image : (e : ℕ) → is_free (number e).state ≡ false
        → (i : Image) × (image_at setup (number e).image ≡ Some (flat_image i)) × (image_page_count setup (number e).image ≡ length (flat_image i).pages)
    number_image e there =
        let i = (k.numbers e).image there in (
          i.0,
          ap (option_map flat_image) i.1,
          ap (λ (o : Option Image). option_map_or (λ (x : Image). length x.pages) o 0) i.1 ∙ sym (length-map i.0.pages flat_page),
        )

    -- a shadow has a page for each page of its fork's image
    pub shadow_pages : (e shadow : ℕ) → (number e).parent ≡ Some shadow → length (number shadow).pages ≡ image_page_count setup (number e).image
    shadow_pages e shadow forked =
        let fork = fork_of k e shadow forked in
        subst (IsMadeOf setup number shadow (number shadow).image (number shadow).pages) fork.whole ((k.numbers shadow).made (ap is_free fork.sealed)) ∙ ap (image_page_count setup) fork.same
