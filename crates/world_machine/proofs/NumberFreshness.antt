-- Which translations a hart may still use when a number is given back, and when a page of one is broken: when that begins, and when it ends.
use Rattle.std.proofs.Common.{◌≡◌, ◌≢◌, ◌⊎◌, ℕ, ◌+◌, ◌<◌, eqb, ltb, true, false, List, length, Option, Some, None, slice_set, refl, sym, ap, ◌∙◌, subst, inl, inr}
use Rattle.std.proofs.lemmas.Bool.{cases_Bool, eqb-false, eqb-true, false≢true, lt-ltb, ne_eqb}
use Rattle.std.specs.List.{All}
use Rattle.pl_base.specs.declared.address.Vpn.{Vpn}
use Rattle.pl_base.specs.declared.number.Space.{Space}
use Rattle.pl_base.specs.HartSet.{harts_below, without_hart}
use Rattle.rv_tlb.specs.declared.tlb.TlbEntry.{TlbEntry}
use Rattle.mon_enclave.specs.declared.enclave.Enclave.{Enclave}
use Rattle.mon_fence.specs.declared.fences.Fence.{Fence}
use Rattle.mon_fence.specs.Fences.{AreFences, fence_of, lacking, needs, posted}
use Rattle.mon_fence.proofs.Needs.{fence_of-set_other, fence_of-set_same, posted_all}
use Rattle.mon_tables.specs.Space.{Mapping, mapping_at}
use Rattle.pl_history.specs.declared.setup.SetupParts.{SetupParts}
use Rattle.pl_history.specs.Monitor.{Monitor}
use Rattle.world_machine.specs.Acknowledging.{without_covered}
use Rattle.world_machine.specs.FencesStand.{IsOpen, IsOwed, removals_by}
use Rattle.world_machine.specs.TranslationsAgree.{IsFresh, MayUse, MayUseNumber, entry_of, space_of}
use Rattle.world_machine.proofs.Freshness.{covered_by, is_covered, lacks_none, left_all, owed_other}

-- the host's space and removals stay, and so does the space of each live number but one
pub record AllButOneSpace (setup : SetupParts) (rec rec' : ℕ → Enclave) (s s' : Monitor) (e : ℕ) : Type 0 where
  pub space : s'.space ≡ s.space
  pub removals : s'.removals ≡ s.removals
  pub lives : (f : ℕ) → f ≢ e → (s.number f).live ≡ true → (s'.number f).live ≡ true
  pub spaces : (f : ℕ) → f ≢ e → (s.number f).live ≡ true → space_of setup (rec' f) ≡ space_of setup (rec f)

module _ (setup : SetupParts) (rec rec' : ℕ → Enclave) (s s' : Monitor) (e : ℕ) (stay : AllButOneSpace setup rec rec' s s' e) (fences : List (Option Fence)) (poster : ℕ) where
  -- what a hart may use, and which translations are fresh, before and after
  abbrev UsedBefore : ℕ → ℕ → Mapping → Type 0
  UsedBefore = MayUseNumber setup rec s fences

  abbrev UsedWith : List (Option Fence) → ℕ → ℕ → Mapping → Type 0
  UsedWith after = MayUseNumber setup rec' s' after

  abbrev FreshBefore : ℕ → TlbEntry → Type 0
  FreshBefore = IsFresh setup rec s fences

  abbrev FreshWith : List (Option Fence) → ℕ → TlbEntry → Type 0
  FreshWith after = IsFresh setup rec' s' after

  -- ---- the fence of a hart that needs nobody changes

  module _ (nobody : (hart : ℕ) → needs (fence_of fences poster) hart ≡ false) (now : Option Fence) where
    abbrev changed : List (Option Fence)
    changed = slice_set fences poster now

    not_poster : (hart other : ℕ) → needs (fence_of fences other) hart ≡ true → other ≢ poster
    not_poster hart other needed same = false≢true (sym (nobody hart) ∙ ap (λ p. needs (fence_of fences p) hart) (sym same) ∙ needed)

    owed_stays : (hart f vpn : ℕ) → IsOwed fences hart f vpn → IsOwed changed hart f vpn
    owed_stays hart f vpn owed = owed_other fences poster now hart f vpn owed (not_poster hart owed.poster owed.needed)

    open_stays : (hart : ℕ) (m : Mapping) → IsOpen fences s.removals hart m → IsOpen changed s'.removals hart m
    open_stays hart m opened = record {
      poster = opened.poster;
      removal = ap (λ removals. removals_by removals opened.poster) stay.removals ∙ opened.removal;
      needed = ap (λ f. needs f hart) (fence_of-set_other fences poster opened.poster now (not_poster hart opened.poster opened.needed)) ∙ opened.needed;
    }

    host_used : (hart : ℕ) (m : Mapping) → MayUse s fences hart m → MayUse s' changed hart m
    host_used hart m (inl there) = inl (ap (λ ms. mapping_at ms m.vpn) stay.space ∙ there)
    host_used hart m (inr opened) = inr (open_stays hart m opened)

    other_used : (hart f : ℕ) (m : Mapping) → f ≢ e → UsedBefore hart f m → UsedWith changed hart f m
    other_used hart f m other (inl (live, there)) = inl (stay.lives f other live, ap (λ space. mapping_at space m.vpn) (stay.spaces f other live) ∙ there)
    other_used hart f m other (inr owed) = inr (owed_stays hart f m.vpn owed)

    module _ (hart : ℕ) where
      -- what holds of the one number is enough
      number_used : ((m : Mapping) → UsedBefore hart e m → UsedWith changed hart e m) → (f : ℕ) (m : Mapping) → UsedBefore hart f m → UsedWith changed hart f m
      number_used own f m used = elim (cases_Bool (eqb f e)) [
        | inr other ↦ other_used hart f m (eqb-false f e other) used
        | inl same ↦
            let is : f ≡ e = eqb-true f e same in
            subst (λ n. UsedWith changed hart n m) (sym is) (own m (subst (λ n. UsedBefore hart n m) is used))
      ]

      stays_fresh : ((f : ℕ) (m : Mapping) → UsedBefore hart f m → UsedWith changed hart f m) → (entry : TlbEntry) → FreshBefore hart entry → FreshWith changed hart entry
      stays_fresh used entry (inl host) = inl (record { mapping = host.mapping; is = host.is; fresh = host_used hart host.mapping host.fresh })
      stays_fresh used entry (inr number) = inr (record { e = number.e; mapping = number.mapping; is = number.is; fresh = used number.e number.mapping number.fresh })

  -- ---- a hart without a fence posts one of the number's space, or of a page there

  module _ (vpn : Option Vpn) (no_fence : fence_of fences poster ≡ None) (are : AreFences fences) (few : poster < length fences) where
    abbrev space : Space
    space = record { 0 = e + 1 }

    abbrev posting : List (Option Fence)
    posting = posted fences poster space vpn

    needs_nobody : (hart : ℕ) → needs (fence_of fences poster) hart ≡ false
    needs_nobody hart = ap (λ f. needs f hart) no_fence

    -- every other hart owes it
    posted_owed : (hart page : ℕ) → hart < length fences → hart ≢ poster → (vpn ≡ None) ⊎ (vpn ≡ Some (record { 0 = page })) → IsOwed posting hart e page
    posted_owed hart page below differ of_page =
        let inside : ltb hart (length fences) ≡ true = lt-ltb hart (length fences) below in
        let apart : eqb hart poster ≡ false = ne_eqb hart poster differ in
        record {
          poster = poster;
          fence = record { space = space; vpn = vpn; need = without_hart (harts_below (length fences)) poster };
          is = fence_of-set_same fences poster _ few;
          of_number = refl;
          of_page = of_page;
          needed = posted_all fences poster space vpn hart are few ∙ rw (inside, apart) refl;
        }

    -- the hart itself drops what the fence covers at once, and keeps all else, where it may use what is left of the number
    module _ (own : (m : Mapping) → is_covered space vpn (entry_of space m) ≡ false → UsedBefore poster e m → UsedWith posting poster e m) where
      posted_own : (entry : TlbEntry) → is_covered space vpn entry ≡ false → FreshBefore poster entry → FreshWith posting poster entry
      posted_own entry passed (inl host) = inl (record { mapping = host.mapping; is = host.is; fresh = host_used needs_nobody _ poster host.mapping host.fresh })
      posted_own entry passed (inr number) =
          inr (record { e = number.e; mapping = number.mapping; is = number.is; fresh = by_number (subst (λ x. is_covered space vpn x ≡ false) number.is passed) number.fresh })
        where
          by_number : is_covered space vpn (entry_of (record { 0 = number.e + 1 }) number.mapping) ≡ false → UsedBefore poster number.e number.mapping
              → UsedWith posting poster number.e number.mapping
          by_number uncovered used = elim (cases_Bool (eqb number.e e)) [
            | inr other ↦ other_used needs_nobody _ poster number.e number.mapping (eqb-false number.e e other) used
            | inl same ↦
                let is : number.e ≡ e = eqb-true number.e e same in
                subst (λ n. UsedWith posting poster n number.mapping) (sym is)
                (own number.mapping (subst (λ n. is_covered space vpn (entry_of (record { 0 = n + 1 }) number.mapping) ≡ false) is uncovered)
                (subst (λ n. UsedBefore poster n number.mapping) is used))
          ]

      pub posted_entries : (entries : List TlbEntry) → All (FreshBefore poster) entries → All (FreshWith posting poster) (without_covered entries space vpn)
      posted_entries entries all = left_all (FreshBefore poster) (FreshWith posting poster) space vpn posted_own entries all

  -- ---- giving back begins

  module _ (no_fence : fence_of fences poster ≡ None) (are : AreFences fences) (few : poster < length fences) where
    abbrev giving : List (Option Fence)
    giving = posted fences poster (record { 0 = e + 1 }) None

    -- every other hart owes the fence of the number's whole space
    pub dying_used : (hart f : ℕ) (m : Mapping) → hart < length fences → hart ≢ poster → UsedBefore hart f m → UsedWith giving hart f m
    dying_used hart f m below differ =
        number_used (needs_nobody None no_fence are few) _ hart (λ m used. inr (posted_owed None no_fence are few hart m.vpn below differ (inl refl))) f m

    pub dying_fresh : (hart : ℕ) → hart < length fences → hart ≢ poster → (entry : TlbEntry) → FreshBefore hart entry → FreshWith giving hart entry
    dying_fresh hart below differ = stays_fresh (needs_nobody None no_fence are few) _ hart (λ f m. dying_used hart f m below differ)

    pub dying_entries : (entries : List TlbEntry) → All (FreshBefore poster) entries → All (FreshWith giving poster) (without_covered entries (record { 0 = e + 1 }) None)
    dying_entries = posted_entries None no_fence are few (λ m uncovered used. absurd (false≢true (sym uncovered ∙ covered_by e m None (inl refl))))

  -- ---- giving back ends, once nobody's acknowledgement is lacking

  module _ (nobody : lacking (fence_of fences poster) ≡ None) (ended : (s.number e).live ≡ false) where
    needs_none : (hart : ℕ) → needs (fence_of fences poster) hart ≡ false
    needs_none hart = lacks_none (fence_of fences poster) hart nobody

    given_own : (hart : ℕ) (m : Mapping) → UsedBefore hart e m → UsedWith (slice_set fences poster None) hart e m
    given_own hart m (inl (live, there)) = absurd (false≢true (sym ended ∙ live))
    given_own hart m (inr owed) = inr (owed_stays needs_none None hart e m.vpn owed)

    pub given_used : (hart f : ℕ) (m : Mapping) → UsedBefore hart f m → UsedWith (slice_set fences poster None) hart f m
    given_used hart = number_used needs_none None hart (given_own hart)

    pub given_fresh : (hart : ℕ) (entry : TlbEntry) → FreshBefore hart entry → FreshWith (slice_set fences poster None) hart entry
    given_fresh hart = stays_fresh needs_none None hart (given_used hart)

  -- ---- a page of the number is broken: its space is another at that page alone

  module _ (vpn : Vpn) (lives : (s.number e).live ≡ true → (s'.number e).live ≡ true)
      (same : (page : ℕ) → page ≢ vpn.0 → mapping_at (space_of setup (rec' e)) page ≡ mapping_at (space_of setup (rec e)) page)
      (no_fence : fence_of fences poster ≡ None) (are : AreFences fences) (few : poster < length fences) where
    abbrev breaking : List (Option Fence)
    breaking = posted fences poster (record { 0 = e + 1 }) (Some vpn)

    -- the other pages
    broken_other : (hart : ℕ) (m : Mapping) → m.vpn ≢ vpn.0 → UsedBefore hart e m → UsedWith breaking hart e m
    broken_other hart m other (inl (live, there)) = inl (lives live, same m.vpn other ∙ there)
    broken_other hart m other (inr owed) = inr (owed_stays (needs_nobody (Some vpn) no_fence are few) _ hart e m.vpn owed)

    broken_own : (hart : ℕ) → hart < length fences → hart ≢ poster → (m : Mapping) → UsedBefore hart e m → UsedWith breaking hart e m
    broken_own hart below differ m used = elim (cases_Bool (eqb m.vpn vpn.0)) [
      | inr other ↦ broken_other hart m (eqb-false m.vpn vpn.0 other) used
      | inl here ↦ inr (posted_owed (Some vpn) no_fence are few hart m.vpn below differ (inr (λ i. Some (record { 0 = sym (eqb-true m.vpn vpn.0 here) i }))))
    ]

    -- another hart owes the fence of that page
    pub broken_fresh : (hart : ℕ) → hart < length fences → hart ≢ poster → (entry : TlbEntry) → FreshBefore hart entry → FreshWith breaking hart entry
    broken_fresh hart below differ =
        stays_fresh (needs_nobody (Some vpn) no_fence are few) _ hart (number_used (needs_nobody (Some vpn) no_fence are few) _ hart (broken_own hart below differ))

    pub broken_entries : (entries : List TlbEntry) → All (FreshBefore poster) entries → All (FreshWith breaking poster) (without_covered entries (record { 0 = e + 1 }) (Some vpn))
    broken_entries = posted_entries (Some vpn) no_fence are few (λ m uncovered. broken_other poster m (λ here. false≢true (sym uncovered
        ∙ covered_by e m (Some vpn) (inr (λ i. Some (record { 0 = sym here i }))))))

-- ---- a fence is left, once nobody's acknowledgement is lacking, and nothing else changes

pub left_fresh : (setup : SetupParts) (rec : ℕ → Enclave) (s : Monitor) (fences : List (Option Fence)) (poster : ℕ) → lacking (fence_of fences poster) ≡ None
    → (hart : ℕ) (entry : TlbEntry) → IsFresh setup rec s fences hart entry → IsFresh setup rec s (slice_set fences poster None) hart entry
left_fresh setup rec s fences poster nobody hart = stays_fresh setup rec rec s s 0 stay fences poster none None hart used
  where
    stay : AllButOneSpace setup rec rec s s 0
    stay = record { space = refl; removals = refl; lives = λ f other live. live; spaces = λ f other live. refl }

    none : (other : ℕ) → needs (fence_of fences poster) other ≡ false
    none other = lacks_none (fence_of fences poster) other nobody

    used : (f : ℕ) (m : Mapping) → MayUseNumber setup rec s fences hart f m → MayUseNumber setup rec s (slice_set fences poster None) hart f m
    used f m (inl there) = inl there
    used f m (inr owed) = inr (owed_stays setup rec rec s s 0 stay fences poster none None hart f m.vpn owed)
