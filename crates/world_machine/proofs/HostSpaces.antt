-- The host's space in a kept world: where its mappings lead, that its tables walk to exactly these, and which accesses a hart may make.
use Rattle.std.proofs.Common.{◌≡◌, ◌⊎◌, ℕ, ◌+◌, ◌*◌, ◌<◌, ◌≤◌, ◌==◌, eqb, Bool, true, false, cond, List, [], ◌∷◌, count_by, filter, Option, Some, None, refl, sym, ap, ◌∙◌, subst, arith, inl, inr}
use Rattle.std.specs.Prelude.{IsTrue}
use Rattle.std.specs.List.{All}
use Rattle.std.proofs.lemmas.Bool.{cases_Bool, eq-eqb}
use Rattle.std.proofs.lemmas.List.Elements.{All-filter, All-map}
use Rattle.std.proofs.lemmas.List.Sums.{sum_by-cons}
use Rattle.pl_base.specs.Perms.{are_page_perms, grants}
use Rattle.pl_base.specs.declared.access.Kind.{Kind}
use Rattle.pl_base.specs.declared.access.Mode.TheVariants.{Super}
use Rattle.pl_base.specs.declared.refusal.No.TheVariants.{PageFault}
use Rattle.mon_host.specs.Laws.{LeadInside, mirror_words}
use Rattle.mon_tables.specs.Space.{Mapping, mapping_at}
use Rattle.mon_tables.specs.SpaceWalks.{IsMappable, WalksTo}
use Rattle.mon_tables.specs.Tables.{root_of}
use Rattle.mon_tables.proofs.HostWalks.{host_walks}
use Rattle.pl_history.specs.declared.answer.Answer.{Answer}
use Rattle.pl_history.specs.declared.answer.Answer.TheVariants as answer_is
use Rattle.pl_history.specs.HostAccess.{AnswersBy, mapping_used}
use Rattle.pl_history.specs.HostMappings.{MappingsStand}
use Rattle.pl_history.specs.Monitor.{Monitor, Removal, is_host, removed_at}
use Rattle.pl_history.specs.OwnedPages.{PagesStand}
use Rattle.pl_history.proofs.HostMappings.{counts_none, counts_one, legal_mappings}
use Rattle.pl_history.proofs.OwnedPages.{legal_pages}
use Rattle.world_machine.specs.FencesStand.{removals_by}
use Rattle.world_machine.specs.Standing.{Kept, state_of}
use Rattle.world_machine.specs.TranslationsAgree.{MayUse}
use Rattle.world_machine.specs.Worlds.{WorldData}
use Rattle.world_machine.proofs.EachMapping.{EachMapping}
use Rattle.world_machine.proofs.FoundElements.{none_found}
use Rattle.world_machine.proofs.HostPerms.{HasPerms, legal_perms}
use Rattle.world_machine.proofs.MadeTables.{few_zones}
use Rattle.world_machine.proofs.MappingTranslations.{page_granted}
use Rattle.world_machine.proofs.NumberRows.{host_within}
use Rattle.world_machine.proofs.TranslationFrames.{few_tables}
use Rattle.world_machine.proofs.WalkLemmas.{found}

-- ---- mappings by their addresses

-- a hart's removals: what holds of each holds of the first
first_removal : (P : Mapping → Type 0) (removals : List Removal) (hart : ℕ) (m : Mapping) (rest : List Mapping) → All (λ (r : Removal). P r.mapping) removals → removals_by removals hart ≡ m ∷ rest → P m
first_removal P removals hart m rest all is =
    subst (All P) is
    (All-map P (λ (r : Removal). r.mapping) (filter (λ (r : Removal). r.hart == hart) removals)
    (All-filter (λ (r : Removal). r.hart == hart) (λ (r : Removal). P r.mapping) removals all)) 0 m (omega arith)

abbrev removed_of : ℕ → List Removal → ℕ
removed_of vpn removals = count_by (λ (r : Removal). r.mapping.vpn == vpn) removals

-- one more removal of an address
more_removed : (r : Removal) (removals : List Removal) (vpn : ℕ) → removed_of vpn (r ∷ removals) ≡ cond {A = ℕ} (eqb r.mapping.vpn vpn) 1 0 + removed_of vpn removals
more_removed r removals vpn = sum_by-cons (λ (x : Removal). cond {A = ℕ} (eqb x.mapping.vpn vpn) 1 0) r removals

-- a hart's first removal, where it is its own
own_removal : (r : Removal) (removals : List Removal) (hart : ℕ) (m : Mapping) → removals_by (r ∷ removals) hart ≡ m ∷ [] → eqb r.hart hart ≡ true → r.mapping ≡ m
own_removal r removals hart m is own = (let same : r.mapping ∷ removals_by removals hart ≡ m ∷ [] = rw own at is in cc)

same_vpn : (a b : Mapping) → a ≡ b → eqb a.vpn b.vpn ≡ true
same_vpn a b is = eq-eqb a.vpn b.vpn (ap (λ (x : Mapping). x.vpn) is)

-- it is counted among all removals
removal_counted : (removals : List Removal) (hart : ℕ) (m : Mapping) → removals_by removals hart ≡ m ∷ [] → 1 ≤ removed_of m.vpn removals
removal_counted [] hart m is = (let h : [] ≡ m ∷ [] = is in cc)
removal_counted (r ∷ removals) hart m is =
    let more = more_removed r removals m.vpn in
    elim (cases_Bool (eqb r.hart hart)) [
      | inl own ↦ (let one = counts_one (eqb r.mapping.vpn m.vpn) (same_vpn r.mapping m (own_removal r removals hart m is own)) in omega (arith, more, one))
      | inr other ↦ (let later = removal_counted removals hart m (rw other at is) in omega (arith, more, later))
    ]

-- where only one is of its address, it is the one that is found
removal_found : (removals : List Removal) (hart : ℕ) (m : Mapping) → removals_by removals hart ≡ m ∷ [] → removed_of m.vpn removals ≤ 1 → removed_at removals m.vpn ≡ Some m
removal_found [] hart m is few = (let h : [] ≡ m ∷ [] = is in cc)
removal_found (r ∷ removals) hart m is few =
    let more = more_removed r removals m.vpn in
    elim (cases_Bool (eqb r.hart hart)) [
      | inl own ↦ (let here = own_removal r removals hart m is own in rw (same_vpn r.mapping m here) (ap Some here))
      | inr other ↦ (
          let there : removals_by removals hart ≡ m ∷ [] = rw other at is in
          elim (cases_Bool (eqb r.mapping.vpn m.vpn)) [
            | inl same ↦ (
                let one = counts_one (eqb r.mapping.vpn m.vpn) same in
                let counted = removal_counted removals hart m there in
                absurd (omega (arith, few, more, one, counted))
                )
            | inr differs ↦ (let none = counts_none (eqb r.mapping.vpn m.vpn) differs in rw differs (removal_found removals hart m there (omega (arith, few, more, none))))
          ]
          )
    ]

module _ (digest_of : List ℕ → List ℕ) (w : WorldData) (k : Kept digest_of w) where
  abbrev s : Monitor
  s = state_of w

  -- ---- where the mappings lead

  pages : PagesStand w.setup s
  pages = legal_pages.stand w.setup w.history.bytes w.history.entries k.legal

  perms : EachMapping HasPerms s.space s.removals
  perms = legal_perms w.setup k.sizes.rules w.history.bytes w.history.entries k.legal

  mappings : MappingsStand w.setup.tables s.space s.removals
  mappings = legal_mappings.stand w.setup w.history.bytes w.history.entries k.legal

  pub host_leads : LeadInside (64 * w.ctl.zones) s.space
  host_leads i d within = (host_within digest_of w k _ (pages.mapped i d within), perms.mapped i d within)

  pub few_pages : 64 * w.ctl.zones ≤ 4096
  few_pages =
      let zones : w.ctl.zones ≡ w.setup.zones = k.sizes.zones in
      let few : w.setup.zones ≤ 64 = few_zones digest_of w k in
      omega arith

  pub host_mappable : All IsMappable s.space
  host_mappable i d within =
      let leads = host_leads i d within in
      record { perms = leads.1; page = (let below = leads.0 in let few = few_pages in omega (arith, below, few)) }

  -- the host's root walks to its space
  pub host_walk : WalksTo (mirror_words w.ctl) (root_of w.setup.tables 0) Super s.space
  host_walk vpn inside mode kind = host_walks w.setup.tables (mirror_words w.ctl) s.space (few_tables digest_of w k) host_mappable k.stands.translations.tables.host vpn inside mode kind

  -- the page of a removal is the host's
  pub removed_host : (hart : ℕ) (m : Mapping) (rest : List Mapping) → removals_by s.removals hart ≡ m ∷ rest → is_host (s.owner m.page) ≡ true
  removed_host hart m rest is = first_removal (λ (x : Mapping). is_host (s.owner x.page) ≡ true) s.removals hart m rest pages.removed is

  -- ---- a mapping that a hart may use

  module _ (hart : ℕ) (m : Mapping) where
    -- what holds of all mappings holds of it
    used_holds : (P : Mapping → Type 0) → All P s.space → All (λ (r : Removal). P r.mapping) s.removals → MayUse s w.fences hart m → P m
    used_holds P mapped removed (inl is) = (found P (λ (x : Mapping). x.vpn == m.vpn) s.space m mapped is).0
    used_holds P mapped removed (inr under_way) = first_removal P s.removals under_way.poster m [] removed under_way.removal

    -- its page is the host's
    pub used_host : MayUse s w.fences hart m → is_host (s.owner m.page) ≡ true
    used_host = used_holds (λ (x : Mapping). is_host (s.owner x.page) ≡ true) pages.mapped pages.removed

    pub used_inside : MayUse s w.fences hart m → m.page < 64 * w.ctl.zones
    used_inside may = host_within digest_of w k m.page (used_host may)

    pub used_perms : MayUse s w.fences hart m → IsTrue (are_page_perms m.perms)
    used_perms = used_holds (λ (x : Mapping). IsTrue (are_page_perms x.perms)) perms.mapped perms.removed

    -- the space has it, or has none of its address, and it is the one that is being taken away
    pub used_is : MayUse s w.fences hart m → (mapping_at s.space m.vpn ≡ Some m) ⊎ ((mapping_at s.space m.vpn ≡ None) × (removed_at s.removals m.vpn ≡ Some m))
    used_is (inl is) = inl is
    used_is (inr under_way) =
        let once = mappings.once m.vpn in
        let counted = removal_counted s.removals under_way.poster m under_way.removal in
        inr (none_found (λ (x : Mapping). x.vpn == m.vpn) s.space (omega (arith, once, counted)), removal_found s.removals under_way.poster m under_way.removal (omega (arith, once)))

    -- so an access that it serves is answered by it
    pub used_answers : (by : Mapping → Answer) → MayUse s w.fences hart m → AnswersBy by (mapping_at s.space m.vpn) (removed_at s.removals m.vpn) (by m)
    used_answers by may = elim (used_is may) [
      | inl is ↦ subst (λ o. AnswersBy by o (removed_at s.removals m.vpn) (by m)) (sym is) refl
      | inr none ↦ subst (λ o. AnswersBy by o (removed_at s.removals m.vpn) (by m)) (sym none.0) (subst (λ o. AnswersBy by None o (by m)) (sym none.1) (inl refl))
    ]

    -- and it is the one that a store goes by
    pub used_mapping : MayUse s w.fences hart m → mapping_used (mapping_at s.space m.vpn) (removed_at s.removals m.vpn) ≡ Some m
    used_mapping may = elim (used_is may) [
      | inl is ↦ ap (λ o. mapping_used o (removed_at s.removals m.vpn)) is
      | inr none ↦ ap (λ o. mapping_used o (removed_at s.removals m.vpn)) none.0 ∙ none.1
    ]

-- where the space lets nothing through, there is no page for an access
pub denied_answers : (kind : Kind) (by : Mapping → Answer) (mapped removed : Option Mapping) → page_granted kind mapped ≡ None
    → ((m : Mapping) → grants m.perms kind ≡ false → by m ≡ answer_is.No PageFault) → AnswersBy by mapped removed (answer_is.No PageFault)
denied_answers kind by None None denied forbids = refl
denied_answers kind by None (Some m) denied forbids = inr refl
denied_answers kind by (Some m) removed denied forbids = sym (forbids m (by_test (grants m.perms kind) denied))
  where
    by_test : (g : Bool) → cond g (Some m.page) None ≡ None → g ≡ false
    by_test true is = cc
    by_test false is = refl
