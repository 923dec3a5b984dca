-- What accesses by way of a translation need, and `map`, `unmap` and acknowledgements, from what every reached world keeps.
use Rattle.std.proofs.Common.{◌≡◌, ℕ, ◌+◌, ◌-◌, ◌*◌, ◌%◌, ◌^◌, ◌<◌, ◌≤◌, ◌==◌, Bool, true, false, cond, if◌then◌else◌, List, [], ◌∷◌, length, slice_get, unwrap_or, Option, Some, None, option_map, refl, sym, ◌∙◌, subst, arith}
use Rattle.std.specs.Prelude.{IsTrue}
use Rattle.std.proofs.lemmas.Bool.{eq-eqb}
use Rattle.std.proofs.lemmas.Bool.Decides.{nat_tests}
use Rattle.pl_base.specs.Address.{IsPpn}
use Rattle.pl_base.specs.Perms.{are_page_perms}
use Rattle.pl_base.specs.declared.access.Kind.{Kind}
use Rattle.pl_base.specs.declared.address.Pa.{Pa}
use Rattle.pl_base.specs.declared.address.Va.{Va}
use Rattle.pl_base.specs.declared.perms.Perms.{Perms}
use Rattle.rv_alone.specs.declared.step.Act.{Act}
use Rattle.rv_alone.specs.declared.step.Act.TheVariants as act_is
use Rattle.rv_hart.specs.declared.seeking.Sought.{Sought}
use Rattle.rv_hart.specs.declared.seeking.Sought.TheVariants.{Table, At, PageFault}
use Rattle.rv_hart.specs.declared.walks.Micro.{Micro}
use Rattle.rv_hart.specs.declared.walks.Micro.TheVariants.{Fetching, Reaching, Faulting}
use Rattle.rv_hart.specs.declared.walks.Walk.{Walk}
use Rattle.rv_tlb.specs.declared.tlb.TlbEntry.{TlbEntry}
use Rattle.mon_enclave.specs.Records.{enclave_at}
use Rattle.mon_fence.specs.declared.fences.Fence.{Fence}
use Rattle.mon_fence.specs.Fences.{fence_of}
use Rattle.mon_host.proofs.SpaceLemmas.{spaces_have_leaves}
use Rattle.mon_owner.specs.declared.owners.Owner.{Owner}
use Rattle.mon_owner.specs.declared.owners.Owner.TheVariants as owner_is
use Rattle.mon_owner.specs.Owners.{is_host, is_mapped, may_be_mapped}
use Rattle.mon_tables.specs.Space.{Mapping}
use Rattle.mon_tables.specs.Tables.{root_of}
use Rattle.pl_history.specs.HostMaps.{removed}
use Rattle.pl_history.specs.Monitor.{maps_of}
use Rattle.pl_history.proofs.HostMappings.{counts_one, legal_mappings}
use Rattle.world_events.specs.Conditions.{CanAcknowledge, CanDestroy, CanEndUnmap, CanGo, CanMap, CanSeekData, CanSeekNext, CanUnmap}
use Rattle.world_events.specs.Translating.{AsksInside, CanSeek, IsInside}
use Rattle.world_machine.specs.Accesses.{HasAcknowledged}
use Rattle.world_machine.specs.FencesStand.{FenceStands, IsOfHost, removals_by}
use Rattle.world_machine.specs.HostAccessing.{WordAccess, host_request, kind_of}
use Rattle.world_machine.specs.LinesUnderWay.{access_of, number_under_way}
use Rattle.world_machine.specs.Running.{RunNow, run_request}
use Rattle.world_machine.specs.Standing.{Kept, state_of}
use Rattle.world_machine.specs.Translating.{host_view, number_view, offset_at, page_at, sought_in}
use Rattle.world_machine.specs.TranslationsAgree.{IsFresh, WalkStands, WalkingStands, walking_of}
use Rattle.world_machine.specs.Worlds.{WorldData, hart_line, under_at}
use Rattle.world_machine.proofs.HostOwners.{host_counted, is_host-host, removed_less}
use Rattle.world_machine.proofs.HostSpaces.{few_pages, host_leads, removed_host}
use Rattle.world_machine.proofs.Leaving.{runs_acknowledged}
use Rattle.world_machine.proofs.SetupFacts.{guarded_few}
use Rattle.world_machine.proofs.StandingFences.{no_fence}
use Rattle.world_machine.proofs.TranslationFrames.{few_numbers, few_tables, live_there}
use Rattle.world_machine.proofs.WalkConditions.{host_asks, host_reaches, host_walk_is, number_asks, number_reaches, number_walk_is}

-- ---- fences

some_fence : (fence : Option Fence) (removed : List Mapping) (m : Mapping) → FenceStands fence removed → removed ≡ m ∷ [] → (f : Fence) × (fence ≡ Some f)
some_fence None removed m agrees some = let never : m ∷ [] ≡ [] = sym some ∙ agrees in cc
some_fence (Some fence) removed m agrees some = (fence, refl)

-- ---- owners

-- the owner that is read where a page is the host's
host_owner : (owner : Option Owner) → IsTrue (is_host (unwrap_or owner owner_is.Guard)) → (count : ℕ) × (owner ≡ Some (owner_is.Host count))
host_owner None is = cc
host_owner (Some owner_is.Guard) is = cc
host_owner (Some (owner_is.Host count)) is = (count, refl)
host_owner (Some (owner_is.Enclave e)) is = cc
host_owner (Some (owner_is.Shadow e)) is = cc

-- ---- what is asked for

asks_inside : (zones : ℕ) (asked : Sought) → ((pa : Pa) (level : ℕ) → asked ≡ Table pa level → IsInside zones pa × (offset_at pa % 8 ≡ 0)) → ((pa : Pa) → asked ≡ At pa → IsInside zones pa)
    → AsksInside zones asked
asks_inside zones (Table pa level) tables reached = tables pa level refl
asks_inside zones (At pa) tables reached = reached pa refl
asks_inside zones PageFault tables reached = tt

module _ (d : List ℕ → List ℕ) (w : WorldData) (k : Kept d w) where
  -- what a hart's translations and walks are
  abbrev pub Fresh : ℕ → TlbEntry → Type 0
  Fresh hart = IsFresh w.setup (enclave_at w.enclaves) (state_of w) w.fences hart

  inside : (pa : Pa) → 0x80000000 ≤ pa.0 → page_at pa < 64 * w.ctl.zones → IsInside w.ctl.zones pa
  inside pa from page = record { from = from; page = page; small = omega (arith, page, few_pages d w k) }

  guarded : 2 + w.setup.tables ≤ 64 * w.ctl.zones
  guarded = omega (arith, guarded_few w.setup k.sizes.rules, k.sizes.zones)

  number_root : (e : ℕ) → ((state_of w).number e).live ≡ true → IsPpn (root_of w.setup.tables (e + 1))
  number_root e live =
      let other : (e + 1 == 0) ≡ false = grind (arith, nat_tests) in
      let small : 0x80000 + (2 + w.setup.tables + 3 * (e + 1 - 1) + (2 - 2)) < 2 ^ 44 = omega (arith, few_numbers d w k, live_there d w k e live, few_tables d w k) in
      subst (λ (b : Bool). 0x80000 + (if b then 0 else 2 + w.setup.tables + 3 * (e + 1 - 1) + (2 - 2)) < 2 ^ 44) (sym other) small

  module _ (hart : ℕ) (below : hart < w.setup.harts) where
    -- ---- the host's accesses

    pub can_seek_host : (va : Va) (access : WordAccess) (walk : Walk) → WalkStands w.ctl (Fresh hart) (host_view w.setup.tables) va walk → CanSeek w (host_request w hart va access) walk
    can_seek_host va access walk stands = record {
      harts = omega (arith, k.stands.translations.harts, below);
      walk_is = host_walk_is d w k hart va walk stands;
      root = omega arith;
      asks = asks_inside w.ctl.zones (sought_in w (host_request w hart va access) walk)
          (λ pa level is. let at = host_asks d w k hart va (kind_of access) walk pa stands level is in (inside pa at.0 at.1.0, at.1.1))
          (λ pa is. let at = host_reaches d w k hart va (kind_of access) walk pa stands is in inside pa at.0 at.1);
    }

    -- ---- the accesses of an enclave that is on

    module _ (e : ℕ) (live : ((state_of w).number e).live ≡ true) (runs : number_under_way (hart_line w hart) (under_at w.under hart) ≡ Some e) (budget count : ℕ) where
      abbrev pub run_here : RunNow
      run_here = record { hart = hart; e = e; budget = budget; count = count }

      acknowledged : HasAcknowledged w hart e
      acknowledged = runs_acknowledged d w k hart e runs

      can_seek_number : (va : ℕ) (kind : Kind) (walk : Walk) → WalkStands w.ctl (Fresh hart) (number_view w.setup.tables e) (record { 0 = va }) walk → CanSeek w (run_request w run_here va kind) walk
      can_seek_number va kind walk stands = record {
        harts = let size : hart < length w.tlbs = omega (arith, k.stands.translations.harts, below) in size;
        walk_is = number_walk_is d w k hart e live acknowledged (record { 0 = va }) walk stands;
        root = number_root e live;
        asks = asks_inside w.ctl.zones (sought_in w (run_request w run_here va kind) walk)
            (λ pa level is. let at = number_asks d w k hart e live acknowledged (record { 0 = va }) kind walk pa stands level is in (inside pa at.0 at.1.0, at.1.1))
            (λ pa is. let at = number_reaches d w k hart e live acknowledged (record { 0 = va }) kind walk pa stands is in inside pa at.0 at.1);
      }

      can_seek_data : (walk : Walk) (act : Act)
          → WalkingStands w.ctl (Fresh hart) (option_map (λ (access : Kind × ℕ). record { view = number_view w.setup.tables e; va = record { 0 = access.1 }; walk = walk }) (access_of act))
          → CanSeekData w run_here walk act
      can_seek_data walk (act_is.Load address width is_signed rd) stands = can_seek_number address _ walk stands
      can_seek_data walk (act_is.Store address width value) stands = can_seek_number address _ walk stands
      can_seek_data walk (act_is.Set context) stands = tt
      can_seek_data walk (act_is.Call number value) stands = tt
      can_seek_data walk (act_is.Trap cause value) stands = tt

      pub can_seek_next : (micro : Micro) → WalkingStands w.ctl (Fresh hart) (walking_of w.setup.tables e (enclave_at w.enclaves e) micro) → CanSeekNext w run_here micro
      can_seek_next (Fetching walk) stands = can_seek_number _ _ walk stands
      can_seek_next (Reaching word walk) stands = can_seek_data walk _ stands
      can_seek_next (Faulting va access) stands = tt

    -- ---- the host's mappings

    pub can_map : CanGo w hart → (page : ℕ) (perms : Perms) → IsTrue (are_page_perms perms) → CanMap w hart page perms
    can_map go page perms allowed = record {
      harts = go;
      guarded = guarded;
      allowed = allowed;
      few = λ is.
          let host = host_owner (slice_get w.owners page) is in
          let maps : host.0 ≡ maps_of (state_of w) page = k.stands.owners.maps page host.0 host.1 in
          let few = legal_mappings.few w.setup w.history.bytes w.history.entries k.legal page in
          subst (λ (o : Option Owner). IsTrue (may_be_mapped (unwrap_or o owner_is.Guard))) (sym host.1) (let small : host.0 < 2 ^ 32 - 1 = omega (arith, maps, few, few_tables d w k) in grind (arith, nat_tests));
    }

    pub can_unmap : CanGo w hart → removals_by (state_of w).removals hart ≡ [] → IsOfHost (fence_of w.fences hart) → CanUnmap w hart
    can_unmap go none of_host = record {
      harts = go;
      tlbs = omega (arith, k.stands.translations.harts, below);
      fences = omega (arith, k.stands.translations.fences_stand.size, below);
      guarded = guarded;
      leaves = spaces_have_leaves w.setup.tables w.ctl (state_of w).space guarded (host_leads d w k) k.stands.translations.tables.host;
      none = no_fence w.setup.harts w.fences (state_of w).removals k.stands.translations.fences_stand hart below of_host none;
    }

    pub can_end_unmap : CanGo w hart → (m : Mapping) → removals_by (state_of w).removals hart ≡ m ∷ [] → CanEndUnmap w hart m.page
    can_end_unmap go m some =
        let fence = some_fence (fence_of w.fences hart) (removals_by (state_of w).removals hart) m (k.stands.translations.fences_stand.each hart) some in
        let host = host_counted w.owners (state_of w) m.page k.stands.owners (is_host-host ((state_of w).owner m.page) (removed_host d w k hart m [] some)) in
        let less = removed_less (state_of w) (removed (state_of w) hart) hart m some refl refl m.page in
        let one : cond {A = ℕ} (m.page == m.page) 1 0 ≡ 1 = counts_one (m.page == m.page) (eq-eqb m.page m.page refl) in
        record {
          harts = go;
          fences = omega (arith, k.stands.translations.fences_stand.size, below);
          fence = fence.0;
          fence_is = fence.1;
          mapped = subst (λ (o : Option Owner). IsTrue (is_mapped (unwrap_or o owner_is.Guard))) (sym host)
              (let mapped : 0 < maps_of (state_of w) m.page = omega (arith, less, one) in grind (arith, nat_tests));
        }

    -- ---- giving back

    pub can_destroy : (e : ℕ) → CanGo w hart → e < length w.enclaves → removals_by (state_of w).removals hart ≡ [] → IsOfHost (fence_of w.fences hart) → CanDestroy w hart e
    can_destroy e go there none of_host = record {
      harts = go;
      number = there;
      tlbs = omega (arith, k.stands.translations.harts, below);
      fences = omega (arith, k.stands.translations.fences_stand.size, below);
      none = no_fence w.setup.harts w.fences (state_of w).removals k.stands.translations.fences_stand hart below of_host none;
    }

    -- ---- acknowledgements

    pub can_acknowledge : CanAcknowledge w hart
    can_acknowledge = record {
      actors = omega (arith, k.sizes.actors, below);
      harts = omega (arith, k.sizes.harts, below);
      scripts = omega (arith, k.sizes.rules.scripts, below);
      tlbs = omega (arith, k.stands.translations.harts, below);
      fences = omega (arith, k.stands.translations.fences_stand.size, below);
    }
