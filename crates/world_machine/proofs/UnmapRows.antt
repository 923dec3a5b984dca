-- `unmap` begins: refused, stopped by a fault, or the mapping is taken away and its fence posted.
use Rattle.std.proofs.Common.{◌≡◌, ◌≢◌, ℕ, ◌+◌, ◌*◌, ◌/◌, ◌%◌, ◌<◌, ◌≤◌, eqb, ◌&&◌, true, false, not, List, [], ◌∷◌, ◌++◌, length, filter, count_by, Option, Some, None, option_map, refl, sym, ap, ◌∙◌, subst, arith, inl, inr, length-set}
use Rattle.std.specs.Prelude.{Contains, Ok, Err, Result, slice_set}
use Rattle.std.specs.List.{All}
use Rattle.std.proofs.lemmas.Bool.{eq-eqb, false≢true}
use Rattle.pl_base.specs.Address.{vpn_of}
use Rattle.pl_base.specs.declared.address.Va.{Va}
use Rattle.pl_base.specs.declared.address.Vpn.{Vpn}
use Rattle.pl_base.specs.declared.place.Place.{Place}
use Rattle.pl_base.specs.HartSet.{harts_below, without_hart}
use Rattle.pl_base.specs.declared.refusal.No.{No}
use Rattle.pl_base.specs.declared.refusal.No.TheVariants as refused
use Rattle.rv_tlb.specs.Tlb.{is_of}
use Rattle.rv_tlb.specs.declared.tlb.TlbEntry.{TlbEntry}
use Rattle.mem_tree.specs.Trees.{HasDigests}
use Rattle.mem_ctl.specs.Access.{AccessTells, Accessed}
use Rattle.mem_ctl.specs.Data.{CtlData, Going, Outcome, Value, Fault, Collision, Again, going}
use Rattle.mem_geom.specs.Parts.{page_bytes}
use Rattle.mon_enclave.specs.Records.{enclave_at}
use Rattle.mon_fence.specs.declared.fences.Fence.{Fence}
use Rattle.mon_fence.specs.Fences.{fence_of, posted}
use Rattle.mon_host.proofs.LawLemmas.{unmaps_tell}
use Rattle.mon_host.proofs.RefusalLemmas.{can_be_mapped-early}
use Rattle.mon_host.proofs.SpaceLemmas.{IsSlot, mapped-IsSlot}
use Rattle.mon_host.specs.Laws.{HappensIn, UnmapsTell, WordTells, mirror_words, new_mapping, places_of, unmap_refusal_in}
use Rattle.mon_host.specs.Leaves.{HostEvent, early_refusal, host_space, if_done, leaf_slot}
use Rattle.mon_host.specs.Unmapping as unmapping_is
use Rattle.mon_host.specs.Unmapping.{page_of_leaf, unmap_begun, unmap_refusal}
use Rattle.mon_tables.proofs.HostWalks.{clears, host_walks}
use Rattle.mon_tables.specs.Space.{Mapping, mapping_at, without_vpn}
use Rattle.mon_tables.specs.SpaceWalks.{HostTables}
use Rattle.pl_history.proofs.HostMappings.{legal_mappings}
use Rattle.pl_history.specs.declared.answer.Answer.TheVariants as answer_is
use Rattle.pl_history.specs.declared.line.Line.TheVariants.{Unmap}
use Rattle.pl_history.specs.HostMaps as monitor_maps
use Rattle.pl_history.specs.Legal.{AllowedAnswer}
use Rattle.pl_history.specs.Licence.{Licensed, host_tables, slot_pages}
use Rattle.pl_history.specs.Monitor.{Monitor, begin, is_host}
use Rattle.pl_history.specs.Monitor as monitor
use Rattle.world_attack.specs.Room.{RoomStays}
use Rattle.world_machine.specs.declared.under.Under.TheVariants.{Idle, Removing}
use Rattle.world_machine.specs.Answering.{begins, decided, entry_now, with_entry}
use Rattle.world_machine.specs.BytesAgree.{HasPut}
use Rattle.world_machine.specs.FencesStand.{NumberFenceStands, IsOfHost, RemovalStands, removals_by}
use Rattle.world_machine.specs.HostAccessing.{host_faults}
use Rattle.world_machine.specs.HostMapping.{begins_unmap, unmapped}
use Rattle.world_machine.specs.LinesUnderWay.{LineUnderWay, number_under_way}
use Rattle.world_machine.specs.RecordsAgree.{is_begun, owner_of}
use Rattle.world_machine.specs.Standing.{Kept, state_of}
use Rattle.world_machine.specs.TranslationsAgree.{IsFresh, WalkingStands, entry_of, walking}
use Rattle.world_machine.specs.Worlds.{WorldData, answered_at, hart_line, tlb_at, under_at}
use Rattle.world_machine.proofs.FoundElements.{filtered_all}
use Rattle.world_machine.proofs.Freshness.{Begins, begun_used, begun_used_own, owed_still}
use Rattle.world_machine.proofs.HostOutcomes.{HostLine, host_outcome_kept, left_kept, left_line, refused_kept}
use Rattle.world_machine.proofs.HostOwners.{removing_same}
use Rattle.world_machine.proofs.HostRefusals.{unmap_allows, unmap_may_fault, unmap_refused_early, unmap_refused_in}
use Rattle.world_machine.proofs.HostRows.{HostFrame, host_row}
use Rattle.world_machine.proofs.HostSpaces.{host_mappable}
use Rattle.world_machine.proofs.HostChanges.{HostChange, host_changed, number_used}
use Rattle.world_machine.proofs.Leaving.{giving_set}
use Rattle.world_machine.proofs.LineKinds.{begun_line}
use Rattle.world_machine.proofs.LineMoves.{LineMoves}
use Rattle.world_machine.proofs.LineTranslations.{isnt_waiting}
use Rattle.world_machine.proofs.Lists.{or_other, or_same}
use Rattle.world_machine.proofs.MappingTranslations.{mapping_vpn}
use Rattle.world_machine.proofs.NumberRows.{AllButOneStay, but_changed, host_within}
use Rattle.world_machine.proofs.Removals.{removals_by-begun, removals_by-begun_other}
use Rattle.world_machine.proofs.RowKept.{line_after}
use Rattle.world_machine.proofs.StandingFences.{fences_begun}
use Rattle.world_machine.proofs.TranslationFrames.{few_tables, giving_so, host_table_inside, removal_so}

module _ (digest_of : List ℕ → List ℕ) (law : HasDigests digest_of) (room_stays : RoomStays) (w : WorldData) (k : Kept digest_of w) (none : w.collision ≡ None) (hart : ℕ) (below : hart < w.setup.harts)
    (va : Va) (here : hart_line w hart ≡ Some (Unmap va)) (so_far : under_at w.under hart ≡ Idle) (positions : List ℕ) where
  abbrev s : Monitor
  s = state_of w

  abbrev g : Going
  g = going w.ctl positions

  abbrev vpn : Vpn
  vpn = vpn_of va

  abbrev event : HostEvent ℕ (List (Option Fence))
  event = unmap_begun digest_of w.setup.tables w.fences hart va g

  abbrev ctl : CtlData
  ctl = event.step.after.ctl

  abbrev slot : ℕ × ℕ
  slot = leaf_slot w.setup.tables va

  tell : UnmapsTell digest_of
  tell = unmaps_tell (λ tables words space few all stand vpn inside mode kind. host_walks tables words space few all stand vpn inside mode kind) clears digest_of law

  line_is : HostLine w hart (Unmap va) va
  line_is = record {
    here = here;
    not_begun = ap is_begun so_far;
    no_removal = removal_so digest_of w k hart Idle so_far refl;
    concerned = refl;
    changes_none = λ cause. refl;
  }

  -- what the event leaves, by what it answers
  abbrev after : HostEvent ℕ (List (Option Fence)) → WorldData
  after e = decided (record w { ctl = e.step.after.ctl; fences = e.rest }) (unmapped hart va (record w { ctl = e.step.after.ctl; fences = e.rest }))
      (host_faults hart (record w { ctl = e.step.after.ctl; fences = e.rest })) e.step.outcome

  -- ---- refused at once

  by_early : (cause : No) → early_refusal w.setup.tables w.fences va ≡ Some cause → Kept digest_of (after event)
  by_early cause is = subst (λ (e : HostEvent ℕ (List (Option Fence))). Kept digest_of (after e)) (sym (tell.at_once w.setup.tables w.fences hart va g cause is))
      (refused_kept digest_of room_stays w k none hart below (Unmap va) va line_is cause
      (unmap_allows w.setup s w.fences k.stands.translations.fences_stand va cause (unmap_refused_early w.setup s w.fences k.stands.translations.fences_stand va cause is)))

  -- ---- by the leaf's word

  module _ (not_early : early_refusal w.setup.tables w.fences va ≡ None) where
    abbrev Tells : Outcome (Result ℕ No) → Type 0
    Tells o = AccessTells digest_of (places_of slot) (WordTells slot unmap_refusal 0 page_of_leaf w.ctl ctl) w.ctl o ctl

    abbrev refusal : Option No
    refusal = unmap_refusal_in s.space va

    abbrev Happens : Outcome (Result ℕ No) → Type 0
    Happens o = HappensIn w.setup.tables refusal (without_vpn s.space vpn.0) s.space o ctl

    at : IsSlot w.setup.tables va
    at = mapped-IsSlot w.setup.tables va (can_be_mapped-early w.setup.tables w.fences va not_early)

    slot_low : slot.0 < 2 + w.setup.tables
    slot_low = let is : slot.0 ≡ 2 + vpn.0 / 512 = ap (λ (x : ℕ × ℕ). x.0) at.leaf_is in let inside : vpn.0 < 512 * w.setup.tables = at.vpn_below in omega arith

    slot_block : slot.1 / 64 < 64
    slot_block = let is : slot.1 ≡ 8 * (vpn.0 % 512) = ap (λ (x : ℕ × ℕ). x.1) at.leaf_is in omega arith

    concerned : Contains (host_tables w.setup.tables va) slot.0
    concerned = subst (λ o. Contains (0 ∷ 1 ∷ slot_pages o) slot.0) (sym at.slot_is) (2, omega arith, refl)

    guarded_few : 2 + w.setup.tables ≤ 64 * w.ctl.zones
    guarded_few = let last : 1 + w.setup.tables < 64 * w.ctl.zones = host_table_inside digest_of w k (1 + w.setup.tables) (omega arith) in omega arith

    told : Accessed digest_of (places_of slot) (WordTells slot unmap_refusal 0 page_of_leaf w.ctl ctl) w.ctl event.step.outcome ctl
    told = tell.leaf w.setup.tables w.fences hart va g k.trees guarded_few not_early

    happens : Happens event.step.outcome
    happens = tell.space w.setup.tables w.fences hart va g s.space k.trees (few_tables digest_of w k) guarded_few not_early k.stands.translations.tables.host

    may_fault : (place : Place) → Licensed w.setup s (Unmap va) place → AllowedAnswer w.setup s (Unmap va) false (answer_is.No (refused.Fault place))
    may_fault = unmap_may_fault w.setup s w.fences k.stands.translations.fences_stand va not_early

    same_refusal : monitor_maps.unmap_refusal w.setup s va ≡ refusal
    same_refusal = unmap_refused_in w.setup s w.fences k.stands.translations.fences_stand va not_early

    -- ---- the removal begins

    module _ (page : ℕ) (passes : refusal ≡ None) (tells : Tells (Value (Ok page))) (tables : Happens (Value (Ok page)))
        (gone : Mapping) (found : mapping_at s.space vpn.0 ≡ Some gone) (leads : gone.page ≡ page) where
      vpn_is : gone.vpn ≡ vpn.0
      vpn_is = mapping_vpn s.space vpn.0 gone found

      abbrev t : Monitor
      t = record s { space = without_vpn s.space gone.vpn; removals = s.removals ++ record { hart = hart; mapping = gone } ∷ [] }

      abbrev s' : Monitor
      s' = begin t hart

      there : mapping_at s.space gone.vpn ≡ Some gone
      there = ap (mapping_at s.space) vpn_is ∙ found

      abbrev fences' : List (Option Fence)
      fences' = posted w.fences hart host_space (Some (record { 0 = gone.vpn }))

      abbrev fence : Fence
      fence = record { space = host_space; vpn = Some (record { 0 = gone.vpn }); need = without_hart (harts_below (length w.fences)) hart }

      abbrev kept_entries : List TlbEntry
      kept_entries = filter (λ entry. not (is_of host_space vpn entry)) (tlb_at w.tlbs hart)

      abbrev tlbs' : List (List TlbEntry)
      tlbs' = slice_set w.tlbs hart kept_entries

      hart_has_tlb : hart < length w.tlbs
      hart_has_tlb = subst (λ n. hart < n) (sym k.stands.translations.harts) below

      moves : LineMoves w hart (slice_set w.under hart (Removing page)) w.answered (with_entry w.history (entry_now w hart answer_is.Begun)) s' (Removing page) (answered_at w.answered hart)
      moves = begun_line digest_of room_stays w k hart below (Unmap va) answer_is.Begun refl here
          (subst (λ b. AllowedAnswer w.setup s (Unmap va) b answer_is.Begun) (sym line_is.not_begun) (same_refusal ∙ passes)) t (λ actor. refl) (Removing page) refl
          (ap (λ o. begin (monitor_maps.removing_of s hart o) hart) found)

      begins_so : Begins s s' w.fences hart gone
      begins_so = record {
        there = there;
        space = refl;
        removals = refl;
        none = line_is.no_removal;
        are = k.stands.translations.fences_stand.needs_others;
        few = subst (λ n. hart < n) (sym k.stands.translations.fences_stand.size) below;
      }

      stay : AllButOneStay slot.0 w.ctl ctl
      stay = but_changed slot.0 _ w.ctl ctl tells.2

      frame : HostFrame digest_of w ctl w.owners s'
      frame = record {
        kept = told.leaves.kept;
        same_zones = told.leaves.same_zones;
        same_slots = told.leaves.same_slots;
        bytes = λ i old clean. told.leaves.still_written i (old clean);
        pages = λ p behind within. stay.mirror p within (λ same. (let low : slot.0 < 2 + w.setup.tables = slot_low in let is : p ≡ slot.0 = same in absurd (omega arith)));
        pool = refl;
        guarded = λ p is. is;
        guards = λ p is. is;
        owned = λ e p is. is;
        owners_agree = record {
          owner = k.stands.owners.owner;
          maps = λ p maps is. k.stands.owners.maps p maps is ∙ sym (removing_same s s' hart gone there once refl refl p);
        };
        numbers = λ e. refl;
        attacks = refl;
        host = λ p is. stay.off_chip p (host_within digest_of w k p is) (λ same. guard_clash p is same) ∙ k.stands.host p is;
      }
        where
          once : count_by (λ (x : Mapping). eqb x.vpn gone.vpn) s.space ≤ 1
          once = let both = (legal_mappings.stand w.setup w.history.bytes w.history.entries k.legal).once gone.vpn in omega arith

          guard_clash : (p : ℕ) → is_host (s.owner p) ≡ true → p ≡ slot.0 → ⊥
          guard_clash p is same =
              let guard : s.owner slot.0 ≡ Some monitor.guard = k.stands.owners.owner slot.0 ∙ ap (option_map owner_of) (k.sizes.guarded slot.0 (let low : slot.0 < 2 + w.setup.tables = slot_low in omega arith)) in
              let clash : false ≡ true = sym (ap is_host guard) ∙ ap (λ q. is_host (s.owner q)) (sym same) ∙ is in
              cc

      of_host : IsOfHost (fence_of w.fences hart)
      of_host = giving_so digest_of w k hart (ap isnt_waiting so_far)

      -- its translations are of other pages
      not_covered : (m : Mapping) → not (is_of host_space vpn (entry_of host_space m)) ≡ true → m.vpn ≢ gone.vpn
      not_covered m is same = false≢true (ap (λ b. not (true && b)) (sym (eq-eqb m.vpn vpn.0 (same ∙ vpn_is))) ∙ is)

      abbrev Before : TlbEntry → Type 0
      Before = IsFresh w.setup (enclave_at w.enclaves) s w.fences hart

      abbrev After : TlbEntry → Type 0
      After = IsFresh w.setup (enclave_at w.enclaves) s' fences' hart

      own_fresh : (entry : TlbEntry) → not (is_of host_space vpn entry) ≡ true → Before entry → After entry
      own_fresh entry passed (inl host) = inl (record {
        mapping = host.mapping;
        is = host.is;
        fresh = begun_used_own s s' w.fences hart gone begins_so host.mapping
            (not_covered host.mapping (subst (λ x. not (is_of host_space vpn x) ≡ true) host.is passed)) host.fresh;
      })
      own_fresh entry passed (inr number) = inr (record {
        e = number.e;
        mapping = number.mapping;
        is = number.is;
        fresh = number_used w.setup (enclave_at w.enclaves) s s' w.fences fences' hart (λ e. refl) (owed_still w.fences hart _ of_host hart) number.e number.mapping number.fresh;
      })

      -- the hart's line after it
      line_now : line_after w w.answered hart ≡ Some (Unmap va)
      line_now = here

      removal_is : removals_by s'.removals hart ≡ new_mapping va page gone.perms ∷ []
      removal_is = removals_by-begun s.removals hart gone line_is.no_removal ∙ (λ i. record { vpn = vpn_is i; page = leads i; perms = gone.perms } ∷ [])

      change : HostChange w hart ctl tlbs' fences' s' (line_after w w.answered) (under_at (slice_set w.under hart (Removing page)))
      change = record {
        host = subst (λ n. HostTables w.setup.tables (mirror_words ctl) (without_vpn s.space n)) (sym vpn_is) tables.stand;
        harts = length-set w.tlbs hart kept_entries;
        fences_stand = fences_begun w.setup.harts w.fences s.removals k.stands.translations.fences_stand hart below gone line_is.no_removal;
        removals = λ other differs. removals_by-begun_other s.removals hart other gone differs;
        own_removals = subst (λ l. RemovalStands l (under_at (slice_set w.under hart (Removing page)) hart) (removals_by s'.removals hart)) (sym line_now)
            (subst (λ u. RemovalStands (Some (Unmap va)) u (removals_by s'.removals hart)) (sym moves.under_change.here) (gone.perms, removal_is));
        others = λ other differs. or_other w.tlbs hart other kept_entries [] differs;
        used = λ other inside differs m. begun_used s s' w.fences hart gone begins_so other m (subst (λ n. other < n) (sym k.stands.translations.fences_stand.size) inside) differs;
        owed = λ other inside differs. owed_still w.fences hart _ of_host other;
        giving = giving_set digest_of w k hart below _ _ _ (λ other differs. refl) moves.under_change.others
            (subst (λ l. NumberFenceStands l (under_at (slice_set w.under hart (Removing page)) hart) (Some fence)) (sym line_now)
            (subst (λ u. NumberFenceStands (Some (Unmap va)) u (Some fence)) (sym moves.under_change.here) refl));
        own = subst (All After) (sym (or_same w.tlbs hart kept_entries [] hart_has_tlb))
            (filtered_all (λ entry. not (is_of host_space vpn entry)) Before After own_fresh (tlb_at w.tlbs hart) (k.stands.translations.fresh.entries hart));
        lines = λ other differs. refl;
        unders = moves.under_change.others;
        own_walk = subst (λ l. WalkingStands ctl After (walking w.setup.tables (enclave_at w.enclaves) l (under_at (slice_set w.under hart (Removing page)) hart))) (sym line_now)
            (subst (λ u. WalkingStands ctl After (walking w.setup.tables (enclave_at w.enclaves) (Some (Unmap va)) u)) (sym moves.under_change.here) tt);
      }

      begun : Kept digest_of (begins (record w { ctl = ctl; fences = fences'; tlbs = tlbs' }) hart (Removing page))
      begun = host_row digest_of w k none hart ctl w.owners s' frame tlbs' fences' _ _ _ (Removing page) (answered_at w.answered hart) moves
          (subst (λ l. LineUnderWay w.setup (page_bytes ctl.mirror) (enclave_at w.enclaves) s'.number hart l (Removing page)) (sym here) tt)
          (ap (λ l. number_under_way l (Removing page)) here)
          (λ p put. (let none_put : ⊥ = subst (λ l. HasPut l (Removing page) p) here put in none_put))
          (host_changed digest_of w k ctl w.owners s' frame hart tlbs' fences' _ _ change)

      -- with the fence as it is posted
      begun_posted : Kept digest_of (begins (record w { ctl = ctl; fences = posted w.fences hart host_space (Some vpn); tlbs = tlbs' }) hart (Removing page))
      begun_posted = subst (λ n. Kept digest_of (begins (record w { ctl = ctl; fences = posted w.fences hart host_space (Some (record { 0 = n })); tlbs = tlbs' }) hart (Removing page))) vpn_is begun

    -- ---- whatever the access comes to

    abbrev left_by : Outcome (Result ℕ No) → WorldData
    left_by o = record w { ctl = ctl; fences = if_done o (posted w.fences hart host_space (Some vpn)) w.fences }

    by_outcome : (o : Outcome (Result ℕ No)) → event.step.outcome ≡ o → Tells o → Happens o → Kept digest_of (decided (left_by o) (unmapped hart va (left_by o)) (host_faults hart (left_by o)) o)
    by_outcome (Value (Ok page)) is tells tables =
        let taken = tell.page w.setup.tables w.fences hart va g s.space page k.trees guarded_few (host_mappable digest_of w k) k.stands.translations.tables.host is in
        begun_posted page tables.answers tells tables taken.0 taken.1 taken.2
    by_outcome (Value (Err cause)) is tells tables =
        refused_kept digest_of room_stays (record w { ctl = ctl })
        (left_kept digest_of room_stays w k none hart below (Unmap va) va line_is may_fault ctl told.leaves tells.1) none hart below (Unmap va) va
        (left_line digest_of room_stays w k none hart below (Unmap va) va line_is may_fault ctl told.leaves) cause
        (unmap_allows w.setup s w.fences k.stands.translations.fences_stand va cause (same_refusal ∙ tables.answers))
    by_outcome (Fault place) is tells tables =
        host_outcome_kept digest_of room_stays w k none hart below (Unmap va) va line_is may_fault ctl told.leaves slot.0 (slot.1 / 64) slot_block
        (let low : slot.0 < 2 + w.setup.tables = slot_low in omega arith) concerned {A = Result ℕ No} (λ a. ⊥) (λ a. w) (λ a d. absurd d) (Fault place) tells
    by_outcome (Collision place held other) is tells tables =
        host_outcome_kept digest_of room_stays w k none hart below (Unmap va) va line_is may_fault ctl told.leaves slot.0 (slot.1 / 64) slot_block
        (let low : slot.0 < 2 + w.setup.tables = slot_low in omega arith) concerned {A = Result ℕ No} (λ a. ⊥) (λ a. w) (λ a d. absurd d) (Collision place held other) tells
    by_outcome (Again taken root) is tells tables = absurd tells

    rest_is : event.rest ≡ if_done event.step.outcome (posted w.fences hart host_space (Some vpn)) w.fences
    unfolding unmapping_is.unmap_begun
    rest_is = refl

    late : Kept digest_of (after event)
    late = subst (λ (fences : List (Option Fence)). Kept digest_of (decided (record w { ctl = ctl; fences = fences }) (unmapped hart va (record w { ctl = ctl; fences = fences })) (host_faults hart (record w { ctl = ctl; fences = fences })) event.step.outcome))
        (sym rest_is) (by_outcome event.step.outcome refl told.tells happens)

  pub begins_unmap_kept : Kept digest_of (begins_unmap digest_of w hart positions va).world
  begins_unmap_kept = by_test (early_refusal w.setup.tables w.fences va) refl
    where
      by_test : (o : Option No) → early_refusal w.setup.tables w.fences va ≡ o → Kept digest_of (after event)
      by_test (Some cause) is = by_early cause is
      by_test None is = late is
