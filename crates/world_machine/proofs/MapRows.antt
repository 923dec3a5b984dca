-- `map`: refused, stopped by a fault, or done.
use Rattle.std.proofs.Common.{◌≡◌, ℕ, ◌+◌, ◌*◌, ◌/◌, ◌%◌, ◌<◌, ◌≤◌, Bool, true, false, cond, not, List, [], ◌∷◌, ◌++◌, Option, Some, None, is_some, option_map, slice_get, set, refl, sym, ap, ◌∙◌, subst, arith}
use Rattle.std.specs.Prelude.{Contains, Ok, Err, Result, slice_set}
use Rattle.std.proofs.lemmas.Bool.{eq-eqb, ne_eqb}
use Rattle.std.proofs.lemmas.List.Elements.{All-weaker}
use Rattle.pl_base.specs.Address.{vpn_of}
use Rattle.pl_base.specs.Refusals.{first_refusal, refuse}
use Rattle.pl_base.specs.declared.access.Mode.TheVariants.{Super}
use Rattle.pl_base.specs.declared.address.Va.{Va}
use Rattle.pl_base.specs.declared.perms.Perms.{Perms}
use Rattle.pl_base.specs.declared.place.Place.{Place}
use Rattle.pl_base.specs.declared.refusal.No.{No}
use Rattle.pl_base.specs.declared.refusal.No.TheVariants as refused
use Rattle.mem_tree.specs.Trees.{HasDigests}
use Rattle.mem_ctl.specs.Access.{AccessTells, Accessed}
use Rattle.mem_ctl.specs.Data.{CtlData, Going, Outcome, Value, Fault, Collision, Again, going}
use Rattle.mon_host.proofs.LawLemmas.{maps_tell}
use Rattle.mon_host.proofs.RefusalLemmas.{can_be_mapped-early}
use Rattle.mon_host.proofs.SpaceLemmas.{IsSlot, mapped-IsSlot}
use Rattle.mon_host.specs.Laws.{HappensIn, MapsTell, WordTells, map_refusal_in, new_mapping, places_of}
use Rattle.mon_host.specs.Leaves.{HostEvent, early_refusal, if_done, leaf_slot}
use Rattle.mon_host.specs.Mapping as mapping_is
use Rattle.mon_host.specs.Mapping.{map_of, map_refusal, with_map}
use Rattle.mon_enclave.specs.Records.{enclave_at}
use Rattle.mon_owner.specs.declared.owners.Owner.{Owner}
use Rattle.mon_owner.specs.declared.owners.Owner.TheVariants as owner_is
use Rattle.mon_owner.specs.Owners as kept
use Rattle.mon_tables.proofs.HostWalks.{host_walks, sets}
use Rattle.mon_tables.specs.Space.{Mapping, mapping_at}
use Rattle.mon_tables.specs.Words.{leaf_word}
use Rattle.pl_history.specs.declared.answer.Answer.TheVariants as answer_is
use Rattle.pl_history.specs.declared.line.Line.TheVariants.{Map}
use Rattle.pl_history.specs.HostMaps as monitor_maps
use Rattle.pl_history.specs.Legal.{AllowedAnswer}
use Rattle.pl_history.specs.Licence.{Licensed, host_tables, slot_pages}
use Rattle.pl_history.specs.Monitor.{Monitor, answer, is_host, maps_of, script_of}
use Rattle.pl_history.specs.Monitor as monitor
use Rattle.world_attack.specs.Room.{RoomStays}
use Rattle.world_machine.specs.declared.under.Under.TheVariants.{Idle}
use Rattle.world_machine.specs.Answering.{answers, decided, entry_now, with_entry}
use Rattle.world_machine.specs.FencesStand.{RemovalStands, removals_by}
use Rattle.world_machine.specs.HostAccessing.{host_faults}
use Rattle.world_machine.specs.HostMapping.{mapped, maps}
use Rattle.world_machine.specs.RecordsAgree.{is_begun, owner_of}
use Rattle.world_machine.specs.Standing.{Kept, state_of}
use Rattle.world_machine.specs.TranslationsAgree.{IsFresh, MayUse, WalkingStands, walking}
use Rattle.world_machine.specs.Worlds.{WorldData, answered_at, hart_line, tlb_at, under_at}
use Rattle.world_machine.proofs.Bounds.{script_fits}
use Rattle.world_machine.proofs.Freshness.{added_used}
use Rattle.world_machine.proofs.HostOutcomes.{HostLine, host_outcome_kept, left_kept, left_line, refused_kept}
use Rattle.world_machine.proofs.HostOwners.{host_counted, is_host-host, mapped_more, remapped_agree, remapped_guards, remapped_owner, remapped_pool, remapped_stays, with_map-is}
use Rattle.world_machine.proofs.HostRefusals.{host_so, map_allows, map_may_fault, map_refused_early, map_refused_in}
use Rattle.world_machine.proofs.HostRows.{HostFrame, host_row}
use Rattle.world_machine.proofs.HostChanges.{HostChange, fresh_by, host_changed}
use Rattle.world_machine.proofs.LineKinds.{answered_line}
use Rattle.world_machine.proofs.LineMoves.{LineMoves}
use Rattle.world_machine.proofs.LineTranslations.{idle_walks, isnt_waiting, removes_none}
use Rattle.world_machine.proofs.NumberRows.{AllButOneStay, but_changed, host_within}
use Rattle.world_machine.proofs.QuietRows.{idle_has_none, idle_put_none}
use Rattle.world_machine.proofs.RowKept.{line_after}
use Rattle.world_machine.proofs.SetupFacts.{line_forms}
use Rattle.world_machine.proofs.TranslationFrames.{few_tables, giving_stays, host_table_inside, removal_so}

-- neither cause holds
both_pass : (a b : Bool) (x y : No) → first_refusal (refuse a x ∷ refuse (not b) y ∷ []) ≡ None → (a ≡ false) × (b ≡ true)
both_pass true b x y is = (let clash : Some x ≡ None = is in cc)
both_pass false false x y is = (let clash : Some y ≡ None = is in cc)
both_pass false true x y is = (refl, refl)

none_is : {A : Type 0} (o : Option A) → is_some o ≡ false → o ≡ None
none_is None is = refl
none_is (Some a) is = cc

module _ (digest_of : List ℕ → List ℕ) (law : HasDigests digest_of) (room_stays : RoomStays) (w : WorldData) (k : Kept digest_of w) (none : w.collision ≡ None) (hart : ℕ) (below : hart < w.setup.harts)
    (va : Va) (page : ℕ) (perms : Perms) (here : hart_line w hart ≡ Some (Map va page perms)) (so_far : under_at w.under hart ≡ Idle) (positions : List ℕ) where
  abbrev s : Monitor
  s = state_of w

  abbrev g : Going
  g = going w.ctl positions

  abbrev event : HostEvent (Unit {0}) (List Owner)
  event = map_of digest_of w.setup.tables w.fences w.owners va page perms g

  abbrev ctl : CtlData
  ctl = event.step.after.ctl

  abbrev slot : ℕ × ℕ
  slot = leaf_slot w.setup.tables va

  abbrev m : Mapping
  m = new_mapping va page perms

  tell : MapsTell digest_of
  tell = maps_tell (λ tables words space few all stand vpn inside mode kind. host_walks tables words space few all stand vpn inside mode kind) sets digest_of law

  line_is : HostLine w hart (Map va page perms) va
  line_is = record {
    here = here;
    not_begun = ap is_begun so_far;
    no_removal = removal_so digest_of w k hart Idle so_far refl;
    concerned = refl;
    changes_none = λ cause. refl;
  }

  -- what the event leaves, by what it answers
  abbrev after : HostEvent (Unit {0}) (List Owner) → WorldData
  after e = decided (record w { ctl = e.step.after.ctl; owners = e.rest }) (mapped hart (record w { ctl = e.step.after.ctl; owners = e.rest }))
      (host_faults hart (record w { ctl = e.step.after.ctl; owners = e.rest })) e.step.outcome

  -- ---- refused at once

  by_early : (cause : No) → early_refusal w.setup.tables w.fences va ≡ Some cause → Kept digest_of (after event)
  by_early cause is = subst (λ (e : HostEvent (Unit {0}) (List Owner)). Kept digest_of (after e)) (sym (tell.at_once w.setup.tables w.fences w.owners va page perms g cause is))
      (refused_kept digest_of room_stays w k none hart below (Map va page perms) va line_is cause
      (map_allows w.setup s w.fences k.stands.translations.fences_stand va page perms cause (map_refused_early w.setup s w.fences k.stands.translations.fences_stand va w.owners k.stands.owners page cause is)))

  -- ---- by the leaf's word

  module _ (not_early : early_refusal w.setup.tables w.fences va ≡ None) where
    abbrev Tells : Outcome (Result (Unit {0}) No) → Type 0
    Tells o = AccessTells digest_of (places_of slot) (WordTells slot (map_refusal w.owners page) (leaf_word page perms Super) (λ word. tt) w.ctl ctl) w.ctl o ctl

    abbrev refusal : Option No
    refusal = map_refusal_in s.space w.owners va page

    abbrev Happens : Outcome (Result (Unit {0}) No) → Type 0
    Happens o = HappensIn w.setup.tables refusal (s.space ++ m ∷ []) s.space o ctl

    at : IsSlot w.setup.tables va
    at = mapped-IsSlot w.setup.tables va (can_be_mapped-early w.setup.tables w.fences va not_early)

    slot_page : slot.0 ≡ 2 + (vpn_of va).0 / 512
    slot_page = ap (λ (x : ℕ × ℕ). x.0) at.leaf_is

    slot_low : slot.0 < 2 + w.setup.tables
    slot_low = let is : slot.0 ≡ 2 + (vpn_of va).0 / 512 = slot_page in let inside : (vpn_of va).0 < 512 * w.setup.tables = at.vpn_below in omega arith

    slot_block : slot.1 / 64 < 64
    slot_block = let is : slot.1 ≡ 8 * ((vpn_of va).0 % 512) = ap (λ (x : ℕ × ℕ). x.1) at.leaf_is in omega arith

    concerned : Contains (host_tables w.setup.tables va) slot.0
    concerned = subst (λ o. Contains (0 ∷ 1 ∷ slot_pages o) slot.0) (sym at.slot_is) (2, omega arith, refl)

    guarded_few : 2 + w.setup.tables ≤ 64 * w.ctl.zones
    guarded_few = let last : 1 + w.setup.tables < 64 * w.ctl.zones = host_table_inside digest_of w k (1 + w.setup.tables) (omega arith) in omega arith

    told : Accessed digest_of (places_of slot) (WordTells slot (map_refusal w.owners page) (leaf_word page perms Super) (λ word. tt) w.ctl ctl) w.ctl event.step.outcome ctl
    told = tell.leaf w.setup.tables w.fences w.owners va page perms g k.trees guarded_few not_early

    happens : Happens event.step.outcome
    happens = tell.space w.setup.tables w.fences w.owners va page perms g s.space k.trees (few_tables digest_of w k) guarded_few
        (script_fits w.setup.lines hart (answered_at w.answered hart) (slice_get w.setup.lines hart) (Map va page perms) k.sizes.lines_fit refl here)
        (line_forms w.setup hart (answered_at w.answered hart) (Map va page perms) k.sizes.rules here) not_early k.stands.translations.tables.host

    may_fault : (place : Place) → Licensed w.setup s (Map va page perms) place → AllowedAnswer w.setup s (Map va page perms) false (answer_is.No (refused.Fault place))
    may_fault = map_may_fault w.setup s w.fences k.stands.translations.fences_stand va page perms not_early

    same_refusal : monitor_maps.map_refusal w.setup s va page ≡ refusal
    same_refusal = map_refused_in w.setup s w.fences k.stands.translations.fences_stand va w.owners k.stands.owners page not_early

    -- ---- done

    module _ (passes : refusal ≡ None) (tells : Tells (Value (Ok tt))) (tables : Happens (Value (Ok tt))) where
      tests : (is_some (mapping_at s.space (vpn_of va).0) ≡ false) × (kept.is_host (kept.owner_at w.owners page) ≡ true)
      tests = both_pass (is_some (mapping_at s.space (vpn_of va).0)) (kept.is_host (kept.owner_at w.owners page)) refused.Mapped (refused.NotYours page) passes

      free : mapping_at s.space m.vpn ≡ None
      free = none_is (mapping_at s.space (vpn_of va).0) tests.0

      counted : slice_get w.owners page ≡ Some (owner_is.Host (maps_of s page))
      counted = host_counted w.owners s page k.stands.owners
          (is_host-host (s.owner page) (sym (host_so w.setup s w.fences k.stands.translations.fences_stand va w.owners k.stands.owners page) ∙ tests.1))

      abbrev t : Monitor
      t = monitor_maps.mapped s va page perms

      abbrev s' : Monitor
      s' = answer t hart

      abbrev owners' : List Owner
      owners' = set w.owners page (owner_is.Host (maps_of s page + 1))

      moves : LineMoves w hart (slice_set w.under hart Idle) (slice_set w.answered hart (answered_at w.answered hart + 1)) (with_entry w.history (entry_now w hart answer_is.Ok)) s' Idle (answered_at w.answered hart + 1)
      moves = answered_line digest_of room_stays w k hart below (Map va page perms) answer_is.Ok refl here
          (subst (λ b. AllowedAnswer w.setup s (Map va page perms) b answer_is.Ok) (sym line_is.not_begun) (same_refusal ∙ passes, refl)) t (λ actor. refl) refl

      stay : AllButOneStay slot.0 w.ctl ctl
      stay = but_changed slot.0 _ w.ctl ctl tells.2

      frame : HostFrame digest_of w ctl owners' s'
      frame = record {
        kept = told.leaves.kept;
        same_zones = told.leaves.same_zones;
        same_slots = told.leaves.same_slots;
        bytes = λ i old clean. told.leaves.still_written i (old clean);
        pages = λ p behind within. stay.mirror p within (λ same. (let low : slot.0 < 2 + w.setup.tables = slot_low in let is : p ≡ slot.0 = same in absurd (omega arith)));
        pool = remapped_pool w.owners page (maps_of s page) (maps_of s page + 1) counted;
        guarded = λ p is. remapped_stays w.owners page (maps_of s page) (maps_of s page + 1) counted p owner_is.Guard (λ maps clash. cc) is;
        guards = remapped_guards w.owners page (maps_of s page) (maps_of s page + 1) counted;
        owned = λ e p is. remapped_owner w.owners page (maps_of s page) (maps_of s page + 1) counted p ∙ is;
        owners_agree = remapped_agree w.owners page (maps_of s page) (maps_of s page + 1) counted s s' k.stands.owners (λ p. refl)
            (mapped_more s s' m refl refl page ∙ ap (λ b. maps_of s page + cond b 1 0) (eq-eqb page page refl))
            (λ p differs. mapped_more s s' m refl refl p ∙ ap (λ b. maps_of s p + cond b 1 0) (ne_eqb page p (λ same. differs (sym same))) ∙ (let zero : maps_of s p + 0 ≡ maps_of s p = omega arith in zero));
        numbers = λ e. refl;
        attacks = refl;
        host = λ p is. stay.off_chip p (host_within digest_of w k p is) (λ same. guard_clash p is same) ∙ k.stands.host p is;
      }
        where
          guard_clash : (p : ℕ) → is_host (s.owner p) ≡ true → p ≡ slot.0 → ⊥
          guard_clash p is same =
              let guard : s.owner slot.0 ≡ Some monitor.guard = k.stands.owners.owner slot.0 ∙ ap (option_map owner_of)
              (k.sizes.guarded slot.0 (let low : slot.0 < 2 + w.setup.tables = slot_low in omega arith)) in
              let clash : false ≡ true = sym (ap is_host guard) ∙ ap (λ q. is_host (s.owner q)) (sym same) ∙ is in
              cc

      line_after_is : line_after w (slice_set w.answered hart (answered_at w.answered hart + 1)) hart ≡ slice_get (script_of w.setup hart) (answered_at w.answered hart + 1)
      line_after_is = ap (slice_get (script_of w.setup hart)) moves.answered_change.here

      change : HostChange w hart ctl w.tlbs w.fences s' (line_after w (slice_set w.answered hart (answered_at w.answered hart + 1))) (under_at (slice_set w.under hart Idle))
      change = record {
        host = tables.stand;
        harts = refl;
        fences_stand = k.stands.translations.fences_stand;
        removals = λ other differs. refl;
        own_removals = subst (λ u. RemovalStands (line_after w (slice_set w.answered hart (answered_at w.answered hart + 1)) hart) u (removals_by s.removals hart)) (sym moves.under_change.here)
            (removes_none _ Idle (removals_by s.removals hart) refl line_is.no_removal);
        others = λ other differs. refl;
        used = λ other there differs. used other;
        owed = λ other there differs e vpn owed. owed;
        giving = giving_stays digest_of w k hart _ _ (λ other differs. ap (slice_get (script_of w.setup other)) (moves.answered_change.others other differs)) moves.under_change.others
            (ap isnt_waiting so_far) (ap isnt_waiting moves.under_change.here);
        own = All-weaker (IsFresh w.setup (enclave_at w.enclaves) s w.fences hart) (IsFresh w.setup (enclave_at w.enclaves) s' w.fences hart)
            (fresh_by w.setup (enclave_at w.enclaves) s s' w.fences w.fences hart (λ e. refl) (used hart) (λ e vpn owed. owed))
            (tlb_at w.tlbs hart) (k.stands.translations.fresh.entries hart);
        lines = λ other differs. ap (slice_get (script_of w.setup other)) (moves.answered_change.others other differs);
        unders = moves.under_change.others;
        own_walk = subst (λ u. WalkingStands ctl (IsFresh w.setup (enclave_at w.enclaves) s' w.fences hart)
            (walking w.setup.tables (enclave_at w.enclaves) (line_after w (slice_set w.answered hart (answered_at w.answered hart + 1)) hart) u))
            (sym moves.under_change.here) (idle_walks ctl (IsFresh w.setup (enclave_at w.enclaves) s' w.fences hart) w.setup.tables (enclave_at w.enclaves) _);
      }
        where
          used : (other : ℕ) (x : Mapping) → MayUse s w.fences other x → MayUse s' w.fences other x
          used other x = added_used s s' w.fences other m x refl refl free

      done : Kept digest_of (answers (record w { ctl = ctl; owners = with_map w.owners page }) hart answer_is.Ok)
      done = subst (λ owners. Kept digest_of (answers (record w { ctl = ctl; owners = owners }) hart answer_is.Ok)) (sym (with_map-is w.owners page (maps_of s page) counted))
          (host_row digest_of w k none hart ctl owners' s' frame w.tlbs w.fences _ _ _ Idle (answered_at w.answered hart + 1) moves tt (idle_has_none _) (λ p put. idle_put_none _ p put)
          (host_changed digest_of w k ctl owners' s' frame hart w.tlbs w.fences _ _ change))

    -- ---- whatever the access comes to

    by_outcome : (o : Outcome (Result (Unit {0}) No)) → Tells o → Happens o
        → Kept digest_of (decided (record w { ctl = ctl; owners = if_done o (with_map w.owners page) w.owners }) (mapped hart (record w { ctl = ctl; owners = if_done o (with_map w.owners page) w.owners }))
        (host_faults hart (record w { ctl = ctl; owners = if_done o (with_map w.owners page) w.owners })) o)
    by_outcome (Value (Ok u)) tells tables = done tables.answers tells tables
    by_outcome (Value (Err cause)) tells tables =
        refused_kept digest_of room_stays (record w { ctl = ctl })
        (left_kept digest_of room_stays w k none hart below (Map va page perms) va line_is may_fault ctl told.leaves tells.1) none hart below (Map va page perms) va
        (left_line digest_of room_stays w k none hart below (Map va page perms) va line_is may_fault ctl told.leaves) cause
        (map_allows w.setup s w.fences k.stands.translations.fences_stand va page perms cause (same_refusal ∙ tables.answers))
    by_outcome (Fault place) tells tables =
        host_outcome_kept digest_of room_stays w k none hart below (Map va page perms) va line_is may_fault ctl told.leaves slot.0 (slot.1 / 64) slot_block
        (let low : slot.0 < 2 + w.setup.tables = slot_low in omega arith) concerned {A = Result (Unit {0}) No} (λ a. ⊥) (λ a. w) (λ a d. absurd d) (Fault place) tells
    by_outcome (Collision place held other) tells tables =
        host_outcome_kept digest_of room_stays w k none hart below (Map va page perms) va line_is may_fault ctl told.leaves slot.0 (slot.1 / 64) slot_block
        (let low : slot.0 < 2 + w.setup.tables = slot_low in omega arith) concerned {A = Result (Unit {0}) No} (λ a. ⊥) (λ a. w) (λ a d. absurd d) (Collision place held other) tells
    by_outcome (Again taken root) tells tables = absurd tells

    rest_is : event.rest ≡ if_done event.step.outcome (with_map w.owners page) w.owners
    unfolding mapping_is.map_of
    rest_is = refl

    late : Kept digest_of (after event)
    late = subst (λ (owners : List Owner). Kept digest_of (decided (record w { ctl = ctl; owners = owners }) (mapped hart (record w { ctl = ctl; owners = owners })) (host_faults hart (record w { ctl = ctl; owners = owners })) event.step.outcome))
        (sym rest_is) (by_outcome event.step.outcome told.tells happens)

  pub maps_kept : Kept digest_of (maps digest_of w hart positions va page perms).world
  maps_kept = by_test (early_refusal w.setup.tables w.fences va) refl
    where
      by_test : (o : Option No) → early_refusal w.setup.tables w.fences va ≡ o → Kept digest_of (after event)
      by_test (Some cause) is = by_early cause is
      by_test None is = late is
