-- `unmap` ends: the fence is left, and the page has one mapping less.
use Rattle.std.proofs.Common.{◌≡◌, ◌≢◌, ℕ, ◌+◌, ◌-◌, ◌<◌, eqb, cond, List, [], Option, Some, None, slice_get, set, refl, sym, ap, ◌∙◌, subst, arith}
use Rattle.std.specs.Prelude.{slice_set}
use Rattle.std.proofs.lemmas.Bool.{eq-eqb, ne_eqb}
use Rattle.std.proofs.lemmas.List.Elements.{All-weaker}
use Rattle.pl_base.specs.declared.address.Va.{Va}
use Rattle.mon_enclave.specs.Records.{enclave_at}
use Rattle.mon_fence.specs.declared.fences.Fence.{Fence}
use Rattle.mon_fence.specs.Fences.{fence_of}
use Rattle.mon_host.specs.Laws.{new_mapping}
use Rattle.mon_host.specs.Unmapping as unmapping_is
use Rattle.mon_host.specs.Unmapping.{unmap_ended}
use Rattle.mon_owner.specs.declared.owners.Owner.{Owner}
use Rattle.mon_owner.specs.declared.owners.Owner.TheVariants as owner_is
use Rattle.mon_tables.specs.Space.{Mapping}
use Rattle.pl_history.specs.declared.answer.Answer.TheVariants as answer_is
use Rattle.pl_history.specs.declared.line.Line.TheVariants.{Unmap}
use Rattle.pl_history.specs.HostMaps as monitor_maps
use Rattle.pl_history.specs.Legal.{AllowedAnswer}
use Rattle.pl_history.specs.Monitor.{Monitor, answer, maps_of, script_of}
use Rattle.world_attack.specs.Room.{RoomStays}
use Rattle.world_machine.specs.declared.under.Under.TheVariants.{Idle, Removing}
use Rattle.world_machine.specs.Answering.{answers, entry_now, with_entry}
use Rattle.world_machine.specs.FencesStand.{NumberFenceStands, IsOfHost, RemovalStands, removals_by}
use Rattle.world_machine.specs.HostMapping.{ends_unmap, lacked_by}
use Rattle.world_machine.specs.RecordsAgree.{is_begun}
use Rattle.world_machine.specs.Standing.{Kept, state_of}
use Rattle.world_machine.specs.TranslationsAgree.{IsFresh, MayUse, WalkingStands, walking}
use Rattle.world_machine.specs.Worlds.{WorldData, answered_at, hart_line, tlb_at, under_at}
use Rattle.world_machine.proofs.Freshness.{ended_used, owed_still}
use Rattle.world_machine.proofs.HostOwners.{host_counted, is_host-host, remapped_agree, remapped_guards, remapped_owner, remapped_pool, remapped_stays, removed_less, without_map-is}
use Rattle.world_machine.proofs.HostRows.{HostFrame, host_row}
use Rattle.world_machine.proofs.HostSpaces.{removed_host}
use Rattle.world_machine.proofs.HostChanges.{HostChange, fresh_by, host_changed}
use Rattle.world_machine.proofs.Leaving.{giving_set}
use Rattle.world_machine.proofs.LineKinds.{answered_line}
use Rattle.world_machine.proofs.LineMoves.{LineMoves}
use Rattle.world_machine.proofs.LineTranslations.{gives_none, idle_walks, removes_none}
use Rattle.world_machine.proofs.QuietRows.{idle_has_none, idle_put_none}
use Rattle.world_machine.proofs.Removals.{removals_by-ended, removals_by-ended_other}
use Rattle.world_machine.proofs.RowKept.{line_after}
use Rattle.world_machine.proofs.StandingFences.{fences_ended}

module _ (digest_of : List ℕ → List ℕ) (room_stays : RoomStays) (w : WorldData) (k : Kept digest_of w) (none : w.collision ≡ None) (hart : ℕ) (below : hart < w.setup.harts)
    (va : Va) (page : ℕ) (here : hart_line w hart ≡ Some (Unmap va)) (so_far : under_at w.under hart ≡ Removing page) (nobody : lacked_by w hart ≡ None) where
  abbrev s : Monitor
  s = state_of w

  removal : RemovalStands (Some (Unmap va)) (Removing page) (removals_by s.removals hart)
  removal = subst (λ u. RemovalStands (Some (Unmap va)) u (removals_by s.removals hart)) so_far
      (subst (λ l. RemovalStands l (under_at w.under hart) (removals_by s.removals hart)) here (k.stands.translations.removals hart))

  abbrev gone : Mapping
  gone = new_mapping va page removal.0

  counted : slice_get w.owners page ≡ Some (owner_is.Host (maps_of s page))
  counted = host_counted w.owners s page k.stands.owners (is_host-host (s.owner page) (removed_host digest_of w k hart gone [] removal.1))

  abbrev t : Monitor
  t = monitor_maps.removed s hart

  abbrev s' : Monitor
  s' = answer t hart

  abbrev owners' : List Owner
  owners' = set w.owners page (owner_is.Host (maps_of s page - 1))

  abbrev fences' : List (Option Fence)
  fences' = slice_set w.fences hart None

  moves : LineMoves w hart (slice_set w.under hart Idle) (slice_set w.answered hart (answered_at w.answered hart + 1)) (with_entry w.history (entry_now w hart answer_is.Ok)) s' Idle (answered_at w.answered hart + 1)
  moves = answered_line digest_of room_stays w k hart below (Unmap va) answer_is.Ok refl here
      (subst (λ b. AllowedAnswer w.setup s (Unmap va) b answer_is.Ok) (sym (ap is_begun so_far)) refl) t (λ actor. refl) refl

  less : (p : ℕ) → maps_of s p ≡ maps_of s' p + cond (eqb page p) 1 0
  less p = removed_less s s' hart gone removal.1 refl refl p

  frame : HostFrame digest_of w w.ctl owners' s'
  frame = record {
    kept = k.trees;
    same_zones = refl;
    same_slots = refl;
    bytes = λ i old. old;
    pages = λ p behind within. refl;
    pool = remapped_pool w.owners page (maps_of s page) (maps_of s page - 1) counted;
    guarded = λ p is. remapped_stays w.owners page (maps_of s page) (maps_of s page - 1) counted p owner_is.Guard (λ maps clash. cc) is;
    guards = remapped_guards w.owners page (maps_of s page) (maps_of s page - 1) counted;
    owned = λ e p is. remapped_owner w.owners page (maps_of s page) (maps_of s page - 1) counted p ∙ is;
    owners_agree = remapped_agree w.owners page (maps_of s page) (maps_of s page - 1) counted s s' k.stands.owners (λ p. refl) own_count other_count;
    numbers = λ e. refl;
    attacks = refl;
    host = k.stands.host;
  }
    where
      own_count : maps_of s' page ≡ maps_of s page - 1
      own_count = let one : maps_of s page ≡ maps_of s' page + 1 = less page ∙ ap (λ b. maps_of s' page + cond b 1 0) (eq-eqb page page refl) in omega arith

      other_count : (p : ℕ) → p ≢ page → maps_of s' p ≡ maps_of s p
      other_count p differs = let same : maps_of s p ≡ maps_of s' p + 0 = less p ∙ ap (λ b. maps_of s' p + cond b 1 0) (ne_eqb page p (λ equal. differs (sym equal))) in omega arith

  used : (other : ℕ) (m : Mapping) → MayUse s w.fences other m → MayUse s' fences' other m
  used = ended_used s s' w.fences hart refl refl nobody

  of_host : IsOfHost (fence_of w.fences hart)
  of_host = subst (λ u. NumberFenceStands (Some (Unmap va)) u (fence_of w.fences hart)) so_far
      (subst (λ l. NumberFenceStands l (under_at w.under hart) (fence_of w.fences hart)) here (k.stands.translations.giving hart))

  change : HostChange w hart w.ctl w.tlbs fences' s' (line_after w (slice_set w.answered hart (answered_at w.answered hart + 1))) (under_at (slice_set w.under hart Idle))
  change = record {
    host = k.stands.translations.tables.host;
    harts = refl;
    fences_stand = fences_ended w.setup.harts w.fences s.removals k.stands.translations.fences_stand hart below;
    removals = λ other differs. removals_by-ended_other s.removals hart other differs;
    own_removals = subst (λ u. RemovalStands (line_after w (slice_set w.answered hart (answered_at w.answered hart + 1)) hart) u (removals_by s'.removals hart)) (sym moves.under_change.here)
        (removes_none _ Idle (removals_by s'.removals hart) refl (removals_by-ended s.removals hart));
    others = λ other differs. refl;
    used = λ other there differs. used other;
    owed = λ other there differs. owed_still w.fences hart None of_host other;
    giving = giving_set digest_of w k hart below None _ _ (λ other differs. ap (slice_get (script_of w.setup other)) (moves.answered_change.others other differs)) moves.under_change.others
        (subst (λ u. NumberFenceStands (line_after w (slice_set w.answered hart (answered_at w.answered hart + 1)) hart) u None) (sym moves.under_change.here) (gives_none _ Idle None refl tt));
    own = All-weaker (IsFresh w.setup (enclave_at w.enclaves) s w.fences hart) (IsFresh w.setup (enclave_at w.enclaves) s' fences' hart)
        (fresh_by w.setup (enclave_at w.enclaves) s s' w.fences fences' hart (λ e. refl) (used hart) (owed_still w.fences hart None of_host hart)) (tlb_at w.tlbs hart)
        (k.stands.translations.fresh.entries hart);
    lines = λ other differs. ap (slice_get (script_of w.setup other)) (moves.answered_change.others other differs);
    unders = moves.under_change.others;
    own_walk = subst (λ u. WalkingStands w.ctl (IsFresh w.setup (enclave_at w.enclaves) s' fences' hart)
        (walking w.setup.tables (enclave_at w.enclaves) (line_after w (slice_set w.answered hart (answered_at w.answered hart + 1)) hart) u))
        (sym moves.under_change.here) (idle_walks w.ctl (IsFresh w.setup (enclave_at w.enclaves) s' fences' hart) w.setup.tables (enclave_at w.enclaves) _);
  }

  ended : Kept digest_of (answers (record w { owners = owners'; fences = fences' }) hart answer_is.Ok)
  ended = host_row digest_of w k none hart w.ctl owners' s' frame w.tlbs fences' _ _ _ Idle (answered_at w.answered hart + 1) moves tt (idle_has_none _) (λ p put. idle_put_none _ p put)
      (host_changed digest_of w k w.ctl owners' s' frame hart w.tlbs fences' _ _ change)

  pub ends_unmap_kept : Kept digest_of (ends_unmap w hart page)
  unfolding unmapping_is.unmap_ended
  ends_unmap_kept = subst (λ owners. Kept digest_of (answers (record w { owners = owners; fences = fences' }) hart answer_is.Ok)) (sym (without_map-is w.owners page (maps_of s page) counted)) ended
