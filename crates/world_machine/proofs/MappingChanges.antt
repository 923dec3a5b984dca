-- The host's space and the removals change by three answers alone: the `ok` of a `map`, and the `begun` and the `ok` of an `unmap`.
use Rattle.std.proofs.Common.{◌≡◌, ℕ, ◌==◌, Bool, true, false, not, List, [], ◌∷◌, ◌++◌, filter, Option, Some, None, refl}
use Rattle.std.specs.Option.{option_map_or}
use Rattle.pl_base.specs.Address.{vpn_of}
use Rattle.pl_base.specs.declared.address.Va.{Va}
use Rattle.mon_host.specs.Laws.{new_mapping}
use Rattle.mon_tables.specs.Space.{Mapping, mapping_at, without_vpn}
use Rattle.pl_history.specs.declared.answer.Answer.{Answer}
use Rattle.pl_history.specs.declared.answer.Answer.TheVariants as answer_is
use Rattle.pl_history.specs.declared.answer.Entry.{Entry}
use Rattle.pl_history.specs.declared.line.AttackLine.{AttackLine}
use Rattle.pl_history.specs.declared.line.AttackLine.TheVariants as attack
use Rattle.pl_history.specs.declared.line.Line.{Line}
use Rattle.pl_history.specs.declared.line.Line.TheVariants as line_is
use Rattle.pl_history.specs.declared.setup.SetupParts.{SetupParts}
use Rattle.pl_history.specs.Answering.{change_by, progressed}
use Rattle.pl_history.specs.Attacking.{Placed, written}
use Rattle.pl_history.specs.History.{named_part}
use Rattle.pl_history.specs.HostAccess.{mapping_used, store_to}
use Rattle.pl_history.specs.HostMaps.{removing_of}
use Rattle.pl_history.specs.Legal.{ActorLine, after, after_line, attack_changes, changes, line_at, of_attacker, of_hart}
use Rattle.pl_history.specs.Monitor.{Monitor, Removal, removed_at}
use Rattle.pl_history.proofs.HistoryLemmas.{unchanged_holds}
use Rattle.world_machine.specs.HostAccesses.{IsMap, IsOf, IsUnmap}

module _ (Holds : List Mapping → List Removal → Type 0) where
  -- it holds of a space and its removals, and of those that each of the three answers leaves
  pub record HoldsOn (setup : SetupParts) (s : Monitor) (entry : Entry) : Type 0 where
    pub stays : Holds s.space s.removals
    pub maps : (m : Mapping) → IsMap setup entry m → Holds (s.space ++ m ∷ []) s.removals
    pub begins : (va : Va) (m : Mapping) → IsOf setup entry (line_is.Unmap va) → entry.answer ≡ answer_is.Begun → mapping_at s.space (vpn_of va).0 ≡ Some m
        → Holds (without_vpn s.space m.vpn) (s.removals ++ record { hart = entry.actor; mapping = m } ∷ [])
    pub ends : (va : Va) → IsUnmap setup entry va → Holds s.space (filter (λ (r : Removal). not (r.hart == entry.actor)) s.removals)

  abbrev Stand : Monitor → Type 0
  Stand s = Holds s.space s.removals

  progressed_stands : (s : Monitor) (actor : ℕ) (now : Answer) → Stand s → Stand (progressed s actor now)
  progressed_stands s actor answer_is.Begun k = k
  progressed_stands s actor answer_is.Ok k = k
  progressed_stands s actor (answer_is.Value value) k = k
  progressed_stands s actor (answer_is.Word word) k = k
  progressed_stands s actor (answer_is.Left count why) k = k
  progressed_stands s actor (answer_is.No cause) k = k
  progressed_stands s actor (answer_is.Wrote changed at from len) k = k
  progressed_stands s actor (answer_is.Kept at from len) k = k

  written_stands : (s : Monitor) (now : Placed) (changed : Bool) → Stand s → Stand (written s now changed)
  written_stands s now true k = k
  written_stands s now false k = k

  attack_stands : (s : Monitor) (part : List ℕ) (line : AttackLine) (now : Answer) → Stand s → Stand (change_by (attack_changes s part line) now)
  attack_stands s part (attack.Write pa new) (answer_is.Wrote changed at from len) k = written_stands s (record { address = at; bytes = part }) changed k
  attack_stands s part (attack.Back name) (answer_is.Wrote changed at from len) k = written_stands s (record { address = at; bytes = part }) changed k
  attack_stands s part (attack.Keep name pa len) now k = unchanged_holds Stand s now k
  attack_stands s part (attack.After actor count) now k = unchanged_holds Stand s now k
  attack_stands s part line now k = k

  stored_stands : (s : Monitor) (va : Va) (word : ℕ) (o : Option Mapping) → Stand s → Stand (store_to s va word o)
  stored_stands s va word None k = k
  stored_stands s va word (Some m) k = k

  module _ (setup : SetupParts) (bytes : List ℕ) (s : Monitor) (entry : Entry) (k : HoldsOn setup s entry) where
    removing_stands : (va : Va) (o : Option Mapping) → IsOf setup entry (line_is.Unmap va) → entry.answer ≡ answer_is.Begun → mapping_at s.space (vpn_of va).0 ≡ o
        → Stand (removing_of s entry.actor o)
    removing_stands va None here begun is = k.stays
    removing_stands va (Some m) here begun is = k.begins va m here begun is

    line_stands : (line : Line) (begun : Bool) (now : Answer) → IsOf setup entry line → entry.answer ≡ now → Stand (change_by (changes s entry.actor line begun) now)
    line_stands (line_is.Load va) begun now here is = unchanged_holds Stand s now k.stays
    line_stands (line_is.After actor count) begun now here is = unchanged_holds Stand s now k.stays
    line_stands (line_is.Store va word) begun answer_is.Ok here is =
        stored_stands s va word (mapping_used (mapping_at s.space (vpn_of va).0) (removed_at s.removals (vpn_of va).0)) k.stays
    line_stands (line_is.Map va page perms) begun answer_is.Ok here is =
        k.maps (new_mapping va page perms) (record { va = va; page = page; perms = perms; line = here; answer = is; is = refl })
    line_stands (line_is.Unmap va) begun answer_is.Begun here is = removing_stands va (mapping_at s.space (vpn_of va).0) here is refl
    line_stands (line_is.Unmap va) begun answer_is.Ok here is = k.ends va (record { line = here; answer = is })
    line_stands (line_is.Create e image pages) begun answer_is.Begun here is = k.stays
    line_stands (line_is.Create e image pages) true (answer_is.No cause) here is = k.stays
    line_stands (line_is.Shadow e image pages) begun answer_is.Begun here is = k.stays
    line_stands (line_is.Shadow e image pages) true (answer_is.No cause) here is = k.stays
    line_stands (line_is.Fork shadow e pages) begun answer_is.Begun here is = k.stays
    line_stands (line_is.Fork shadow e pages) true (answer_is.No cause) here is = k.stays
    line_stands (line_is.Grant e page) begun answer_is.Begun here is = k.stays
    line_stands (line_is.Run e budget) begun answer_is.Begun here is = k.stays
    line_stands (line_is.Resume e budget) begun answer_is.Begun here is = k.stays
    line_stands (line_is.Send e word) begun answer_is.Begun here is = k.stays
    line_stands (line_is.Take e) begun answer_is.Begun here is = k.stays
    line_stands (line_is.Destroy e) begun answer_is.Begun here is = k.stays
    line_stands (line_is.Drop e) begun answer_is.Begun here is = k.stays
    line_stands line begun now here is = k.stays

    by_line : (o : Option ActorLine) → line_at setup entry.actor entry.line ≡ o → Stand (option_map_or (after_line s entry.actor (named_part bytes entry.answer) entry.answer) o s)
    by_line None here = k.stays
    by_line (Some (of_hart line)) here =
        progressed_stands (change_by (changes s entry.actor line (s.progress entry.actor).begun) entry.answer) entry.actor entry.answer
        (line_stands line (s.progress entry.actor).begun entry.answer here refl)
    by_line (Some (of_attacker line)) here =
        progressed_stands (change_by (attack_changes s (named_part bytes entry.answer) line) entry.answer) entry.actor entry.answer
        (attack_stands s (named_part bytes entry.answer) line entry.answer k.stays)

    -- so it holds after an entry
    pub holds_after_entry : Holds (after setup bytes s entry).space (after setup bytes s entry).removals
    holds_after_entry = by_line (line_at setup entry.actor entry.line) refl
