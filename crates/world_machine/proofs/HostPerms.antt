-- The host's mappings, and those that it is taking away, have permissions that a page may have: each was asked for by a line of a script.
use Rattle.std.proofs.Common.{◌≡◌, ℕ, ◌==◌, Bool, true, false, List, [], ◌∷◌, ◌++◌, slice_get, Some, option_map, sym, subst}
use Rattle.std.specs.Prelude.{IsTrue, if◌then◌else◌}
use Rattle.pl_base.specs.Perms.{are_page_perms}
use Rattle.mon_tables.specs.Space.{Mapping}
use Rattle.pl_history.specs.declared.answer.Entry.{Entry}
use Rattle.pl_history.specs.declared.line.Line.{Line}
use Rattle.pl_history.specs.declared.setup.SetupParts.{SetupParts}
use Rattle.pl_history.specs.Legal.{AllAllowed, Legal, after, legal_state, of_attacker, of_hart, state_after}
use Rattle.pl_history.specs.Monitor.{Monitor, opening, script_of}
use Rattle.pl_history.specs.Rules.{IsSetup, is_line}
use Rattle.world_machine.specs.HostAccesses.{IsMap}
use Rattle.world_machine.proofs.Bounds.{not_attackers, same_line}
use Rattle.world_machine.proofs.EachMapping.{EachMapping, entry_stands, opening_stands}
use Rattle.world_machine.proofs.SetupFacts.{line_forms}

abbrev pub HasPerms : Mapping → Type 0
HasPerms m = IsTrue (are_page_perms m.perms)

module _ (setup : SetupParts) (rules : IsSetup setup) (bytes : List ℕ) where
  -- the line of an entry has the form of one
  form_of : (actor at : ℕ) (line : Line) (test : Bool)
      → (if test then option_map of_attacker (slice_get setup.attacker at) else option_map of_hart (slice_get (script_of setup actor) at)) ≡ Some (of_hart line) → is_line line ≡ true
  form_of actor at line true there = absurd (not_attackers (slice_get setup.attacker at) line there)
  form_of actor at line false there = line_forms setup actor at line rules (same_line (slice_get (script_of setup actor) at) line there)

  brought : (entry : Entry) (m : Mapping) → IsMap setup entry m → HasPerms m
  brought entry m is = subst HasPerms (sym is.is) (form_of entry.actor entry.line _ (entry.actor == setup.harts) is.line)

  all_stand : (s : Monitor) (before entries : List Entry) → AllAllowed setup bytes s before entries → EachMapping HasPerms s.space s.removals
      → EachMapping HasPerms (state_after setup bytes s entries).space (state_after setup bytes s entries).removals
  all_stand s before [] allowed k = k
  all_stand s before (entry ∷ entries) allowed k =
      all_stand (after setup bytes s entry) (before ++ entry ∷ []) entries allowed.1 (entry_stands HasPerms setup bytes s entry (brought entry) k)

  -- so it is in the state that a legal history gives
  pub legal_perms : (entries : List Entry) → Legal setup bytes entries → EachMapping HasPerms (legal_state setup bytes entries).space (legal_state setup bytes entries).removals
  legal_perms entries legal = all_stand (opening setup) [] entries legal (opening_stands HasPerms setup)
