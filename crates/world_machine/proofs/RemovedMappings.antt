-- In a legal history no access of the host uses a mapping whose removal was answered.
use Rattle.std.proofs.Common.{◌≡◌, ℕ, ◌==◌, List, [], ◌∷◌, ◌++◌, find, Option, Some, None, option_map, refl, sym, subst}
use Rattle.std.specs.Prelude.{Contains}
use Rattle.std.proofs.lemmas.Bool.{eqb-false}
use Rattle.std.proofs.lemmas.List.{append-nil, append_assoc}
use Rattle.pl_base.specs.Address.{vpn_of}
use Rattle.pl_base.specs.declared.address.Va.{Va}
use Rattle.mon_tables.specs.Space.{Mapping, mapping_at}
use Rattle.pl_history.specs.declared.answer.Entry.{Entry}
use Rattle.pl_history.specs.declared.setup.SetupParts.{SetupParts}
use Rattle.pl_history.specs.Legal.{AllAllowed, Allowed, Legal, after, legal_state, state_after}
use Rattle.pl_history.specs.Monitor.{Monitor, Removal, opening, removed_at}
use Rattle.pl_history.proofs.HistoryLemmas.{one_more_gives}
use Rattle.pl_history.proofs.HostMappings.{legal_mappings}
use Rattle.pl_history.proofs.OwnedPages.{legal_pages}
use Rattle.world_machine.specs.HostAccesses.{IsGone, IsLoad, IsMap, IsStore, IsUnmap, LoadsBy, RemovedStayUnused, StoresBy, used_at}
use Rattle.world_machine.proofs.EachMapping.{EachMapping, each_stands, entry_stands, mapped_holds, removed_holds, used_holds}
use Rattle.world_machine.proofs.FoundElements.{unfound_each}
use Rattle.world_machine.proofs.MadeAccesses.{loads_by, stores_by}
use Rattle.world_machine.proofs.OpenRemovals.{entry_gone, legal_open}

-- ---- no mapping of a page is left

abbrev IsNotOf : ℕ → Mapping → Type 0
IsNotOf vpn m = m.vpn ≡ vpn → ⊥

not_found : (o : Option Removal) → option_map (λ (r : Removal). r.mapping) o ≡ None → o ≡ None
not_found None is = refl
not_found (Some r) is = cc

gone_each : (s : Monitor) (vpn : ℕ) → IsGone s vpn → EachMapping (IsNotOf vpn) s.space s.removals
gone_each s vpn gone = record {
  mapped = λ i d below. eqb-false _ vpn (unfound_each (λ (m : Mapping). m.vpn == vpn) s.space gone.space i d below);
  removed = λ i d below. eqb-false _ vpn
      (unfound_each (λ (r : Removal). r.mapping.vpn == vpn) s.removals (not_found (find (λ (r : Removal). r.mapping.vpn == vpn) s.removals) gone.removals) i d below);
}

unused : (o : Option Mapping) → ((m : Mapping) → o ≡ Some m → ⊥) → o ≡ None
unused None never = refl
unused (Some m) never = absurd (never m refl)

each_gone : (s : Monitor) (vpn : ℕ) → EachMapping (IsNotOf vpn) s.space s.removals → IsGone s vpn
each_gone s vpn each = record {
  space = unused (mapping_at s.space vpn) (λ m is. (let held = mapped_holds (IsNotOf vpn) s.space s.removals each vpn m is in held.0 held.1));
  removals = unused (removed_at s.removals vpn) (λ m is. (let held = removed_holds (IsNotOf vpn) s.space s.removals each vpn m is in held.0 held.1));
}

-- ---- parts of a history

module _ (setup : SetupParts) (bytes : List ℕ) where
  -- the entries before one are allowed
  allowed_before : (s : Monitor) (earlier before rest : List Entry) → AllAllowed setup bytes s earlier (before ++ rest) → AllAllowed setup bytes s earlier before
  allowed_before s earlier [] rest all = tt
  allowed_before s earlier (x ∷ before) rest all = (all.0, allowed_before (after setup bytes s x) (earlier ++ x ∷ []) before rest all.1)

  -- and so is that one, in the state that they give
  allowed_there : (s : Monitor) (earlier before rest : List Entry) (entry : Entry) → AllAllowed setup bytes s earlier (before ++ entry ∷ rest)
      → Allowed setup bytes (state_after setup bytes s before) (earlier ++ before) entry
  allowed_there s earlier [] rest entry all = subst (λ b. Allowed setup bytes s b entry) (sym (append-nil earlier)) all.0
  allowed_there s earlier (x ∷ before) rest entry all =
      subst (λ b. Allowed setup bytes (state_after setup bytes s (x ∷ before)) b entry) (append_assoc earlier (x ∷ []) before)
      (allowed_there (after setup bytes s x) (earlier ++ x ∷ []) before rest entry all.1)

  -- the state after an entry and those after it
  state_there : (s : Monitor) (before between : List Entry) (entry : Entry)
      → state_after setup bytes s (before ++ entry ∷ between) ≡ state_after setup bytes (after setup bytes (state_after setup bytes s before) entry) between
  state_there s [] between entry = refl
  state_there s (x ∷ before) between entry = state_there (after setup bytes s x) before between entry

  module _ (entries : List Entry) (legal : Legal setup bytes entries) where
    -- ---- an entry of the history

    module _ (before rest : List Entry) (entry : Entry) (is : entries ≡ before ++ entry ∷ rest) where
      abbrev s : Monitor
      s = legal_state setup bytes before

      legal_then : Legal setup bytes before
      legal_then = allowed_before (opening setup) [] before (entry ∷ rest) (subst (Legal setup bytes) is legal)

      allowed : Allowed setup bytes s before entry
      allowed = allowed_there (opening setup) [] before rest entry (subst (Legal setup bytes) is legal)

      next_is : legal_state setup bytes (before ++ entry ∷ []) ≡ after setup bytes s entry
      next_is = one_more_gives setup bytes before entry

      loads : (va : Va) (value : ℕ) → IsLoad setup entry va value → LoadsBy setup s va value
      loads = loads_by setup s (legal_pages.stand setup bytes before legal_then) bytes before entry allowed

      stores : (va : Va) (word : ℕ) → IsStore setup entry va word → StoresBy setup s (legal_state setup bytes (before ++ entry ∷ [])) va word
      stores va word store =
          subst (λ t. StoresBy setup s t va word) (sym next_is) (stores_by setup s (legal_pages.stand setup bytes before legal_then) bytes before entry allowed va word store)

      gone_now : (va : Va) → IsUnmap setup entry va → IsGone (after setup bytes s entry) (vpn_of va).0
      gone_now va unmap =
          entry_gone setup bytes s before entry allowed va unmap (legal_open setup bytes before legal_then) (legal_mappings.stand setup bytes before legal_then).once

      stays_gone : (vpn : ℕ) → IsGone s vpn → ((m : Mapping) → IsMap setup entry m → m.vpn ≡ vpn → ⊥) → IsGone (legal_state setup bytes (before ++ entry ∷ [])) vpn
      stays_gone vpn gone none =
          subst (λ t. IsGone t vpn) (sym next_is) (each_gone (after setup bytes s entry) vpn (entry_stands (IsNotOf vpn) setup bytes s entry none (gone_each s vpn gone)))

    -- ---- what is mapped after a removal

    module _ (before between rest : List Entry) (removal : Entry) (at va : Va) (m : Mapping) (is : entries ≡ before ++ removal ∷ (between ++ rest)) (unmap : IsUnmap setup removal at)
        (same : (vpn_of at).0 ≡ (vpn_of va).0) where
      -- a mapping of the page was added since
      abbrev IsSince : Mapping → Type 0
      IsSince x = x.vpn ≡ (vpn_of va).0 → (entry : Entry) × Contains between entry × IsMap setup entry x

      -- the state right after the removal, and the one in question
      abbrev removed : Monitor
      removed = after setup bytes (legal_state setup bytes before) removal

      abbrev now : Monitor
      now = legal_state setup bytes (before ++ removal ∷ between)

      none_left : EachMapping (IsNotOf (vpn_of va).0) removed.space removed.removals
      none_left = gone_each removed (vpn_of va).0 (subst (IsGone removed) same (gone_now before (between ++ rest) removal is at unmap))

      each_since : EachMapping IsSince now.space now.removals
      each_since = subst (λ (t : Monitor). EachMapping IsSince t.space t.removals) (sym (state_there (opening setup) before between removal))
          (each_stands IsSince setup bytes between removed (λ entry there x maps of_page. (entry, there, maps))
          (record { mapped = λ i d below of_page. absurd (none_left.mapped i d below of_page); removed = λ i d below of_page. absurd (none_left.removed i d below of_page) }))

      mapped_since : used_at now va ≡ Some m → (entry : Entry) × Contains between entry × IsMap setup entry m
      mapped_since used = (let held = used_holds IsSince now.space now.removals each_since (vpn_of va).0 m used in held.0 held.1)

pub removed_stay_unused : (setup : SetupParts) (bytes : List ℕ) (entries : List Entry) → Legal setup bytes entries → RemovedStayUnused setup bytes entries
removed_stay_unused setup bytes entries legal = record {
  loads = λ before rest entry va value is. loads setup bytes entries legal before rest entry is va value;
  stores = λ before rest entry va word is. stores setup bytes entries legal before rest entry is va word;
  gone = λ before rest entry va is unmap. subst (λ t. IsGone t (vpn_of va).0) (sym (next_is setup bytes entries legal before rest entry is))
      (gone_now setup bytes entries legal before rest entry is va unmap);
  stays_gone = λ before rest entry vpn is. stays_gone setup bytes entries legal before rest entry is vpn;
  mapped_since = mapped_since setup bytes entries legal;
}
