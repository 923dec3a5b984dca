-- What holds of each mapping of the host, in its space or being removed, holds of each after any answer: only the `ok` of a `map` brings one.
use Rattle.std.proofs.Common.{◌≡◌, ℕ, ◌==◌, not, List, [], ◌∷◌, find, Option, Some, None, option_map, refl, ◌∙◌, subst}
use Rattle.std.specs.Prelude.{Contains}
use Rattle.std.specs.List.{All}
use Rattle.std.proofs.lemmas.Bool.{eqb-true}
use Rattle.std.proofs.lemmas.List.Elements.{All-filter, All-nil, All-push}
use Rattle.pl_base.specs.Address.{vpn_of}
use Rattle.mon_tables.specs.Space.{Mapping, mapping_at}
use Rattle.pl_history.specs.declared.answer.Entry.{Entry}
use Rattle.pl_history.specs.declared.setup.SetupParts.{SetupParts}
use Rattle.pl_history.specs.HostAccess.{mapping_used}
use Rattle.pl_history.specs.Legal.{after, state_after}
use Rattle.pl_history.specs.Monitor.{Monitor, Removal, opening, removed_at}
use Rattle.world_machine.specs.HostAccesses.{IsMap}
use Rattle.world_machine.proofs.Licences.{first_in, later_in}
use Rattle.world_machine.proofs.MappingChanges.{holds_after_entry}
use Rattle.world_machine.proofs.WalkLemmas.{found}

-- it holds of each mapping in a space, and of each that is being removed
pub record EachMapping (P : Mapping → Type 0) (space : List Mapping) (removals : List Removal) : Type 0 where
  pub mapped : All P space
  pub removed : All (λ (r : Removal). P r.mapping) removals

module _ (P : Mapping → Type 0) where
  pub opening_stands : (setup : SetupParts) → EachMapping P (opening setup).space (opening setup).removals
  unfolding opening
  opening_stands setup = record { mapped = All-nil P; removed = All-nil (λ (r : Removal). P r.mapping) }

  pub entry_stands : (setup : SetupParts) (bytes : List ℕ) (s : Monitor) (entry : Entry) → ((m : Mapping) → IsMap setup entry m → P m) → EachMapping P s.space s.removals
      → EachMapping P (after setup bytes s entry).space (after setup bytes s entry).removals
  entry_stands setup bytes s entry brings k = holds_after_entry (EachMapping P) setup bytes s entry (record {
    stays = k;
    maps = λ m is. record { mapped = All-push P s.space m k.mapped (brings m is); removed = k.removed };
    begins = λ va m here begun is. record {
      mapped = All-filter (λ (x : Mapping). not (x.vpn == m.vpn)) P s.space k.mapped;
      removed = All-push (λ (r : Removal). P r.mapping) s.removals (record { hart = entry.actor; mapping = m }) k.removed
          (found P (λ (x : Mapping). x.vpn == (vpn_of va).0) s.space m k.mapped is).0;
    };
    ends = λ va is. record { mapped = k.mapped; removed = All-filter (λ (r : Removal). not (r.hart == entry.actor)) (λ (r : Removal). P r.mapping) s.removals k.removed };
  })

  -- so it holds after more entries
  pub each_stands : (setup : SetupParts) (bytes : List ℕ) (entries : List Entry) (s : Monitor) → ((entry : Entry) → Contains entries entry → (m : Mapping) → IsMap setup entry m → P m)
      → EachMapping P s.space s.removals → EachMapping P (state_after setup bytes s entries).space (state_after setup bytes s entries).removals
  each_stands setup bytes [] s brings k = k
  each_stands setup bytes (x ∷ xs) s brings k =
      each_stands setup bytes xs (after setup bytes s x) (λ entry there. brings entry (later_in x entry xs there)) (entry_stands setup bytes s x (brings x (first_in x xs)) k)

-- ---- the mapping that an access goes by

removed_by : (o : Option Removal) (m : Mapping) → option_map (λ (r : Removal). r.mapping) o ≡ Some m → (r : Removal) × (o ≡ Some r) × (r.mapping ≡ m)
removed_by None m is = cc
removed_by (Some r) m is = (r, refl, cc)

module _ (P : Mapping → Type 0) (space : List Mapping) (removals : List Removal) (k : EachMapping P space removals) (vpn : ℕ) (m : Mapping) where
  pub mapped_holds : mapping_at space vpn ≡ Some m → P m × (m.vpn ≡ vpn)
  mapped_holds is = (let here = found P (λ (x : Mapping). x.vpn == vpn) space m k.mapped is in (here.0, eqb-true m.vpn vpn here.1))

  pub removed_holds : removed_at removals vpn ≡ Some m → P m × (m.vpn ≡ vpn)
  removed_holds is =
      let one = removed_by (find (λ (r : Removal). r.mapping.vpn == vpn) removals) m is in
      let r : Removal = one.0 in
      let here = found (λ (x : Removal). P x.mapping) (λ (x : Removal). x.mapping.vpn == vpn) removals r k.removed one.1 in
      subst (λ (x : Mapping). P x × (x.vpn ≡ vpn)) one.2 (here.0, eqb-true r.mapping.vpn vpn here.1)

  by_space : (a b : Option Mapping) → mapping_at space vpn ≡ a → removed_at removals vpn ≡ b → mapping_used a b ≡ Some m → P m × (m.vpn ≡ vpn)
  by_space (Some x) b mapped removed is = mapped_holds (mapped ∙ is)
  by_space None b mapped removed is = removed_holds (removed ∙ is)

  -- it holds of the mapping that is used, which is one of the address
  pub used_holds : mapping_used (mapping_at space vpn) (removed_at removals vpn) ≡ Some m → P m × (m.vpn ≡ vpn)
  used_holds is = by_space (mapping_at space vpn) (removed_at removals vpn) refl refl is
