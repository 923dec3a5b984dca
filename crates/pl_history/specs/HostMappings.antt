-- The host's mappings and those that it is removing: each at an address of its own, which its tables have a word for.
use Rattle.std.specs.Prelude.{ℕ, ◌+◌, ◌*◌, ◌<◌, ◌≤◌, ◌==◌, List, count_by}
use Rattle.std.specs.List.{All}
use Rattle.mon_tables.specs.Space.{Mapping}
use Rattle.pl_history.specs.declared.answer.Entry.{Entry}
use Rattle.pl_history.specs.declared.setup.SetupParts.{SetupParts}
use Rattle.pl_history.specs.Legal.{Legal, legal_state}
use Rattle.pl_history.specs.Monitor.{Removal, maps_of}

-- no virtual page number stands twice in the space and the removals, and each has its word in one of so many last-level tables
pub record MappingsStand (tables : ℕ) (space : List Mapping) (removals : List Removal) : Type 0 where
  pub once : (vpn : ℕ) → count_by (λ (m : Mapping). m.vpn == vpn) space + count_by (λ (r : Removal). r.mapping.vpn == vpn) removals ≤ 1
  pub mapped : All (λ (m : Mapping). m.vpn < 512 * tables) space
  pub removed : All (λ (r : Removal). r.mapping.vpn < 512 * tables) removals

-- so it is in the state that a legal history gives, and the host maps a page at most as often as its tables have words
pub record LegalMappings : Type 0 where
  pub stand : (setup : SetupParts) (bytes : List ℕ) (entries : List Entry) → Legal setup bytes entries
      → MappingsStand setup.tables (legal_state setup bytes entries).space (legal_state setup bytes entries).removals
  pub few : (setup : SetupParts) (bytes : List ℕ) (entries : List Entry) → Legal setup bytes entries → (page : ℕ) → maps_of (legal_state setup bytes entries) page ≤ 512 * setup.tables
