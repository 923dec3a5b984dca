-- Whose the pages are that the host's mappings name, and that the enclave numbers took.
use Rattle.std.specs.Prelude.{◌≡◌, ℕ, true, List, Some, Contains}
use Rattle.std.specs.List.{All}
use Rattle.mon_tables.specs.Space.{Mapping}
use Rattle.rv_pmp.specs.Pmp.{page_allowed}
use Rattle.pl_history.specs.declared.answer.Entry.{Entry}
use Rattle.pl_history.specs.declared.setup.SetupParts.{SetupParts}
use Rattle.pl_history.specs.Legal.{Legal, legal_state}
use Rattle.pl_history.specs.Monitor.{Monitor, Removal, is_host, number, pages_taken}
use Rattle.pl_history.specs.Protection.{pmp_of}

-- each page that the host maps, or whose mapping is being removed, is the host's; each page that a number took is this number's, and open to
-- every access by the protection entries
pub record PagesStand (setup : SetupParts) (s : Monitor) : Type 0 where
  pub mapped : All (λ (m : Mapping). is_host (s.owner m.page) ≡ true) s.space
  pub removed : All (λ (r : Removal). is_host (s.owner r.mapping.page) ≡ true) s.removals
  pub taken : (e : ℕ) → All (λ page. s.owner page ≡ Some (number e)) (pages_taken (s.number e))
  pub allowed : (e : ℕ) → All (λ page. page_allowed (pmp_of setup) page ≡ true) (pages_taken (s.number e))

-- no page belongs to two numbers, and none that the host maps, or may still reach, belongs to one
pub record PagesApart (s : Monitor) : Type 0 where
  pub numbers : (e f page : ℕ) → Contains (pages_taken (s.number e)) page → Contains (pages_taken (s.number f)) page → e ≡ f
  pub mapped : (m : Mapping) (e : ℕ) → Contains s.space m → Contains (pages_taken (s.number e)) m.page → ⊥
  pub removed : (r : Removal) (e : ℕ) → Contains s.removals r → Contains (pages_taken (s.number e)) r.mapping.page → ⊥

-- so it is in the state that a legal history gives
pub record LegalPages : Type 0 where
  pub stand : (setup : SetupParts) (bytes : List ℕ) (entries : List Entry) → Legal setup bytes entries → PagesStand setup (legal_state setup bytes entries)
  pub apart : (setup : SetupParts) (bytes : List ℕ) (entries : List Entry) → Legal setup bytes entries → PagesApart (legal_state setup bytes entries)
