-- The host's accesses in a history: each goes by a mapping that is there, and none by one whose removal was answered.
use Rattle.std.specs.Prelude.{◌≡◌, ℕ, ◌+◌, ◌%◌, ◌==◌, true, if◌then◌else◌, List, [], ◌∷◌, ◌++◌, Option, Some, None, Contains}
use Rattle.byteorder.specs.Endian.{little_bytes}
use Rattle.pl_base.specs.Address.{vpn_of}
use Rattle.pl_base.specs.Bytes.{with_bytes}
use Rattle.pl_base.specs.Perms.{grants}
use Rattle.pl_base.specs.declared.access.Kind.{Kind}
use Rattle.pl_base.specs.declared.access.Kind.TheVariants as kind
use Rattle.pl_base.specs.declared.address.Va.{Va}
use Rattle.pl_base.specs.declared.perms.Perms.{Perms}
use Rattle.mem_geom.specs.Layout.{page_start}
use Rattle.mon_host.specs.Laws.{new_mapping}
use Rattle.mon_tables.specs.Space.{Mapping, mapping_at}
use Rattle.rv_pmp.specs.Pmp.{permits}
use Rattle.pl_history.specs.declared.answer.Answer.TheVariants as answer_is
use Rattle.pl_history.specs.declared.answer.Entry.{Entry}
use Rattle.pl_history.specs.declared.line.Line.{Line}
use Rattle.pl_history.specs.declared.line.Line.TheVariants.{Load, Store, Map, Unmap}
use Rattle.pl_history.specs.declared.setup.SetupParts.{SetupParts}
use Rattle.pl_history.specs.HostAccess.{host_word, mapping_used}
use Rattle.pl_history.specs.Legal.{line_at, legal_state, of_hart}
use Rattle.pl_history.specs.Monitor.{Monitor, host, removed_at}
use Rattle.pl_history.specs.Protection.{pmp_of}

-- ---- entries

-- the line that an entry answers is this one of a hart's script
abbrev pub IsOf : SetupParts → Entry → Line → Type 0
IsOf setup entry line = line_at setup entry.actor entry.line ≡ Some (of_hart line)

-- a `load` of an address was answered by a value
pub record IsLoad (setup : SetupParts) (entry : Entry) (va : Va) (value : ℕ) : Type 0 where
  pub line : IsOf setup entry (Load va)
  pub answer : entry.answer ≡ answer_is.Value value

-- a `store` of a word at an address was answered `ok`
pub record IsStore (setup : SetupParts) (entry : Entry) (va : Va) (word : ℕ) : Type 0 where
  pub line : IsOf setup entry (Store va word)
  pub answer : entry.answer ≡ answer_is.Ok

-- a `map` that adds a mapping was answered `ok`
pub record IsMap (setup : SetupParts) (entry : Entry) (m : Mapping) : Type 0 where
  pub va : Va
  pub page : ℕ
  pub perms : Perms
  pub line : IsOf setup entry (Map va page perms)
  pub answer : entry.answer ≡ answer_is.Ok
  pub is : m ≡ new_mapping va page perms

-- the `unmap` of an address was answered `ok`: the removal is over
pub record IsUnmap (setup : SetupParts) (entry : Entry) (va : Va) : Type 0 where
  pub line : IsOf setup entry (Unmap va)
  pub answer : entry.answer ≡ answer_is.Ok

-- ---- accesses in a state

-- the mapping that an access to an address goes by: that of the space, or else the one that is being removed
abbrev pub used_at : Monitor → Va → Option Mapping
used_at s va = mapping_used (mapping_at s.space (vpn_of va).0) (removed_at s.removals (vpn_of va).0)

-- An access goes by a mapping of its page that is there: this grants the kind, the protection entries let the access through, and the page is the
-- host's.
pub record GoesBy (setup : SetupParts) (s : Monitor) (kind : Kind) (va : Va) (m : Mapping) : Type 0 where
  pub used : used_at s va ≡ Some m
  pub vpn : m.vpn ≡ (vpn_of va).0
  pub granted : grants m.perms kind ≡ true
  pub let_through : permits (pmp_of setup) (page_start m.page + va.0 % 4096) 8 kind ≡ true
  pub owner : s.owner m.page ≡ Some host

-- a load gives the word of that page
pub record LoadsBy (setup : SetupParts) (s : Monitor) (va : Va) (value : ℕ) : Type 0 where
  pub mapping : Mapping
  pub by : GoesBy setup s kind.Load va mapping
  pub value_is : value ≡ host_word s va mapping

-- and a store puts its word there, and changes no other page
pub record StoresBy (setup : SetupParts) (s after : Monitor) (va : Va) (word : ℕ) : Type 0 where
  pub mapping : Mapping
  pub by : GoesBy setup s kind.Store va mapping
  pub bytes : (page : ℕ) → after.bytes page ≡ (if page == mapping.page then with_bytes (s.bytes page) (va.0 % 4096) (little_bytes 8 word) else s.bytes page)

-- no mapping of a virtual page number is in the space, and none is being removed: no access to the page can go by one
pub record IsGone (s : Monitor) (vpn : ℕ) : Type 0 where
  pub space : mapping_at s.space vpn ≡ None
  pub removals : removed_at s.removals vpn ≡ None

-- ---- in a history

-- Each `load` that was answered by a value, and each `store` that was answered `ok`, went by a mapping that was there. After the `ok` of an `unmap`
-- no mapping of its page is, and only the `ok` of a `map` of the page brings one. So no access uses a mapping whose removal was answered: one that it
-- goes by later was added by a `map` since.
pub record RemovedStayUnused (setup : SetupParts) (bytes : List ℕ) (entries : List Entry) : Type 0 where
  pub loads : (before after : List Entry) (entry : Entry) (va : Va) (value : ℕ) → entries ≡ before ++ entry ∷ after → IsLoad setup entry va value
      → LoadsBy setup (legal_state setup bytes before) va value
  pub stores : (before after : List Entry) (entry : Entry) (va : Va) (word : ℕ) → entries ≡ before ++ entry ∷ after → IsStore setup entry va word
      → StoresBy setup (legal_state setup bytes before) (legal_state setup bytes (before ++ entry ∷ [])) va word
  pub gone : (before after : List Entry) (entry : Entry) (va : Va) → entries ≡ before ++ entry ∷ after → IsUnmap setup entry va
      → IsGone (legal_state setup bytes (before ++ entry ∷ [])) (vpn_of va).0
  pub stays_gone : (before after : List Entry) (entry : Entry) (vpn : ℕ) → entries ≡ before ++ entry ∷ after → IsGone (legal_state setup bytes before) vpn
      → ((m : Mapping) → IsMap setup entry m → m.vpn ≡ vpn → ⊥) → IsGone (legal_state setup bytes (before ++ entry ∷ [])) vpn
  pub mapped_since : (before between after : List Entry) (removal : Entry) (at va : Va) (m : Mapping) → entries ≡ before ++ removal ∷ (between ++ after)
      → IsUnmap setup removal at → (vpn_of at).0 ≡ (vpn_of va).0 → used_at (legal_state setup bytes (before ++ removal ∷ between)) va ≡ Some m
      → (entry : Entry) × Contains between entry × IsMap setup entry m
