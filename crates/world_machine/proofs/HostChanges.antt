-- What holds of translations, fences and walks still holds after an event of a hart with a line of the host.
use Rattle.std.proofs.Common.{◌≡◌, ◌≢◌, ℕ, ◌<◌, ◌≤◌, true, List, length, Option, refl, sym, ap, ◌∙◌, arith, inl, inr}
use Rattle.std.specs.List.{All}
use Rattle.rv_tlb.specs.declared.tlb.TlbEntry.{TlbEntry}
use Rattle.mem_ctl.specs.Data.{CtlData}
use Rattle.mon_enclave.specs.declared.enclave.Enclave.{Enclave}
use Rattle.mon_enclave.specs.Records.{enclave_at}
use Rattle.mon_fence.specs.declared.fences.Fence.{Fence}
use Rattle.mon_fence.specs.Fences.{fence_of}
use Rattle.mon_host.specs.Laws.{mirror_words}
use Rattle.mon_life.specs.Pages.{leaves_of}
use Rattle.mon_owner.specs.declared.owners.Owner.{Owner}
use Rattle.mon_owner.specs.declared.owners.Owner.TheVariants as owner_is
use Rattle.mon_tables.specs.declared.number_tables.Leaf.{Leaf}
use Rattle.mon_tables.specs.Space.{Mapping}
use Rattle.mon_tables.specs.SpaceWalks.{HostTables, NumberTables}
use Rattle.mon_tables.specs.Tables.{table_number}
use Rattle.pl_history.specs.declared.line.Line.{Line}
use Rattle.pl_history.specs.declared.setup.SetupParts.{SetupParts}
use Rattle.pl_history.specs.Monitor.{Monitor, Number}
use Rattle.world_machine.specs.declared.under.Under.{Under}
use Rattle.world_machine.specs.FencesStand.{FencesStand, NumberFenceStands, IsOwed, RemovalStands, removals_by}
use Rattle.world_machine.specs.Making.{image_of}
use Rattle.world_machine.specs.Standing.{Kept, state_of}
use Rattle.world_machine.specs.TranslationsAgree.{IsFresh, MayUse, MayUseNumber, TranslationsStand, WalkingStands, walking}
use Rattle.world_machine.specs.Worlds.{WorldData, hart_line, tlb_at, under_at}
use Rattle.world_machine.proofs.HostRows.{HostFrame}
use Rattle.world_machine.proofs.NumberRows.{owned_within, table_guard}
use Rattle.world_machine.proofs.TablesReached.{host_table_at, number_table_at, number_tables_stay}
use Rattle.world_machine.proofs.TranslationChanges.{translations_changed}
use Rattle.world_machine.proofs.TranslationFrames.{few_numbers, few_tables, live_there}

-- ---- translations

-- what a hart may use of a number it may still
pub number_used : (setup : SetupParts) (rec : ℕ → Enclave) (s s' : Monitor) (fences fences' : List (Option Fence)) (hart : ℕ) → ((e : ℕ) → s'.number e ≡ s.number e)
    → ((e vpn : ℕ) → IsOwed fences hart e vpn → IsOwed fences' hart e vpn) → (e : ℕ) (m : Mapping)
    → MayUseNumber setup rec s fences hart e m → MayUseNumber setup rec s' fences' hart e m
number_used setup rec s s' fences fences' hart numbers owes e m (inl (live, there)) = inl (ap (λ (n : Number). n.live) (numbers e) ∙ live, there)
number_used setup rec s s' fences fences' hart numbers owes e m (inr owed) = inr (owes e m.vpn owed)

-- a fresh translation stays so, where the numbers stay, the hart may use the mappings of the host that it might, and what was owed is
pub fresh_by : (setup : SetupParts) (rec : ℕ → Enclave) (s s' : Monitor) (fences fences' : List (Option Fence)) (hart : ℕ) → ((e : ℕ) → s'.number e ≡ s.number e)
    → ((m : Mapping) → MayUse s fences hart m → MayUse s' fences' hart m) → ((e vpn : ℕ) → IsOwed fences hart e vpn → IsOwed fences' hart e vpn)
    → (entry : TlbEntry) → IsFresh setup rec s fences hart entry → IsFresh setup rec s' fences' hart entry
fresh_by setup rec s s' fences fences' hart numbers used owes entry (inl host) = inl (record { mapping = host.mapping; is = host.is; fresh = used host.mapping host.fresh })
fresh_by setup rec s s' fences fences' hart numbers used owes entry (inr number) =
    inr (record { e = number.e; mapping = number.mapping; is = number.is; fresh = number_used setup rec s s' fences fences' hart numbers owes number.e number.mapping number.fresh })

-- ---- the event

-- what it leaves of translations, fences and walks: all but the own hart's are as they were, and each other hart may use the mappings that it might
pub record HostChange (w : WorldData) (hart : ℕ) (ctl : CtlData) (tlbs : List (List TlbEntry)) (fences : List (Option Fence)) (s' : Monitor) (line_of : ℕ → Option Line) (under_of : ℕ → Under) : Type 0 where
  pub host : HostTables w.setup.tables (mirror_words ctl) s'.space
  pub harts : length tlbs ≡ length w.tlbs
  pub fences_stand : FencesStand w.setup.harts fences s'.removals
  pub removals : (other : ℕ) → other ≢ hart → removals_by s'.removals other ≡ removals_by (state_of w).removals other
  pub own_removals : RemovalStands (line_of hart) (under_of hart) (removals_by s'.removals hart)
  pub others : (other : ℕ) → other ≢ hart → tlb_at tlbs other ≡ tlb_at w.tlbs other
  pub used : (other : ℕ) → other < w.setup.harts → other ≢ hart → (m : Mapping) → MayUse (state_of w) w.fences other m → MayUse s' fences other m
  pub owed : (other : ℕ) → other < w.setup.harts → other ≢ hart → (e vpn : ℕ) → IsOwed w.fences other e vpn → IsOwed fences other e vpn
  pub giving : (other : ℕ) → NumberFenceStands (line_of other) (under_of other) (fence_of fences other)
  pub own : All (IsFresh w.setup (enclave_at w.enclaves) s' fences hart) (tlb_at tlbs hart)
  pub lines : (other : ℕ) → other ≢ hart → line_of other ≡ hart_line w other
  pub unders : (other : ℕ) → other ≢ hart → under_of other ≡ under_at w.under other
  pub own_walk : WalkingStands ctl (IsFresh w.setup (enclave_at w.enclaves) s' fences hart) (walking w.setup.tables (enclave_at w.enclaves) (line_of hart) (under_of hart))

module _ (digest_of : List ℕ → List ℕ) (w : WorldData) (k : Kept digest_of w) (ctl : CtlData) (owners : List Owner) (s' : Monitor) (f : HostFrame digest_of w ctl owners s') where
  abbrev s : Monitor
  s = state_of w

  abbrev t : TranslationsStand w.setup w.ctl w.tlbs w.fences (enclave_at w.enclaves) s (hart_line w) (under_at w.under)
  t = k.stands.translations

  number_few : (e : ℕ) → (s.number e).live ≡ true → e < 64
  number_few e live = let there : e < w.setup.enclaves = live_there digest_of w k e live in let few : w.setup.enclaves ≤ 64 = few_numbers digest_of w k in omega arith

  abbrev leaves : ℕ → List Leaf
  leaves e = leaves_of (enclave_at w.enclaves e).pages (image_of w.setup (enclave_at w.enclaves e).image).pages

  number_tables : (e : ℕ) → (s.number e).live ≡ true → NumberTables w.setup.tables e (mirror_words ctl) (leaves e)
  number_tables e live = number_tables_stay w.ctl ctl w.setup.tables e (leaves e)
      (λ level low. f.pages (table_number w.setup.tables e level) (omega arith)
      (owned_within digest_of w k (table_number w.setup.tables e level) owner_is.Guard (table_guard digest_of w k e level (live_there digest_of w k e live))))
      (t.tables.numbers e live)

  module _ (hart : ℕ) (tlbs : List (List TlbEntry)) (fences : List (Option Fence)) (line_of : ℕ → Option Line) (under_of : ℕ → Under)
      (c : HostChange w hart ctl tlbs fences s' line_of under_of) where
    pub host_changed : TranslationsStand w.setup ctl tlbs fences (enclave_at w.enclaves) s' line_of under_of
    host_changed = translations_changed digest_of w k hart ctl (enclave_at w.enclaves) tlbs fences s' line_of under_of (record {
      tables = record {
        host = c.host;
        numbers = λ e live. number_tables e (ap (λ (n : Number). n.live) (sym (f.numbers e)) ∙ live);
      };
      host_at = host_table_at w.setup.tables (mirror_words w.ctl) (mirror_words ctl) s.space s'.space t.tables.host c.host;
      number_at = λ e live. number_table_at w.setup.tables e (mirror_words w.ctl) (mirror_words ctl) _ _ (few_tables digest_of w k) (number_few e live)
          (t.tables.numbers e live) (number_tables e live);
      harts = c.harts;
      fences_stand = c.fences_stand;
      giving = c.giving;
      lines = c.lines;
      unders = c.unders;
      contexts = λ other e differs is. refl;
      removals = c.removals;
      tlbs = c.others;
      used = λ other below differs. fresh_by w.setup (enclave_at w.enclaves) s s' w.fences fences other f.numbers (c.used other below differs) (c.owed other below differs);
      own_removals = c.own_removals;
      own_entries = c.own;
      own_walk = c.own_walk;
    })
