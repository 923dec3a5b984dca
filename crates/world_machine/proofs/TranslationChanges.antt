-- What holds of translations, fences and walks still holds after an event of a hart that leaves the other harts' lines and TLBs.
use Rattle.std.proofs.Common.{◌≡◌, ◌≢◌, ℕ, ◌+◌, ◌<◌, true, List, length, Option, Some, sym, ◌∙◌, subst, inl, inr}
use Rattle.std.specs.List.{All}
use Rattle.std.proofs.lemmas.Bool.{cases_lt}
use Rattle.std.proofs.lemmas.List.Elements.{All-nil, All-weaker}
use Rattle.pl_base.specs.declared.address.Vpn.{Vpn}
use Rattle.rv_sv39.specs.Walk.{table_at}
use Rattle.rv_tlb.specs.declared.tlb.TlbEntry.{TlbEntry}
use Rattle.mem_ctl.specs.Data.{CtlData}
use Rattle.mon_enclave.specs.declared.enclave.Enclave.{Enclave}
use Rattle.mon_enclave.specs.Records.{enclave_at}
use Rattle.mon_fence.specs.declared.fences.Fence.{Fence}
use Rattle.mon_fence.specs.Fences.{fence_of}
use Rattle.mon_host.specs.Laws.{mirror_words}
use Rattle.mon_tables.specs.Tables.{root_of}
use Rattle.pl_history.specs.declared.line.Line.{Line}
use Rattle.pl_history.specs.Monitor.{Monitor}
use Rattle.world_machine.specs.declared.under.Under.{Under}
use Rattle.world_machine.specs.FencesStand.{FencesStand, NumberFenceStands, RemovalStands, removals_by}
use Rattle.world_machine.specs.LinesUnderWay.{number_under_way}
use Rattle.world_machine.specs.Standing.{Kept, state_of, written_page}
use Rattle.world_machine.specs.TablesAgree.{TablesAgree}
use Rattle.world_machine.specs.TranslationsAgree.{IsFresh, TranslationsStand, WalkingStands, walking}
use Rattle.world_machine.specs.Worlds.{WorldData, hart_line, tlb_at, under_at}
use Rattle.world_machine.proofs.LineTranslations.{idle_walks, line_walks}
use Rattle.world_machine.proofs.Lists.{everywhere}
use Rattle.world_machine.proofs.TranslationFrames.{tlb_past, under_past}

-- What such an event leaves, in this controller: the tables stand for the spaces, and walks come to the tables that they came to. All but the own
-- hart's line, removals and translations are as they were, and what each other hart may use it may use still.
pub record TranslationChange (w : WorldData) (hart : ℕ) (ctl : CtlData) (rec' : ℕ → Enclave) (tlbs' : List (List TlbEntry)) (fences' : List (Option Fence)) (s' : Monitor)
    (line_of : ℕ → Option Line) (under_of : ℕ → Under) : Type 0 where
  pub tables : TablesAgree w.setup ctl rec' s'
  pub host_at : (vpn : Vpn) (level : ℕ) → table_at (mirror_words ctl) (root_of w.setup.tables 0) vpn level ≡ table_at (mirror_words w.ctl) (root_of w.setup.tables 0) vpn level
  pub number_at : (f : ℕ) → ((state_of w).number f).live ≡ true → (vpn : Vpn) (level : ℕ)
      → table_at (mirror_words ctl) (root_of w.setup.tables (f + 1)) vpn level ≡ table_at (mirror_words w.ctl) (root_of w.setup.tables (f + 1)) vpn level
  pub harts : length tlbs' ≡ length w.tlbs
  pub fences_stand : FencesStand w.setup.harts fences' s'.removals
  pub giving : (other : ℕ) → NumberFenceStands (line_of other) (under_of other) (fence_of fences' other)
  pub lines : (other : ℕ) → other ≢ hart → line_of other ≡ hart_line w other
  pub unders : (other : ℕ) → other ≢ hart → under_of other ≡ under_at w.under other
  pub contexts : (other f : ℕ) → other ≢ hart → number_under_way (hart_line w other) (under_at w.under other) ≡ Some f → (rec' f).context ≡ (enclave_at w.enclaves f).context
  pub removals : (other : ℕ) → other ≢ hart → removals_by s'.removals other ≡ removals_by (state_of w).removals other
  pub tlbs : (other : ℕ) → other ≢ hart → tlb_at tlbs' other ≡ tlb_at w.tlbs other
  pub used : (other : ℕ) → other < w.setup.harts → other ≢ hart → (entry : TlbEntry) → IsFresh w.setup (enclave_at w.enclaves) (state_of w) w.fences other entry
      → IsFresh w.setup rec' s' fences' other entry
  pub own_removals : RemovalStands (line_of hart) (under_of hart) (removals_by s'.removals hart)
  pub own_entries : All (IsFresh w.setup rec' s' fences' hart) (tlb_at tlbs' hart)
  pub own_walk : WalkingStands ctl (IsFresh w.setup rec' s' fences' hart) (walking w.setup.tables rec' (line_of hart) (under_of hart))

module _ (digest_of : List ℕ → List ℕ) (w : WorldData) (k : Kept digest_of w) (hart : ℕ) (ctl : CtlData) (rec' : ℕ → Enclave) (tlbs' : List (List TlbEntry)) (fences' : List (Option Fence))
    (s' : Monitor) (line_of : ℕ → Option Line) (under_of : ℕ → Under) (c : TranslationChange w hart ctl rec' tlbs' fences' s' line_of under_of) where
  abbrev s : Monitor
  s = state_of w

  abbrev t : TranslationsStand w.setup w.ctl w.tlbs w.fences (enclave_at w.enclaves) s (hart_line w) (under_at w.under)
  t = k.stands.translations

  -- ---- other harts

  abbrev Before : ℕ → TlbEntry → Type 0
  Before = IsFresh w.setup (enclave_at w.enclaves) s w.fences

  abbrev After : ℕ → TlbEntry → Type 0
  After = IsFresh w.setup rec' s' fences'

  abbrev Stand : ℕ → Option Line → Under → Type 0
  Stand other line under = WalkingStands ctl (After other) (walking w.setup.tables rec' line under)

  -- what holds of the line that another hart had holds of the one that it has
  line_still : (P : Option Line → Under → Type 0) (other : ℕ) → other ≢ hart → P (hart_line w other) (under_at w.under other) → P (line_of other) (under_of other)
  line_still P other differs holds =
      subst (λ l. P l (under_of other)) (sym (c.lines other differs)) (subst (P (hart_line w other)) (sym (c.unders other differs)) holds)

  entries_other : (other : ℕ) → other ≢ hart → All (After other) (tlb_at tlbs' other)
  entries_other other differs = subst (All (After other)) (sym (c.tlbs other differs)) (elim (cases_lt other w.setup.harts) [
    | inl below ↦ All-weaker (Before other) (After other) (c.used other below differs) (tlb_at w.tlbs other) (t.fresh.entries other)
    | inr past ↦ subst (All (After other)) (sym (tlb_past digest_of w k other past)) (All-nil (After other))
  ])

  same_walk : (other : ℕ) → other < w.setup.harts → other ≢ hart → Stand other (hart_line w other) (under_at w.under other)
  same_walk other below differs =
      line_walks w.setup.tables w.ctl ctl (Before other) (After other) (c.used other below differs) s.number c.host_at c.number_at w.setup (written_page w) (enclave_at w.enclaves) rec'
      k.stands.records other (hart_line w other) (under_at w.under other) (k.stands.lines other) (λ f is. c.contexts other f differs is) (t.fresh.walks other)

  walk_other : (other : ℕ) → other ≢ hart → Stand other (line_of other) (under_of other)
  walk_other other differs = line_still (Stand other) other differs (elim (cases_lt other w.setup.harts) [
    | inl below ↦ same_walk other below differs
    | inr past ↦ subst (Stand other (hart_line w other)) (sym (under_past digest_of w k other past)) (idle_walks ctl (After other) w.setup.tables rec' (hart_line w other))
  ])

  removal_other : (other : ℕ) → other ≢ hart → RemovalStands (line_of other) (under_of other) (removals_by s'.removals other)
  removal_other other differs =
      subst (RemovalStands (line_of other) (under_of other)) (sym (c.removals other differs))
      (line_still (λ l u. RemovalStands l u (removals_by s.removals other)) other differs (t.removals other))

  -- ---- all of them

  pub translations_changed : TranslationsStand w.setup ctl tlbs' fences' rec' s' line_of under_of
  translations_changed = record {
    tables = c.tables;
    harts = c.harts ∙ t.harts;
    fences_stand = c.fences_stand;
    removals = everywhere (λ h. RemovalStands (line_of h) (under_of h) (removals_by s'.removals h)) hart c.own_removals removal_other;
    giving = c.giving;
    fresh = record {
      entries = everywhere (λ h. All (After h) (tlb_at tlbs' h)) hart c.own_entries entries_other;
      walks = everywhere (λ h. Stand h (line_of h) (under_of h)) hart c.own_walk walk_other;
    };
  }
