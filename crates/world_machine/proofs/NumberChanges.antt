-- What holds of translations, fences and walks still holds after an event of a hart that changes one number, its tables and the hart's fence.
use Rattle.std.proofs.Common.{◌≡◌, ◌≢◌, ℕ, ◌+◌, ◌<◌, true, List, length, Option, Some, sym, ap, subst}
use Rattle.std.specs.List.{All}
use Rattle.pl_base.specs.declared.address.Vpn.{Vpn}
use Rattle.rv_sv39.specs.Walk.{table_at}
use Rattle.rv_tlb.specs.declared.tlb.TlbEntry.{TlbEntry}
use Rattle.mem_ctl.specs.Data.{CtlData}
use Rattle.mon_enclave.specs.declared.enclave.Enclave.{Enclave}
use Rattle.mon_enclave.specs.Records.{enclave_at}
use Rattle.mon_fence.specs.declared.fences.Fence.{Fence}
use Rattle.mon_fence.specs.Fences.{fence_of}
use Rattle.mon_host.specs.Laws.{mirror_words}
use Rattle.mon_tables.specs.Tables.{root_of}
use Rattle.pl_history.specs.declared.line.Line.{Line}
use Rattle.pl_history.specs.Monitor.{Monitor}
use Rattle.world_machine.specs.declared.under.Under.{Under}
use Rattle.world_machine.specs.FencesStand.{FencesStand, NumberFenceStands, RemovalStands, removals_by}
use Rattle.world_machine.specs.LinesUnderWay.{number_under_way}
use Rattle.world_machine.specs.Standing.{Kept, state_of}
use Rattle.world_machine.specs.TablesAgree.{TablesAgree}
use Rattle.world_machine.specs.TranslationsAgree.{IsFresh, TranslationsStand, WalkingStands, walking}
use Rattle.world_machine.specs.Worlds.{WorldData, hart_line, tlb_at, under_at}
use Rattle.world_machine.proofs.Lists.{everywhere}
use Rattle.world_machine.proofs.TranslationChanges.{translations_changed}

-- What the event of a hart leaves, for number e, in this controller: the host's space and the removals stay, and so do the records of all other
-- numbers; the tables stand for the spaces, and walks come to the tables that they came to. All but the own hart's line, fence and translations are
-- as they were, and what each other hart may use it may use still.
pub record NumberChange (w : WorldData) (hart e : ℕ) (ctl : CtlData) (rec' : ℕ → Enclave) (tlbs' : List (List TlbEntry)) (fences' : List (Option Fence)) (s' : Monitor)
    (line_of : ℕ → Option Line) (under_of : ℕ → Under) : Type 0 where
  pub removals : s'.removals ≡ (state_of w).removals
  pub records : (f : ℕ) → f ≢ e → rec' f ≡ enclave_at w.enclaves f
  pub tables : TablesAgree w.setup ctl rec' s'
  pub host_at : (vpn : Vpn) (level : ℕ) → table_at (mirror_words ctl) (root_of w.setup.tables 0) vpn level ≡ table_at (mirror_words w.ctl) (root_of w.setup.tables 0) vpn level
  pub number_at : (f : ℕ) → ((state_of w).number f).live ≡ true → (vpn : Vpn) (level : ℕ)
      → table_at (mirror_words ctl) (root_of w.setup.tables (f + 1)) vpn level ≡ table_at (mirror_words w.ctl) (root_of w.setup.tables (f + 1)) vpn level
  pub harts : length tlbs' ≡ length w.tlbs
  pub fences_stand : FencesStand w.setup.harts fences' (state_of w).removals
  pub lines : (other : ℕ) → other ≢ hart → line_of other ≡ hart_line w other
  pub unders : (other : ℕ) → other ≢ hart → under_of other ≡ under_at w.under other
  pub apart : (other f : ℕ) → other ≢ hart → number_under_way (hart_line w other) (under_at w.under other) ≡ Some f → f ≢ e
  pub fences : (other : ℕ) → other ≢ hart → fence_of fences' other ≡ fence_of w.fences other
  pub tlbs : (other : ℕ) → other ≢ hart → tlb_at tlbs' other ≡ tlb_at w.tlbs other
  pub used : (other : ℕ) → other < w.setup.harts → other ≢ hart → (entry : TlbEntry) → IsFresh w.setup (enclave_at w.enclaves) (state_of w) w.fences other entry
      → IsFresh w.setup rec' s' fences' other entry
  pub own_removals : RemovalStands (line_of hart) (under_of hart) (removals_by (state_of w).removals hart)
  pub own_giving : NumberFenceStands (line_of hart) (under_of hart) (fence_of fences' hart)
  pub own_entries : All (IsFresh w.setup rec' s' fences' hart) (tlb_at tlbs' hart)
  pub own_walk : WalkingStands ctl (IsFresh w.setup rec' s' fences' hart) (walking w.setup.tables rec' (line_of hart) (under_of hart))

module _ (digest_of : List ℕ → List ℕ) (w : WorldData) (k : Kept digest_of w) (hart e : ℕ) (ctl : CtlData) (rec' : ℕ → Enclave) (tlbs' : List (List TlbEntry)) (fences' : List (Option Fence))
    (s' : Monitor) (line_of : ℕ → Option Line) (under_of : ℕ → Under) (c : NumberChange w hart e ctl rec' tlbs' fences' s' line_of under_of) where
  giving_other : (other : ℕ) → other ≢ hart → NumberFenceStands (line_of other) (under_of other) (fence_of fences' other)
  giving_other other differs =
      subst (NumberFenceStands (line_of other) (under_of other)) (sym (c.fences other differs))
      (subst (λ l. NumberFenceStands l (under_of other) (fence_of w.fences other)) (sym (c.lines other differs))
      (subst (λ u. NumberFenceStands (hart_line w other) u (fence_of w.fences other)) (sym (c.unders other differs)) (k.stands.translations.giving other)))

  pub number_changed : TranslationsStand w.setup ctl tlbs' fences' rec' s' line_of under_of
  number_changed = translations_changed digest_of w k hart ctl rec' tlbs' fences' s' line_of under_of (record {
    tables = c.tables;
    host_at = c.host_at;
    number_at = c.number_at;
    harts = c.harts;
    fences_stand = subst (FencesStand w.setup.harts fences') (sym c.removals) c.fences_stand;
    giving = everywhere (λ h. NumberFenceStands (line_of h) (under_of h) (fence_of fences' h)) hart c.own_giving giving_other;
    lines = c.lines;
    unders = c.unders;
    contexts = λ other f differs is. ap (λ (r : Enclave). r.context) (c.records f (c.apart other f differs is));
    removals = λ other differs. ap (λ removals. removals_by removals other) c.removals;
    tlbs = c.tlbs;
    used = c.used;
    own_removals = subst (λ removals. RemovalStands (line_of hart) (under_of hart) (removals_by removals hart)) (sym c.removals) c.own_removals;
    own_entries = c.own_entries;
    own_walk = c.own_walk;
  })
