-- Each translation of a hart is one of its space, or is being taken away by a fence that still needs this hart; and walks under way stand.
use Rattle.std.specs.Prelude.{◌≡◌, ◌⊎◌, ℕ, ◌+◌, ◌<◌, true, List, length, Option, Some, None, option_map}
use Rattle.std.specs.List.{All}
use Rattle.pl_base.specs.Address.{vpn_of}
use Rattle.pl_base.specs.declared.access.Kind.{Kind}
use Rattle.pl_base.specs.declared.address.Va.{Va}
use Rattle.pl_base.specs.declared.number.Space.{Space}
use Rattle.rv_alone.specs.Effect.{act_of}
use Rattle.rv_hart.specs.declared.walks.Micro.{Micro}
use Rattle.rv_hart.specs.declared.walks.Micro.TheVariants.{Fetching, Reaching, Faulting}
use Rattle.rv_hart.specs.declared.walks.View.{View}
use Rattle.rv_hart.specs.declared.walks.Walk.{Walk}
use Rattle.rv_hart.specs.declared.walks.Walk.TheVariants.{Start, Level, Found}
use Rattle.rv_sv39.specs.Walk.{table_at}
use Rattle.rv_tlb.specs.declared.tlb.TlbEntry.{TlbEntry}
use Rattle.mem_ctl.specs.Data.{CtlData}
use Rattle.mon_enclave.specs.declared.enclave.Enclave.{Enclave}
use Rattle.mon_fence.specs.declared.fences.Fence.{Fence}
use Rattle.mon_fence.specs.Fences.{fence_of}
use Rattle.mon_host.specs.Laws.{mirror_words}
use Rattle.mon_host.specs.Leaves.{host_space}
use Rattle.mon_life.specs.Pages.{leaves_of}
use Rattle.mon_tables.specs.Space.{Mapping, first_vpn, mapping_at}
use Rattle.mon_tables.specs.SpaceWalks.{leaf_mappings}
use Rattle.mon_tables.specs.Words.{ppn_of_page}
use Rattle.pl_history.specs.declared.line.Line.{Line}
use Rattle.pl_history.specs.declared.line.Line.TheVariants as line_is
use Rattle.pl_history.specs.declared.setup.SetupParts.{SetupParts}
use Rattle.pl_history.specs.Monitor.{Monitor}
use Rattle.world_machine.specs.declared.under.Under.{Under}
use Rattle.world_machine.specs.declared.under.Under.TheVariants.{Running, Seeking}
use Rattle.world_machine.specs.FencesStand.{FencesStand, NumberFenceStands, IsOpen, IsOwed, RemovalStands, removals_by}
use Rattle.world_machine.specs.LinesUnderWay.{access_of}
use Rattle.world_machine.specs.Making.{image_of}
use Rattle.world_machine.specs.TablesAgree.{TablesAgree}
use Rattle.world_machine.specs.Translating.{host_view, number_view}
use Rattle.world_machine.specs.Worlds.{tlb_at}

-- ---- translations

-- the translation that a mapping of a space gives
abbrev pub entry_of : Space → Mapping → TlbEntry
entry_of space m = record { space = space; vpn = record { 0 = m.vpn }; ppn = record { 0 = ppn_of_page m.page }; perms = m.perms }

-- a hart may use a mapping of the host: the host's space has it, or it is being taken away and the hart has yet to acknowledge that
abbrev pub MayUse : Monitor → List (Option Fence) → ℕ → Mapping → Type 0
MayUse s fences hart m = (mapping_at s.space m.vpn ≡ Some m) ⊎ IsOpen fences s.removals hart m

-- a translation of the host: that of a mapping that the hart may use
pub record IsHostEntry (s : Monitor) (fences : List (Option Fence)) (hart : ℕ) (entry : TlbEntry) : Type 0 where
  pub mapping : Mapping
  pub is : entry ≡ entry_of host_space mapping
  pub fresh : MayUse s fences hart mapping

-- the space that the pages of a record stand for: the leaves of its image's pages
abbrev pub space_of : SetupParts → Enclave → List Mapping
space_of setup r = leaf_mappings first_vpn (leaves_of r.pages (image_of setup r.image).pages)

-- a hart may use a mapping of a number: the space of the live number has it, or a fence of that page, or of the number's whole space, still needs
-- the hart
abbrev pub MayUseNumber : SetupParts → (ℕ → Enclave) → Monitor → List (Option Fence) → ℕ → ℕ → Mapping → Type 0
MayUseNumber setup record_of s fences hart e m =
    (((s.number e).live ≡ true) × (mapping_at (space_of setup (record_of e)) m.vpn ≡ Some m)) ⊎ IsOwed fences hart e m.vpn

-- a translation of a number: that of a mapping that the hart may use
pub record IsNumberEntry (setup : SetupParts) (record_of : ℕ → Enclave) (s : Monitor) (fences : List (Option Fence)) (hart : ℕ) (entry : TlbEntry) : Type 0 where
  pub e : ℕ
  pub mapping : Mapping
  pub is : entry ≡ entry_of (record { 0 = e + 1 }) mapping
  pub fresh : MayUseNumber setup record_of s fences hart e mapping

-- nobody else has translations
abbrev pub IsFresh : SetupParts → (ℕ → Enclave) → Monitor → List (Option Fence) → ℕ → TlbEntry → Type 0
IsFresh setup record_of s fences hart entry = IsHostEntry s fences hart entry ⊎ IsNumberEntry setup record_of s fences hart entry

-- ---- walks under way

-- the walk of an address in a view
pub record Walking : Type 0 where
  pub view : View
  pub va : Va
  pub walk : Walk

-- of the instruction of an enclave: to its word, or to its data
abbrev pub walking_of : ℕ → ℕ → Enclave → Micro → Option Walking
walking_of tables e r (Fetching walk) = Some (record { view = number_view tables e; va = record { 0 = r.context.pc }; walk = walk })
walking_of tables e r (Reaching word walk) =
    option_map (λ (access : Kind × ℕ). record { view = number_view tables e; va = record { 0 = access.1 }; walk = walk }) (access_of (act_of r.context word))
walking_of tables e r (Faulting va access) = None

-- of a hart's line that is so far
abbrev pub walking : ℕ → (ℕ → Enclave) → Option Line → Under → Option Walking
walking tables record_of (Some (line_is.Load va)) (Seeking walk) = Some (record { view = host_view tables; va = va; walk = walk })
walking tables record_of (Some (line_is.Store va word)) (Seeking walk) = Some (record { view = host_view tables; va = va; walk = walk })
walking tables record_of (Some (line_is.Run e budget)) (Running micro count) = walking_of tables e.0 (record_of e.0) micro
walking tables record_of (Some (line_is.Resume e budget)) (Running micro count) = walking_of tables e.0 (record_of e.0) micro
walking tables record_of line under = None

-- below the root it stands at the table that the words give, and what it found is as good as a translation of a TLB
abbrev pub WalkStands : CtlData → (TlbEntry → Type 0) → View → Va → Walk → Type 0
WalkStands ctl IsUsable view va Start = Unit {0}
WalkStands ctl IsUsable view va (Level level table) = (level < 2) × (table_at (mirror_words ctl) view.root (vpn_of va) level ≡ Some table.0)
WalkStands ctl IsUsable view va (Found ppn perms) = IsUsable (record { space = view.space; vpn = vpn_of va; ppn = ppn; perms = perms })

abbrev pub WalkingStands : CtlData → (TlbEntry → Type 0) → Option Walking → Type 0
WalkingStands ctl IsUsable None = Unit {0}
WalkingStands ctl IsUsable (Some walking) = WalkStands ctl IsUsable walking.view walking.va walking.walk

-- ---- all of them

-- of each hart: the translations in its TLB, and its walk under way
pub record Fresh (setup : SetupParts) (ctl : CtlData) (tlbs : List (List TlbEntry)) (fences : List (Option Fence)) (record_of : ℕ → Enclave) (s : Monitor)
    (line_of : ℕ → Option Line) (under_of : ℕ → Under) : Type 0 where
  pub entries : (hart : ℕ) → All (IsFresh setup record_of s fences hart) (tlb_at tlbs hart)
  pub walks : (hart : ℕ) → WalkingStands ctl (IsFresh setup record_of s fences hart) (walking setup.tables record_of (line_of hart) (under_of hart))

pub record TranslationsStand (setup : SetupParts) (ctl : CtlData) (tlbs : List (List TlbEntry)) (fences : List (Option Fence)) (record_of : ℕ → Enclave) (s : Monitor)
    (line_of : ℕ → Option Line) (under_of : ℕ → Under) : Type 0 where
  pub tables : TablesAgree setup ctl record_of s
  pub harts : length tlbs ≡ setup.harts
  pub fences_stand : FencesStand setup.harts fences s.removals
  pub removals : (hart : ℕ) → RemovalStands (line_of hart) (under_of hart) (removals_by s.removals hart)
  pub giving : (hart : ℕ) → NumberFenceStands (line_of hart) (under_of hart) (fence_of fences hart)
  pub fresh : Fresh setup ctl tlbs fences record_of s line_of under_of
