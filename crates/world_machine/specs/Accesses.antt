-- Where the accesses of a reached world lead: walks to guarded pages, numbers to their own and shared pages, the host to its own.
use Rattle.std.specs.Prelude.{◌≡◌, ◌≢◌, ◌⊎◌, ℕ, ◌+◌, ◌%◌, ◌<◌, ◌≤◌, true, false, Option, Some, None, Err, Contains}
use Rattle.pl_base.specs.Address.{vpn_of}
use Rattle.pl_base.specs.Perms.{grants}
use Rattle.pl_base.specs.declared.access.Kind.{Kind}
use Rattle.pl_base.specs.declared.access.Kind.TheVariants as kind
use Rattle.pl_base.specs.declared.access.Mode.TheVariants.{Super, User}
use Rattle.pl_base.specs.declared.address.Pa.{Pa}
use Rattle.pl_base.specs.declared.address.Va.{Va}
use Rattle.rv_hart.specs.declared.seeking.Sought.{Sought}
use Rattle.rv_hart.specs.declared.seeking.Sought.TheVariants.{Table, At, PageFault}
use Rattle.rv_hart.specs.declared.walks.PageFault.{PageFault as NoPage}
use Rattle.rv_hart.specs.declared.walks.Walk.{Walk}
use Rattle.rv_hart.specs.declared.walks.Walk.TheVariants.{Start}
use Rattle.rv_hart.specs.Learning.{learned}
use Rattle.rv_hart.specs.Seeking.{sought}
use Rattle.rv_pmp.specs.Pmp.{AccessesAllowed, permits}
use Rattle.rv_sv39.specs.Canonical.{is_canonical}
use Rattle.mem_geom.specs.Layout.{page_start}
use Rattle.mon_enclave.specs.declared.enclave.Enclave.{Enclave}
use Rattle.mon_enclave.specs.Records.{enclave_at}
use Rattle.mon_host.specs.Laws.{mirror_words}
use Rattle.mon_tables.specs.Space.{Mapping, mapping_at}
use Rattle.mon_tables.specs.SpaceWalks.{WalksTo}
use Rattle.mon_tables.specs.Tables.{root_of}
use Rattle.pl_history.specs.Monitor.{Number, guard, host, number, pages_taken}
use Rattle.pl_history.specs.NumberSpace.{mappings_of_number}
use Rattle.pl_history.specs.Protection.{pmp_of}
use Rattle.pl_history.specs.Rules.{guarded_of, pages_of}
use Rattle.world_machine.specs.FencesStand.{IsOwed}
use Rattle.world_machine.specs.LinesUnderWay.{number_under_way}
use Rattle.world_machine.specs.Making.{image_of}
use Rattle.world_machine.specs.Pages.{reached}
use Rattle.world_machine.specs.PagesAgree.{PagesAre}
use Rattle.world_machine.specs.Standing.{state_of}
use Rattle.world_machine.specs.Translating.{host_view, number_view, offset_at, page_at}
use Rattle.world_machine.specs.TranslationsAgree.{MayUse, Walking, walking}
use Rattle.world_machine.specs.Worlds.{WorldData, hart_line, tlb_at, under_at}

-- ---- the roots

-- the root of a number walks to its space, by the pages that it broke so far: those of its record that are spares
pub record NumberWalks (w : WorldData) (e : ℕ) (r : Enclave) (n : Number) : Type 0 where
  pub pages : PagesAre w.setup (state_of w).number r n
  pub walks : WalksTo (mirror_words w.ctl) (root_of w.setup.tables (e + 1)) User (mappings_of_number w.setup (state_of w).number n pages.broken)

-- in checked memory the host's root walks to the host's space, and the root of each live number to its own
pub record RootsWalk (w : WorldData) : Type 0 where
  pub host : WalksTo (mirror_words w.ctl) (root_of w.setup.tables 0) Super (state_of w).space
  pub numbers : (e : ℕ) → ((state_of w).number e).live ≡ true → NumberWalks w e (enclave_at w.enclaves e) ((state_of w).number e)

-- ---- what a walk asks for

-- A word of a table stands in a guarded page, at a multiple of 8, and the protection entries let it be read.
pub record IsTableWord (w : WorldData) (pa : Pa) : Type 0 where
  pub is : pa.0 ≡ page_start (page_at pa) + offset_at pa
  pub aligned : offset_at pa % 8 ≡ 0
  pub guarded : page_at pa < guarded_of w.setup.tables w.setup.enclaves
  pub owner : (state_of w).owner (page_at pa) ≡ Some guard
  pub readable : permits (pmp_of w.setup) pa.0 8 kind.Load ≡ true

-- The host reaches a page of its own, which no number took and which isn't guarded, by a mapping that the hart may use and that grants the kind
-- of access.
pub record ReachesHostPage (w : WorldData) (hart : ℕ) (kind : Kind) (va : Va) (pa : Pa) : Type 0 where
  pub mapping : Mapping
  pub may : MayUse (state_of w) w.fences hart mapping
  pub vpn : mapping.vpn ≡ (vpn_of va).0
  pub granted : grants mapping.perms kind ≡ true
  pub is : pa.0 ≡ page_start mapping.page + va.0 % 4096
  pub owner : (state_of w).owner mapping.page ≡ Some host
  pub unguarded : guarded_of w.setup.tables w.setup.enclaves ≤ mapping.page
  pub there : mapping.page < pages_of w.setup.zones
  pub untaken : (e : ℕ) → Contains (pages_taken ((state_of w).number e)) mapping.page → ⊥

-- or the mapping that the hart may use doesn't grant it
pub record ForbidsHost (w : WorldData) (hart : ℕ) (kind : Kind) (va : Va) : Type 0 where
  pub mapping : Mapping
  pub may : MayUse (state_of w) w.fences hart mapping
  pub vpn : mapping.vpn ≡ (vpn_of va).0
  pub refused : grants mapping.perms kind ≡ false

-- the page of a number's record that an access goes to, by the page of its image at that address; none where the image doesn't let it through, or where
-- it would store to a page that is shared
abbrev pub image_page : WorldData → ℕ → Kind → Va → Option ℕ
image_page w e kind va =
    let r : Enclave = enclave_at w.enclaves e in
    reached kind (image_of w.setup r.image).pages r.pages va.0

-- a page is the number's own, or of the shadow that it was forked from, which only fetches and loads reach
abbrev pub MayServe : WorldData → ℕ → Kind → ℕ → Type 0
MayServe w e access page =
    ((state_of w).owner page ≡ Some (number e))
    ⊎ ((shadow : ℕ) × (((state_of w).number e).parent ≡ Some shadow) × ((state_of w).owner page ≡ Some (number shadow)) × (access ≢ kind.Store))

-- An enclave number reaches this page, which is its own or shared; the protection entries let every aligned access there through.
pub record ReachesNumberPage (w : WorldData) (e : ℕ) (kind : Kind) (va : Va) (pa : Pa) : Type 0 where
  pub page : image_page w e kind va ≡ Some (page_at pa)
  pub is : pa.0 ≡ page_start (page_at pa) + va.0 % 4096
  pub owner : MayServe w e kind (page_at pa)
  pub allowed : AccessesAllowed (pmp_of w.setup) (page_at pa)

-- the word of a table, as last written, tells the walk that there is no page
abbrev pub TellsNone : WorldData → Kind → Walking → Pa → Type 0
TellsNone w kind now pa = (none : NoPage) × (learned now.walk (mirror_words w.ctl pa.0) now.va kind now.view ≡ Err none)

-- the host's space has no mapping of the page that grants the kind
abbrev pub HostHasNone : WorldData → Kind → Va → Type 0
HostHasNone w kind va = (m : Mapping) → mapping_at (state_of w).space (vpn_of va).0 ≡ Some m → grants m.perms kind ≡ false

-- the host has no page for an access only where the address isn't canonical, or a mapping that the hart may use forbids it, or its space has none
abbrev pub HostKeeps : WorldData → ℕ → Kind → Walking → Sought → Type 0
HostKeeps w hart kind now (Table pa level) = IsTableWord w pa × (TellsNone w kind now pa → HostHasNone w kind now.va)
HostKeeps w hart kind now (At pa) = ReachesHostPage w hart kind now.va pa
HostKeeps w hart kind now PageFault = (is_canonical now.va.0 ≡ false) ⊎ ForbidsHost w hart kind now.va

-- a number has no page for an access only where its image lets none through
abbrev pub NumberKeeps : WorldData → ℕ → Kind → Walking → Sought → Type 0
NumberKeeps w e kind now (Table pa level) = IsTableWord w pa × (TellsNone w kind now pa → image_page w e kind now.va ≡ None)
NumberKeeps w e kind now (At pa) = ReachesNumberPage w e kind now.va pa
NumberKeeps w e kind now PageFault = image_page w e kind now.va ≡ None

-- ---- the walks of a hart

-- the walk of the hart's line, where that is under way and has one
abbrev pub walk_of : WorldData → ℕ → Option Walking
walk_of w hart = walking w.setup.tables (enclave_at w.enclaves) (hart_line w hart) (under_at w.under hart)

-- what a walk asks for, by the translations in the hart's TLB
abbrev pub asked : WorldData → ℕ → Kind → Walking → Sought
asked w hart kind now = sought now.walk now.va kind (tlb_at w.tlbs hart) now.view

-- a walk is the one under way on a hart, or at its start
abbrev pub MayGo : WorldData → ℕ → Walking → Type 0
MayGo w hart now = (walk_of w hart ≡ Some now) ⊎ (now.walk ≡ Start)

abbrev pub host_walking : WorldData → Va → Walk → Walking
host_walking w va walk = record { view = host_view w.setup.tables; va = va; walk = walk }

abbrev pub number_walking : WorldData → ℕ → Va → Walk → Walking
number_walking w e va walk = record { view = number_view w.setup.tables e; va = va; walk = walk }

-- a walk of the host, or of an enclave number that is live
abbrev pub IsHostWalk : WorldData → Walking → Type 0
IsHostWalk w now = now ≡ host_walking w now.va now.walk

pub record IsNumberWalk (w : WorldData) (now : Walking) : Type 0 where
  pub e : ℕ
  pub live : ((state_of w).number e).live ≡ true
  pub is : now ≡ number_walking w e now.va now.walk

-- no fence of the number's space needs the hart any more
abbrev pub HasAcknowledged : WorldData → ℕ → ℕ → Type 0
HasAcknowledged w hart e = (vpn : ℕ) → IsOwed w.fences hart e vpn → ⊥

-- Each walk under way is the host's or a live number's. On every hart, with any translations that its TLB has, the accesses of the host, of any
-- kind, keep to the host's pages, and those of a live number to its own, or but for stores to its shadow's, once the hart has acknowledged the pages
-- that the number broke; a hart that runs the number has.
pub record AccessesKeepToPages (w : WorldData) : Type 0 where
  pub walks : (hart : ℕ) (now : Walking) → walk_of w hart ≡ Some now → IsHostWalk w now ⊎ IsNumberWalk w now
  pub host : (hart : ℕ) (kind : Kind) (va : Va) (walk : Walk) → MayGo w hart (host_walking w va walk)
      → HostKeeps w hart kind (host_walking w va walk) (asked w hart kind (host_walking w va walk))
  pub running : (hart e : ℕ) → number_under_way (hart_line w hart) (under_at w.under hart) ≡ Some e → HasAcknowledged w hart e
  pub numbers : (hart e : ℕ) (kind : Kind) (va : Va) (walk : Walk) → ((state_of w).number e).live ≡ true → HasAcknowledged w hart e
      → MayGo w hart (number_walking w e va walk) → NumberKeeps w e kind (number_walking w e va walk) (asked w hart kind (number_walking w e va walk))
