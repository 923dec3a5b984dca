-- Accesses that a hart translates as plain data, what they need, and what the word of a table decides.
use Rattle.std.specs.Prelude.{◌≡◌, ℕ, ◌*◌, ◌%◌, ◌<◌, ◌≤◌, length, Result}
use Rattle.pl_base.specs.Address.{IsPpn}
use Rattle.pl_base.specs.declared.address.Pa.{Pa}
use Rattle.rv_hart.specs.declared.seeking.Sought.{Sought}
use Rattle.rv_hart.specs.declared.seeking.Sought.TheVariants.{Table, At, PageFault}
use Rattle.rv_hart.specs.declared.walks.PageFault.{PageFault as NoPage}
use Rattle.rv_hart.specs.declared.walks.Walk.{Walk}
use Rattle.rv_hart.specs.Learning.{learned, tlb_after}
use Rattle.rv_hart.specs.Seeking.{IsTable}
use Rattle.rv_hart.specs.Walks.{IsWalk}
use Rattle.world_events.specs.declared.translating.Request.{Request as Asked}
use Rattle.world_machine.specs.Translating.{Request, offset_at, page_at, sought_in}
use Rattle.world_machine.specs.Worlds.{WorldData, tlb_at, with_tlb}

abbrev pub request_now : Asked → Request
request_now asked = record { hart = asked.hart.0; va = asked.va; kind = asked.kind; view = asked.view }

-- ---- what an access needs

-- an address of one of the pages, of which there are at most 4096
pub record IsInside (zones : ℕ) (pa : Pa) : Type 0 where
  pub from : 0x80000000 ≤ pa.0
  pub page : page_at pa < 64 * zones
  pub small : page_at pa < 4096

-- what is asked for lies in the pages that there are, and a word at a multiple of 8
abbrev pub AsksInside : ℕ → Sought → Type 0
AsksInside zones (Table pa level) = IsInside zones pa × (offset_at pa % 8 ≡ 0)
AsksInside zones (At pa) = IsInside zones pa
AsksInside zones PageFault = Unit {0}

-- the hart is there, the walk has come so far, and what it asks for is there
pub record CanSeek (w : WorldData) (request : Request) (walk : Walk) : Type 0 where
  pub harts : request.hart < length w.tlbs
  pub walk_is : IsWalk walk
  pub root : IsPpn request.view.root
  pub asks : AsksInside w.ctl.zones (sought_in w request walk)

-- a walk that asks for the word of a table may learn from it
pub record CanLearn (w : WorldData) (request : Request) (walk : Walk) : Type 0 where
  pub harts : request.hart < length w.tlbs
  pub walk_is : IsWalk walk
  pub asked : IsTable (sought_in w request walk)

-- ---- the word of a table

-- the hart has learned from the word
abbrev pub with_learned : WorldData → Request → Walk → ℕ → WorldData
with_learned w request walk word = with_tlb w request.hart (tlb_after walk word request.va request.kind request.view (tlb_at w.tlbs request.hart))

-- and then the line goes on
abbrev pub table_goes : (WorldData → Result Walk NoPage → WorldData) → Request → Walk → WorldData → ℕ → WorldData
table_goes learns request walk left word = learns (with_learned left request walk word) (learned walk word request.va request.kind request.view)
