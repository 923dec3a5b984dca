-- The translation of an access: in which view it is made, and the event that its walk makes next.
use Rattle.std.specs.Prelude.{ℕ, ◌+◌, ◌-◌, ◌/◌, ◌%◌, List, Option, Some, None, Result}
use Rattle.pl_base.specs.declared.access.Kind.{Kind}
use Rattle.pl_base.specs.declared.access.Mode.TheVariants.{Super, User}
use Rattle.pl_base.specs.declared.address.Pa.{Pa}
use Rattle.pl_base.specs.declared.address.Va.{Va}
use Rattle.pl_base.specs.declared.place.Place.{Place}
use Rattle.rv_hart.specs.declared.seeking.Sought.{Sought}
use Rattle.rv_hart.specs.declared.seeking.Sought.TheVariants.{Table, At, PageFault}
use Rattle.rv_hart.specs.declared.walks.PageFault.{PageFault as NoPage}
use Rattle.rv_hart.specs.declared.walks.View.{View}
use Rattle.rv_hart.specs.declared.walks.Walk.{Walk}
use Rattle.rv_hart.specs.Learning.{learned, tlb_after}
use Rattle.rv_hart.specs.Seeking.{sought}
use Rattle.mem_ctl.specs.Calls.{read_word_of}
use Rattle.mem_ctl.specs.Data.{going}
use Rattle.mon_host.specs.Leaves.{host_space}
use Rattle.mon_tables.specs.Tables.{root_of}
use Rattle.world_machine.specs.Answering.{accesses}
use Rattle.world_machine.specs.Worlds.{Event, WorldData, tlb_at, with_tlb}

-- ---- views

-- the host makes its accesses in its own space, in supervisor mode
abbrev pub host_view : ℕ → View
host_view tables = record { space = host_space; root = root_of tables 0; mode = Super }

-- and number e in space e + 1, in user mode
abbrev pub number_view : ℕ → ℕ → View
number_view tables e = record { space = record { 0 = e + 1 }; root = root_of tables (e + 1); mode = User }

-- ---- the next event of a walk

-- an access that a hart translates
pub record Request : Type 0 where
  pub hart : ℕ
  pub va : Va
  pub kind : Kind
  pub view : View

-- what the walk asks for, with the translations in the hart's TLB
abbrev pub sought_in : WorldData → Request → Walk → Sought
sought_in w request walk = sought walk request.va request.kind (tlb_at w.tlbs request.hart) request.view

-- the page of off-chip memory with a physical address, and the offset there
abbrev pub page_at : Pa → ℕ
page_at pa = pa.0 / 4096 - 0x80000

abbrev pub offset_at : Pa → ℕ
offset_at pa = pa.0 % 4096

-- the word of a table is read, or the access is made at its address, or there is no page for it
abbrev pub translated : Sought → (Pa → Event) → (Option Pa → Event) → Event
translated (Table pa level) reads reaches = reads pa
translated (At pa) reads reaches = reaches (Some pa)
translated PageFault reads reaches = reaches None

-- the word of a table is read through the trees, and the walk and the TLB learn from it
abbrev pub reads_table :
    (List ℕ → List ℕ) → WorldData → Request → List ℕ → Walk → (WorldData → Result Walk NoPage → WorldData) → (WorldData → Place → WorldData) → Pa
    → Event
reads_table digest_of w request positions walk learns faults pa =
    accesses w (read_word_of digest_of (page_at pa) (offset_at pa) (going w.ctl positions))
    (λ left word. learns
    (with_tlb left request.hart (tlb_after walk word request.va request.kind request.view (tlb_at left.tlbs request.hart)))
    (learned walk word request.va request.kind request.view))
    faults
