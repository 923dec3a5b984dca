-- What the word that was asked for teaches the walk of an address.
use Rattle.std.specs.Prelude.{ℕ, ◌-◌, List, Result, Ok, Err}
use Rattle.pl_base.specs.Address.{vpn_of}
use Rattle.pl_base.specs.declared.access.Kind.{Kind}
use Rattle.pl_base.specs.declared.address.Va.{Va}
use Rattle.rv_sv39.specs.Step.{step}
use Rattle.rv_sv39.specs.declared.walk.Walked.{Walked}
use Rattle.rv_sv39.specs.declared.walk.Walked.TheVariants as walked
use Rattle.rv_tlb.specs.Tlb.{with_entry}
use Rattle.rv_tlb.specs.declared.tlb.TlbEntry.{TlbEntry}
use Rattle.rv_hart.specs.declared.walks.PageFault.{PageFault}
use Rattle.rv_hart.specs.declared.walks.View.{View}
use Rattle.rv_hart.specs.declared.walks.Walk.{Walk}
use Rattle.rv_hart.specs.declared.walks.Walk.TheVariants.{Level, Found}
use Rattle.rv_hart.specs.Walks.{level_of}

-- the step of the page walk at the table where the walk stands
abbrev pub step_of : Walk → ℕ → Va → Kind → View → Walked
step_of walk word va kind view = step (level_of walk) word (vpn_of va) kind view.mode

-- a pointer leads to a table one level lower, and a leaf is the page
abbrev pub learned_by : ℕ → Walked → Result Walk PageFault
learned_by level (walked.Next ppn) = Ok (Level (level - 1) ppn)
learned_by level (walked.Leaf ppn perms) = Ok (Found ppn perms)
learned_by level walked.PageFault = Err (record {})

-- what the walk is with this word
abbrev pub learned : Walk → ℕ → Va → Kind → View → Result Walk PageFault
learned walk word va kind view = learned_by (level_of walk) (step_of walk word va kind view)

-- a leaf goes into the TLB last
abbrev pub tlb_by : List TlbEntry → Va → View → Walked → List TlbEntry
tlb_by entries va view (walked.Next ppn) = entries
tlb_by entries va view (walked.Leaf ppn perms) = with_entry entries (record { space = view.space; vpn = vpn_of va; ppn = ppn; perms = perms })
tlb_by entries va view walked.PageFault = entries

-- the TLB with this word
abbrev pub tlb_after : Walk → ℕ → Va → Kind → View → List TlbEntry → List TlbEntry
tlb_after walk word va kind view entries = tlb_by entries va view (step_of walk word va kind view)
