-- What the walk of an address asks for next.
use Rattle.std.specs.Prelude.{ℕ, ◌+◌, ◌*◌, ◌%◌, if◌then◌else◌, List, Option, Some, None, find}
use Rattle.pl_base.specs.Address.{vpn_of}
use Rattle.pl_base.specs.Perms.{grants}
use Rattle.pl_base.specs.declared.access.Kind.{Kind}
use Rattle.pl_base.specs.declared.address.Pa.{Pa}
use Rattle.pl_base.specs.declared.address.Ppn.{Ppn}
use Rattle.pl_base.specs.declared.address.Va.{Va}
use Rattle.pl_base.specs.declared.perms.Perms.{Perms}
use Rattle.rv_sv39.specs.Canonical.{is_canonical}
use Rattle.rv_sv39.specs.Walk.{entry_address}
use Rattle.rv_tlb.specs.Tlb.{is_of}
use Rattle.rv_tlb.specs.declared.tlb.TlbEntry.{TlbEntry}
use Rattle.rv_hart.specs.declared.seeking.Sought.{Sought}
use Rattle.rv_hart.specs.declared.seeking.Sought.TheVariants.{Table, At, PageFault}
use Rattle.rv_hart.specs.declared.walks.View.{View}
use Rattle.rv_hart.specs.declared.walks.Walk.{Walk}
use Rattle.rv_hart.specs.declared.walks.Walk.TheVariants.{Start, Level, Found}

-- the physical address: the page, and the lowest 12 bits of the virtual address (Sv39)
abbrev pub address_in : Ppn → Va → Pa
address_in ppn va = record { 0 = 4096 * ppn.0 + va.0 % 4096 }

-- the access through a translation, where it permits the kind
abbrev pub sought_through : Ppn → Perms → Va → Kind → Sought
sought_through ppn perms va kind = if grants perms kind then At (address_in ppn va) else PageFault

-- the word that the address selects in a table
abbrev pub sought_table : ℕ → Ppn → Va → Sought
sought_table level table va = Table (record { 0 = entry_address (vpn_of va) level table.0 }) level

-- an entry of the TLB comes before a table
abbrev pub sought_by : Option TlbEntry → Va → Kind → Sought → Sought
sought_by (Some entry) va kind table = sought_through entry.ppn entry.perms va kind
sought_by None va kind table = table

-- where the walk stands; a page that it found comes before all entries
abbrev pub sought_at : Walk → Option TlbEntry → Va → Kind → View → Sought
sought_at Start entry va kind view = sought_by entry va kind (sought_table 2 view.root va)
sought_at (Level level table) entry va kind view = sought_by entry va kind (sought_table level table va)
sought_at (Found ppn perms) entry va kind view = sought_through ppn perms va kind

-- what a walk asks for, with these translations in the TLB; an address that isn't canonical has none
abbrev pub sought : Walk → Va → Kind → List TlbEntry → View → Sought
sought walk va kind entries view =
    if is_canonical va.0 then sought_at walk (find (is_of view.space (vpn_of va)) entries) va kind view else PageFault

-- it asks for a table
abbrev pub IsTable : Sought → Type 0
IsTable (Table pa level) = Unit {0}
IsTable (At pa) = ⊥
IsTable PageFault = ⊥
