-- Licensed faults: which place a line may find other than its parent has it.
use Rattle.std.specs.Prelude.{ℕ, IsTrue, List, [], ◌∷◌, ◌++◌, Option, Some, None, Contains}
use Rattle.std.specs.List.{list_any}
use Rattle.pl_base.specs.Address.{vpn_of}
use Rattle.pl_base.specs.declared.address.Va.{Va}
use Rattle.pl_base.specs.declared.place.Place.{Place}
use Rattle.pl_base.specs.declared.place.Place.TheVariants.{RootNode}
use Rattle.mem_geom.specs.Layout.{Exists}
use Rattle.mem_geom.specs.Ranges.{overlaps_place}
use Rattle.mem_geom.specs.PathPlaces.{page_places}
use Rattle.mon_tables.specs.Tables.{host_slot, table_number}
use Rattle.pl_history.specs.declared.line.Line.{Line}
use Rattle.pl_history.specs.declared.line.Line.TheVariants as line
use Rattle.pl_history.specs.declared.setup.SetupParts.{SetupParts}
use Rattle.pl_history.specs.Monitor.{Attack, Monitor, pages_taken}

-- the page of a word's place, where there is one
abbrev pub slot_pages : Option (ℕ × ℕ) → List ℕ
slot_pages None = []
slot_pages (Some slot) = slot.0 ∷ []

-- the host's root and middle tables, and the last-level table of an address, where there is one
abbrev pub host_tables : ℕ → Va → List ℕ
host_tables tables va = 0 ∷ 1 ∷ slot_pages (host_slot tables (vpn_of va).0)

-- the three tables of an enclave number, from the root down
abbrev pub number_tables : ℕ → ℕ → List ℕ
number_tables tables e = table_number tables e 2 ∷ table_number tables e 1 ∷ table_number tables e 0 ∷ []

-- the pages of the number that a number was forked from
abbrev pub parent_pages : Monitor → Option ℕ → List ℕ
parent_pages s None = []
parent_pages s (Some parent) = (s.number parent).pages

-- the pages that the making or a run of a number reads and writes
abbrev pub number_pages : SetupParts → Monitor → ℕ → List ℕ
number_pages setup s e = number_tables setup.tables e ++ (pages_taken (s.number e) ++ parent_pages s (s.number e).parent)

-- the guarded and loaded pages that a line concerns
abbrev pub pages_concerned : SetupParts → Monitor → Line → List ℕ
pages_concerned setup s (line.Load va) = host_tables setup.tables va
pages_concerned setup s (line.Store va word) = host_tables setup.tables va
pages_concerned setup s (line.Map va page perms) = host_tables setup.tables va
pages_concerned setup s (line.Unmap va) = host_tables setup.tables va
pages_concerned setup s (line.Create e image pages) = number_pages setup s e.0
pages_concerned setup s (line.Shadow e image pages) = number_pages setup s e.0
pages_concerned setup s (line.Fork parent e pages) = number_pages setup s e.0
pages_concerned setup s (line.Grant e page) = []
pages_concerned setup s (line.Run e budget) = number_pages setup s e.0
pages_concerned setup s (line.Resume e budget) = number_pages setup s e.0
pages_concerned setup s (line.Send e word) = []
pages_concerned setup s (line.Take e) = []
pages_concerned setup s (line.Destroy e) = []
pages_concerned setup s (line.Drop e) = []
pages_concerned setup s (line.After actor count) = []

-- a place of the root table, by which any mounting or eviction comes, or a place on the path of one of these pages
abbrev pub LiesOnPath : List ℕ → Place → Type 0
LiesOnPath pages (RootNode level index) = Unit {0}
LiesOnPath pages place = (page : ℕ) × Contains pages page × Contains (page_places page) place

-- The place exists, the range of an attack that changed a byte overlaps it, and the line comes by it.
pub record Licensed (setup : SetupParts) (s : Monitor) (now : Line) (place : Place) : Type 0 where
  pub exists : Exists setup.zones place
  pub attacked : IsTrue (list_any (λ (attack : Attack). overlaps_place setup.zones attack.address attack.length place) s.attacks)
  pub concerned : LiesOnPath (pages_concerned setup s now) place
