-- The pages as they were last written, before and after a call.
use Rattle.std.specs.Prelude.{ℕ, ◌≡◌, ◌<◌, ◌-◌, ◌*◌, ◌==◌, List, if◌then◌else◌}
use Rattle.pl_base.specs.Bytes.{bytes_at}
use Rattle.mem_geom.specs.Layout.{table_start}
use Rattle.mem_geom.specs.Parts.{page_bytes}

-- a memory of so many zones is as before, up to its root table
abbrev pub KeepsZones : ℕ → List ℕ → List ℕ → Type 0
KeepsZones zones old new = bytes_at new 0 (table_start zones - 0x80000000) ≡ bytes_at old 0 (table_start zones - 0x80000000)

-- it has the same pages as before
abbrev pub KeepsPages : ℕ → List ℕ → List ℕ → Type 0
KeepsPages zones old new = (page : ℕ) → page < 64 * zones → page_bytes new page ≡ page_bytes old page

-- all but one are the same
abbrev pub ChangesPage : ℕ → ℕ → List ℕ → List ℕ → List ℕ → Type 0
ChangesPage zones page bytes old new = (other : ℕ) → other < 64 * zones → page_bytes new other ≡ (if other == page then bytes else page_bytes old other)
