-- Parts of off-chip memory that are several places.
use Rattle.std.specs.Prelude.{ℕ, ◌-◌, ◌*◌, ◌/◌, ◌%◌, List}
use Rattle.pl_base.specs.declared.place.Place.TheVariants.{Node}
use Rattle.pl_base.specs.Bytes.{bytes_at}
use Rattle.mem_geom.specs.Layout.{place_start}

-- the 4,096 bytes of a page
abbrev pub page_bytes : List ℕ → ℕ → List ℕ
page_bytes memory page = bytes_at memory (4096 * page) 4096

-- the eight nodes over a page's blocks, which stand one after another
abbrev pub level1_bytes : ℕ → List ℕ → ℕ → List ℕ
level1_bytes zones memory page = bytes_at memory (place_start zones (Node 1 (page / 64) (8 * (page % 64))) - 0x80000000) 2048
