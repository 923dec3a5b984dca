-- Where each place of off-chip memory stands (a layout of our own).
use Rattle.std.specs.Prelude.{ℕ, ◌+◌, ◌-◌, ◌*◌, ◌<◌, ◌==◌, if◌then◌else◌, List}
use Rattle.pl_base.specs.declared.place.Place.{Place}
use Rattle.pl_base.specs.declared.place.Place.TheVariants.{Block, Node, RootNode}
use Rattle.pl_base.specs.Bytes.{bytes_at}

-- the address of a page
abbrev pub page_start : ℕ → ℕ
page_start page = 0x80000000 + 4096 * page

-- the address of a zone's first node: the nodes stand after the pages of all zones
abbrev pub nodes_start : ℕ → ℕ → ℕ
nodes_start zones zone = 0x80000000 + 262144 * zones + 149760 * zone

-- the address of the root table, which stands after the nodes of all zones
abbrev pub table_start : ℕ → ℕ
table_start zones = nodes_start zones zones

-- the address where off-chip memory ends
abbrev pub memory_end : ℕ → ℕ
memory_end zones = table_start zones + 2304

-- how many bytes it has
abbrev pub memory_size : ℕ → ℕ
memory_size zones = 262144 * zones + 149760 * zones + 2304

-- how many nodes of a level a zone has: each node of level 1 covers 8 blocks, and each one above covers 8 below it
abbrev pub nodes_of_level : ℕ → ℕ
nodes_of_level level =
    if level == 1 then 512 else (if level == 2 then 64 else (if level == 3 then 8 else (if level == 4 then 1 else 0)))

-- how many of the zone's nodes stand before those of a level
abbrev pub nodes_before_level : ℕ → ℕ
nodes_before_level level = if level == 1 then 0 else (if level == 2 then 512 else (if level == 3 then 576 else 584))

-- the same for the root table, which has two levels
abbrev pub root_nodes_of_level : ℕ → ℕ
root_nodes_of_level level = if level == 1 then 8 else (if level == 2 then 1 else 0)

abbrev pub root_nodes_before_level : ℕ → ℕ
root_nodes_before_level level = if level == 1 then 0 else 8

-- the place exists where there are so many zones
abbrev pub Exists : ℕ → Place → Type 0
Exists zones (Block page block) = (page < 64 * zones) × (block < 64)
Exists zones (Node level zone index) = (zone < zones) × (index < nodes_of_level level)
Exists zones (RootNode level index) = index < root_nodes_of_level level

-- the address of a place
abbrev pub place_start : ℕ → Place → ℕ
place_start zones (Block page block) = page_start page + 64 * block
place_start zones (Node level zone index) = nodes_start zones zone + 256 * (nodes_before_level level + index)
place_start zones (RootNode level index) = table_start zones + 256 * (root_nodes_before_level level + index)

-- how many bytes a place has
abbrev pub place_length : Place → ℕ
place_length (Block page block) = 64
place_length (Node level zone index) = 256
place_length (RootNode level index) = 256

-- the address where a place ends
abbrev pub place_end : ℕ → Place → ℕ
place_end zones place = place_start zones place + place_length place

-- the bytes of a place, in the bytes of off-chip memory
abbrev pub place_bytes : ℕ → List ℕ → Place → List ℕ
place_bytes zones memory place = bytes_at memory (place_start zones place - 0x80000000) (place_length place)
