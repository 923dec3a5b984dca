-- Which node holds the digest of a place (a layout of our own).
use Rattle.std.specs.Prelude.{ℕ, ◌+◌, ◌*◌, ◌/◌, ◌%◌, ◌==◌, if◌then◌else◌, Option, Some, None}
use Rattle.pl_base.specs.declared.place.Place.{Place}
use Rattle.pl_base.specs.declared.place.Place.TheVariants.{Block, Node, RootNode}

-- the node above a place, which holds its digest. The digest of the top node of the root table stands on chip
abbrev pub parent : Place → Option Place
parent (Block page block) = Some (Node 1 (page / 64) (8 * (page % 64) + block / 8))
parent (Node level zone index) = Some (if level == 4 then RootNode 1 (zone / 8) else Node (level + 1) zone (index / 8))
parent (RootNode level index) = if level == 1 then Some (RootNode 2 0) else None

-- which of the eight digests there is its own
abbrev pub entry_number : Place → ℕ
entry_number (Block page block) = block % 8
entry_number (Node level zone index) = if level == 4 then zone % 8 else index % 8
entry_number (RootNode level index) = index
