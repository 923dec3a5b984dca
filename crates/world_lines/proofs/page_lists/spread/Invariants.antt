use Rattle.std.proofs.Common.{◌≡◌, take}
use Rattle.std.specs.List.{flat_map}
use Rattle.world_lines.specs.PageLists.{range_pages}
use Rattle.world_lines.proofs.page_lists.spread.Given as goal

abbrev pub invariant-loop-range : goal.invariant-loop-range
invariant-loop-range l = l.pages.items ≡ flat_map range_pages (take l.range-index l.ranges)
