use Rattle.std.proofs.Common.{◌≡◌, ◌+◌, ◌≤◌, drop, sum_by}
use Rattle.world_lines.specs.PageLists.{range_length}
use Rattle.world_lines.proofs.page_lists.few_pages.Given as goal

abbrev pub invariant-loop-range : goal.invariant-loop-range
invariant-loop-range l = record {
  few : l.count ≤ 512;
  same : l.count + sum_by range_length (drop l.range-index l.ranges) ≡ sum_by range_length l.ranges;
}
