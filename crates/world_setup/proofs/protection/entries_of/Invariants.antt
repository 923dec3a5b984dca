use Rattle.std.proofs.Common.{◌≡◌, ◌<◌, ◌≤◌, length, map, drop}
use Rattle.toml.specs.View.{view}
use Rattle.world_setup.specs.Protection.{entries_from}
use Rattle.world_setup.proofs.EntryWalk.{entries_then}
use Rattle.world_setup.proofs.protection.entries_of.Given as goal

abbrev pub invariant-loop-item : goal.invariant-loop-item
invariant-loop-item l = record {
  few : length l.entries.items < l.before;
  most : l.before ≤ 12;
  rest : entries_then l.entries.items (entries_from l.before (length l.entries.items) (map view (drop l.item-index l.items))) ≡ entries_from 1 0 (map view l.items);
}
