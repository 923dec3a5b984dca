use Rattle.std.proofs.Common.{◌+◌, ◌-◌, ◌≤◌, length}
use Rattle.std.specs.Io.KnownBytes.{Consumes}
use Rattle.pl_io.proofs.reading.read_all.Given as goal

abbrev pub invariant-loop-count : goal.invariant-loop-count
invariant-loop-count g l = record {
  later : g.S.Source.faults l.fn.source ≤ g.S.Source.faults l.source;
  fits : length l.all.items ≤ l.limit;
  consumed : Consumes (g.S.Source.left l.fn.source) (g.S.Source.left l.source) l.all.items;
}

abbrev pub decreases-loop-count : goal.decreases-loop-count
decreases-loop-count g l = l.limit + 1 - length l.all.items
