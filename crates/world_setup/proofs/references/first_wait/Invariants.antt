use Rattle.std.proofs.Common.{◌≡◌, ◌+◌, ◌≤◌, drop, length, sum_by}
use Rattle.pl_history.specs.Rules.{waits_known}
use Rattle.world_setup.specs.References.{first_failing, first_wait}
use Rattle.world_setup.proofs.references.first_wait.Given as goal

abbrev pub invariant-loop-lines : goal.invariant-loop-lines
invariant-loop-lines l = record {
  few : l.before + sum_by length (drop l.lines-index l.scripts) ≤ 65536;
  here : l.hart ≡ l.lines-index;
  same : first_failing (waits_known l.counts) l.hart l.before (drop l.lines-index l.scripts) ≡ first_wait l.counts l.scripts;
}
