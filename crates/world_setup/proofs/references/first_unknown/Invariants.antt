use Rattle.std.proofs.Common.{◌≡◌, ◌+◌, ◌≤◌, drop, length, sum_by}
use Rattle.pl_history.specs.Rules.{names_known}
use Rattle.world_setup.specs.References.{first_failing, first_unknown}
use Rattle.world_setup.proofs.references.first_unknown.Given as goal

abbrev pub invariant-loop-lines : goal.invariant-loop-lines
invariant-loop-lines l = record {
  few : l.before + sum_by length (drop l.lines-index l.scripts) ≤ 65536;
  same : first_failing (λ hart. names_known l.enclaves l.images) l.lines-index l.before (drop l.lines-index l.scripts) ≡ first_unknown l.enclaves l.images l.scripts;
}
