use Rattle.std.proofs.Common.{◌≡◌, ◌++◌, drop}
use Rattle.pl_history.specs.Rules.{counts_of}
use Rattle.world_setup.proofs.references.counts_of.Given as goal

abbrev pub invariant-loop-lines : goal.invariant-loop-lines
invariant-loop-lines l = l.counts.items ++ counts_of (drop l.lines-index l.scripts) l.attacker ≡ counts_of l.scripts l.attacker
