use Rattle.std.proofs.Common.{◌≡◌, None, drop}
use Rattle.pl_history.specs.Attacking.{latest_kept}
use Rattle.world_attack.proofs.kept.latest_kept.Given as goal

abbrev pub invariant-loop-at : goal.invariant-loop-at
invariant-loop-at l = latest_kept l.setup l.bytes l.name (drop l.at l.entries) ≡ None
