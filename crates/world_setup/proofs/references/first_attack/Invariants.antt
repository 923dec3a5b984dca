use Rattle.std.proofs.Common.{◌≡◌, ◌-◌, ◌≤◌, take, drop, reverse}
use Rattle.world_setup.specs.References.{first_attack_from, first_attack, KeepsLengths}
use Rattle.world_setup.proofs.references.first_attack.Given as goal

abbrev pub invariant-loop-at : goal.invariant-loop-at
invariant-loop-at l = record {
  kept : KeepsLengths l.kept (reverse (take l.at l.lines));
  few : l.left ≤ 4194304;
  same : first_attack_from l.zones l.counts l.me (reverse (take l.at l.lines)) (4194304 - l.left) l.at (drop l.at l.lines) ≡ first_attack l.zones l.counts l.me l.lines;
}
