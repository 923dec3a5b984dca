use Rattle.std.proofs.Common.{◌≡◌, ◌++◌, drop, take, map}
use Rattle.mem_slots.specs.Slots.{used_use}
use Rattle.mem_slots.proofs.slots.count_use.Given as goal

abbrev pub invariant-loop-i : goal.invariant-loop-i
invariant-loop-i l = l.uses ≡ map (used_use l.zone) (take l.i l.initial.uses) ++ drop l.i l.initial.uses
