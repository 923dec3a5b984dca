use Rattle.std.proofs.Common.{◌≡◌, drop}
use Rattle.mem_slots.specs.Slots.{root_of, slots_of}
use Rattle.mem_slots.proofs.slots.root_in.Given as goal

abbrev pub invariant-loop-i : goal.invariant-loop-i
invariant-loop-i l = root_of (slots_of l.uses l.roots) l.zone ≡ root_of (slots_of (drop l.i l.uses) (drop l.i l.roots)) l.zone
