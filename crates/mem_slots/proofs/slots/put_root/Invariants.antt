use Rattle.std.proofs.Common.{◌≡◌, ◌++◌, take, drop, map}
use Rattle.mem_slots.specs.Slots.{rooted_slot, slots_of}
use Rattle.mem_slots.proofs.slots.put_root.Given as goal

abbrev pub invariant-loop-i : goal.invariant-loop-i
invariant-loop-i l = slots_of l.uses l.roots ≡ map (rooted_slot l.zone l.root) (take l.i (slots_of l.uses l.initial.roots)) ++ drop l.i (slots_of l.uses l.initial.roots)
