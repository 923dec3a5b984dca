use Rattle.std.proofs.Common.{◌≡◌, ◌++◌, ◌+◌, take, drop, map, length, ℕ, List, rules, arith, subst, sym}
use Rattle.mem_slots.specs.declared.slot_use.SlotUse.{SlotUse}
use Rattle.mem_slots.specs.Slots.{rooted_slot, slots_of}
use Rattle.mem_slots.proofs.SlotsOf.{rooted_all, rooted_elsewhere, rooted_here}
use Rattle.mem_slots.proofs.slots.put_root.Goals as goal
use Rattle.mem_slots.proofs.slots.put_root.Goals.{then-uses-i, else-uses-i}

pub loop-i-preserved : goal.loop-i-preserved
loop-i-preserved c =
    let us = c.args.uses.now in
    let old = c.args.roots.now in
    let i = c.loop-i.i in
    let u : SlotUse = record { zone = 0; uses = 0 } in
    let holds = λ (roots : List (List ℕ)). slots_of us roots ≡ map (rooted_slot c.args.zone c.args.root.now) (take (i + 1) (slots_of us old)) ++ drop (i + 1) (slots_of us old) in
    let same : length c.loop-i.roots ≡ length us = omega arith in
    elim c.if-uses-i.branch [
      | then-uses-i w ↦ subst holds (sym w.roots-is) (rooted_here us old c.loop-i.roots c.args.zone i c.args.root.now u c.requires same c.loop-i-test.true c.loop-i.invariant w.if-uses-i.true)
      | else-uses-i w ↦ subst holds (sym w.roots-is) (rooted_elsewhere us old c.loop-i.roots c.args.zone i c.args.root.now u c.requires same c.loop-i-test.true c.loop-i.invariant (search rules))
    ]

pub returns : goal.returns
returns c = rooted_all c.args.uses.now c.args.roots.now c.loop-i.roots c.args.zone c.loop-i.i c.args.root.now c.requires c.loop-i-test.false c.loop-i.invariant
