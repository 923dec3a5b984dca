use Rattle.std.proofs.Common.{get_or, rules}
use Rattle.std.proofs.lemmas.List.{get_or_default}
use Rattle.std.proofs.lemmas.List.Edits.{map_over_more}
use Rattle.mem_slots.specs.declared.slot_use.SlotUse.{SlotUse}
use Rattle.mem_slots.specs.Slots.{used_use}
use Rattle.mem_slots.proofs.slots.count_use.Goals as goal

pub loop-i-preserved : goal.loop-i-preserved
loop-i-preserved c =
    let e : SlotUse = record { zone = 0; uses = 0 } in
    let x : SlotUse = get_or c.loop-i.uses c.loop-i.i e in
    rw c.with_use.ensures (map_over_more (used_use c.args.zone) c.args.uses.now c.loop-i.uses c.loop-i.i x (search rules) c.loop-i.invariant (get_or_default c.loop-i.uses c.loop-i.i e x (search rules)))
