use Rattle.std.proofs.Common.{◌≡◌, ◌+◌, ◌==◌, false, [], get_or, rules, arith, ◌∙◌}
use Rattle.std.proofs.lemmas.Bool.{cond-false}
use Rattle.mem_slots.specs.declared.slot_use.SlotUse.{SlotUse}
use Rattle.mem_slots.proofs.SlotsOf.{root_of-step}
use Rattle.mem_slots.proofs.slots.root_in.Goals as goal

pub loop-i-preserved : goal.loop-i-preserved
loop-i-preserved c =
    let us = c.args.uses.now in
    let rs = c.args.roots.now in
    let i = c.loop-i.i in
    let e : SlotUse = record { zone = 0; uses = 0 } in
    let test : ((get_or us i e).zone == c.args.zone) ≡ false = search rules in
    c.loop-i.invariant ∙ root_of-step us rs c.args.zone i (i + 1) e [] c.requires (search rules) (omega arith) ∙ cond-false ((get_or us i e).zone == c.args.zone) _ _ test
