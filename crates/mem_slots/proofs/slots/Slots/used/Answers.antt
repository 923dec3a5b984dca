use Rattle.std.proofs.Common.{◌≡◌, List, length, map, ap, ◌∙◌, sym}
use Rattle.mem_slots.specs.declared.slot_use.SlotUse.{SlotUse}
use Rattle.mem_slots.specs.Slots.{SlotList, list_of, slots_of, used_slot, used_use}
use Rattle.std.specs.List.{refill}
use Rattle.std.proofs.lemmas.List.{length-map, take_at}
use Rattle.mem_slots.proofs.SlotsOf.{length-slots_of, slots_of-used}
use Rattle.mem_slots.proofs.slots.Slots.used.Goals as goal

pub returns : goal.returns
returns c =
    let us = c.self.inside.uses.items in
    let rs = c.self.inside.roots.items in
    let view : slots_of us rs ≡ c.args.self.now.mounted = ap (λ (v : SlotList). v.mounted) c.self.view_is in
    let limit : c.self.inside.limit ≡ c.args.self.now.limit = ap (λ (v : SlotList). v.limit) c.self.view_is in
    let size : length us ≡ length c.args.self.now.mounted = sym (length-slots_of us rs c.self.invariant.0) ∙ ap length view in
    let now : refill (length us) us c.count_use.new.uses ≡ map (used_use c.args.zone) us =
    let is : c.count_use.new.uses ≡ map (used_use c.args.zone) us = c.count_use.ensures ∙ ap (map (used_use c.args.zone)) c.as_mut_slice.ensures.value in
    take_at c.count_use.new.uses _ (length us) (ap length is ∙ length-map us (used_use c.args.zone)) ∙ is in
    ap (λ (l : List SlotUse). list_of c.self.inside.limit (slots_of l rs)) now ∙ ap (list_of c.self.inside.limit) (slots_of-used c.args.zone us rs)
    ∙ ap (λ (v : SlotList). list_of v.limit (map (used_slot c.args.zone) v.mounted)) c.self.view_is
