use Rattle.std.proofs.Common.{◌≡◌, ℕ, ◌<◌, List, [], length, arith, ap, ◌∙◌, sym}
use Rattle.std.specs.Prelude.{remove}
use Rattle.mem_slots.specs.declared.slot_use.SlotUse.{SlotUse}
use Rattle.mem_slots.specs.Slots.{Slot, SlotList, list_of, slot, slot_at, slots_of}
use Rattle.mem_slots.proofs.SlotsOf.{length-slots_of, slots_of-at, slots_of-remove}
use Rattle.mem_slots.proofs.slots.Slots.take_out.Goals as goal

pub remove-slot-requires : goal.remove-slot-requires
remove-slot-requires c =
    let us = c.self.inside.uses.items in
    let rs = c.self.inside.roots.items in
    let view : slots_of us rs ≡ c.args.self.now.mounted = ap (λ (v : SlotList). v.mounted) c.self.view_is in
    let limit : c.self.inside.limit ≡ c.args.self.now.limit = ap (λ (v : SlotList). v.limit) c.self.view_is in
    let size : length us ≡ length c.args.self.now.mounted = sym (length-slots_of us rs c.self.invariant.0) ∙ ap length view in
    let few : c.args.position < length us = omega (arith, c.requires) in
    (omega arith, few)

pub returns-clause-zone : goal.returns-clause-zone
returns-clause-zone c =
    let us = c.self.inside.uses.items in
    let rs = c.self.inside.roots.items in
    let view : slots_of us rs ≡ c.args.self.now.mounted = ap (λ (v : SlotList). v.mounted) c.self.view_is in
    let limit : c.self.inside.limit ≡ c.args.self.now.limit = ap (λ (v : SlotList). v.limit) c.self.view_is in
    let size : length us ≡ length c.args.self.now.mounted = sym (length-slots_of us rs c.self.invariant.0) ∙ ap length view in
    let few : c.args.position < length us = omega (arith, c.requires) in
    ap (λ (u : SlotUse). u.zone) c.remove-slot.ensures.value
    ∙ sym (ap (λ (ss : List Slot). (slot_at ss c.args.position).zone) (sym view) ∙ ap (λ (s : Slot). s.zone) (slots_of-at us rs c.args.position (slot 0 0 []) c.remove-slot.result [] c.self.invariant.0 few))

pub returns-clause-root : goal.returns-clause-root
returns-clause-root c =
    let us = c.self.inside.uses.items in
    let rs = c.self.inside.roots.items in
    let view : slots_of us rs ≡ c.args.self.now.mounted = ap (λ (v : SlotList). v.mounted) c.self.view_is in
    let limit : c.self.inside.limit ≡ c.args.self.now.limit = ap (λ (v : SlotList). v.limit) c.self.view_is in
    let size : length us ≡ length c.args.self.now.mounted = sym (length-slots_of us rs c.self.invariant.0) ∙ ap length view in
    let few : c.args.position < length us = omega (arith, c.requires) in
    c.remove-root.ensures.value
    ∙ sym (ap (λ (ss : List Slot). (slot_at ss c.args.position).root) (sym view) ∙ ap (λ (s : Slot). s.root) (slots_of-at us rs c.args.position (slot 0 0 []) c.remove-slot.result c.remove-root.result c.self.invariant.0 few))

pub returns-clause-rest : goal.returns-clause-rest
returns-clause-rest c =
    let us = c.self.inside.uses.items in
    let rs = c.self.inside.roots.items in
    let view : slots_of us rs ≡ c.args.self.now.mounted = ap (λ (v : SlotList). v.mounted) c.self.view_is in
    let limit : c.self.inside.limit ≡ c.args.self.now.limit = ap (λ (v : SlotList). v.limit) c.self.view_is in
    let size : length us ≡ length c.args.self.now.mounted = sym (length-slots_of us rs c.self.invariant.0) ∙ ap length view in
    ap (λ (l : List SlotUse). list_of c.self.inside.limit (slots_of l c.remove-root.new.self.items)) c.remove-slot.ensures.items
    ∙ ap (λ (l : List (List ℕ)). list_of c.self.inside.limit (slots_of (remove us c.args.position) l)) c.remove-root.ensures.items
    ∙ ap (list_of c.self.inside.limit) (slots_of-remove us rs c.args.position c.self.invariant.0)
    ∙ ap (λ (v : SlotList). list_of v.limit (remove v.mounted c.args.position)) c.self.view_is
