use Rattle.std.proofs.Common.{◌≡◌, length, map, arith, ap, ◌∙◌, sym}
use Rattle.mem_slots.specs.Slots.{SlotList, slots_of, use_of}
use Rattle.mem_slots.proofs.SlotsOf.{length-slots_of, uses-slots_of}
use Rattle.mem_slots.proofs.slots.Slots.list.Goals as goal

pub returns-clause-list : goal.returns-clause-list
returns-clause-list c =
    let us = c.self.inside.uses.items in
    let rs = c.self.inside.roots.items in
    let view : slots_of us rs ≡ c.args.self.now.mounted = ap (λ (v : SlotList). v.mounted) c.self.view_is in
    let limit : c.self.inside.limit ≡ c.args.self.now.limit = ap (λ (v : SlotList). v.limit) c.self.view_is in
    let size : length us ≡ length c.args.self.now.mounted = sym (length-slots_of us rs c.self.invariant.0) ∙ ap length view in
    c.as_slice.ensures.value ∙ uses-slots_of us rs c.self.invariant.0 ∙ ap (map use_of) view

pub returns-clause-size : goal.returns-clause-size
returns-clause-size c =
    let us = c.self.inside.uses.items in
    let rs = c.self.inside.roots.items in
    let view : slots_of us rs ≡ c.args.self.now.mounted = ap (λ (v : SlotList). v.mounted) c.self.view_is in
    let limit : c.self.inside.limit ≡ c.args.self.now.limit = ap (λ (v : SlotList). v.limit) c.self.view_is in
    let size : length us ≡ length c.args.self.now.mounted = sym (length-slots_of us rs c.self.invariant.0) ∙ ap length view in
    ap length c.as_slice.ensures.value ∙ size

pub returns-clause-limit : goal.returns-clause-limit
returns-clause-limit c =
    let us = c.self.inside.uses.items in
    let rs = c.self.inside.roots.items in
    let view : slots_of us rs ≡ c.args.self.now.mounted = ap (λ (v : SlotList). v.mounted) c.self.view_is in
    let limit : c.self.inside.limit ≡ c.args.self.now.limit = ap (λ (v : SlotList). v.limit) c.self.view_is in
    let size : length us ≡ length c.args.self.now.mounted = sym (length-slots_of us rs c.self.invariant.0) ∙ ap length view in
    let most = c.self.invariant.1 in
    omega arith
