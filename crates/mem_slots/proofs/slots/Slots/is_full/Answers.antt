use Rattle.std.proofs.Common.{◌≡◌, ℕ, length, rules, ap, ◌∙◌, sym}
use Rattle.std.specs.Prelude.{nat_le}
use Rattle.mem_slots.specs.Slots.{SlotList, slots_of}
use Rattle.mem_slots.proofs.SlotsOf.{length-slots_of}
use Rattle.mem_slots.proofs.slots.Slots.is_full.Goals as goal

pub returns : goal.returns
returns c =
    let us = c.self.inside.uses.items in
    let rs = c.self.inside.roots.items in
    let view : slots_of us rs ≡ c.args.self.now.mounted = ap (λ (v : SlotList). v.mounted) c.self.view_is in
    let limit : c.self.inside.limit ≡ c.args.self.now.limit = ap (λ (v : SlotList). v.limit) c.self.view_is in
    let size : length us ≡ length c.args.self.now.mounted = sym (length-slots_of us rs c.self.invariant.0) ∙ ap length view in
    let here : c.from.result ≡ c.self.inside.limit = search rules in
    let there : c.len.result ≡ length us = search rules in
    ap (λ (n : ℕ). nat_le n c.len.result) (here ∙ limit) ∙ ap (nat_le c.args.self.now.limit) (there ∙ size)
