use Rattle.std.proofs.Common.{◌≡◌, ℕ, ◌<◌, false, List, [], ◌∷◌, ◌++◌, length, arith, ap, ◌∙◌, sym}
use Rattle.std.specs.Prelude.{nat_le}
use Rattle.std.proofs.lemmas.Bool.Decides.{nat_tests}
use Rattle.mem_slots.specs.declared.slot_use.SlotUse.{SlotUse}
use Rattle.mem_slots.specs.Slots.{SlotList, list_of, slot, slots_of}
use Rattle.mem_slots.proofs.SlotsOf.{length-slots_of, slots_of-push}
use Rattle.mem_slots.proofs.slots.Slots.add.Goals as goal

-- a slot is free
room : (limit count : ℕ) → nat_le limit count ≡ false → count < limit
room limit count h = grind (arith, nat_tests)

pub push-requires : goal.push-requires
push-requires c =
    let us = c.self.inside.uses.items in
    let rs = c.self.inside.roots.items in
    let view : slots_of us rs ≡ c.args.self.now.mounted = ap (λ (v : SlotList). v.mounted) c.self.view_is in
    let limit : c.self.inside.limit ≡ c.args.self.now.limit = ap (λ (v : SlotList). v.limit) c.self.view_is in
    let size : length us ≡ length c.args.self.now.mounted = sym (length-slots_of us rs c.self.invariant.0) ∙ ap length view in
    let free = room c.args.self.now.limit (length c.args.self.now.mounted) c.requires.room in
    let few : length us < 64 = omega (arith, c.self.invariant.2) in
    (omega arith, few)

pub push-requires-2 : goal.push-requires-2
push-requires-2 c =
    let us = c.self.inside.uses.items in
    let rs = c.self.inside.roots.items in
    let view : slots_of us rs ≡ c.args.self.now.mounted = ap (λ (v : SlotList). v.mounted) c.self.view_is in
    let limit : c.self.inside.limit ≡ c.args.self.now.limit = ap (λ (v : SlotList). v.limit) c.self.view_is in
    let size : length us ≡ length c.args.self.now.mounted = sym (length-slots_of us rs c.self.invariant.0) ∙ ap length view in
    let free = room c.args.self.now.limit (length c.args.self.now.mounted) c.requires.room in
    let few : length rs < 64 = omega (arith, c.self.invariant.0, c.self.invariant.2) in
    (omega arith, few)

pub invariant_of-self : goal.invariant_of-self
invariant_of-self c =
    let us = c.self.inside.uses.items in
    let rs = c.self.inside.roots.items in
    let view : slots_of us rs ≡ c.args.self.now.mounted = ap (λ (v : SlotList). v.mounted) c.self.view_is in
    let limit : c.self.inside.limit ≡ c.args.self.now.limit = ap (λ (v : SlotList). v.limit) c.self.view_is in
    let size : length us ≡ length c.args.self.now.mounted = sym (length-slots_of us rs c.self.invariant.0) ∙ ap length view in
    let free = room c.args.self.now.limit (length c.args.self.now.mounted) c.requires.room in
    (omega (arith, c.self.invariant.0), omega (arith, c.self.invariant.1), c.self.invariant.2)

pub returns : goal.returns
returns c =
    let us = c.self.inside.uses.items in
    let rs = c.self.inside.roots.items in
    let view : slots_of us rs ≡ c.args.self.now.mounted = ap (λ (v : SlotList). v.mounted) c.self.view_is in
    let limit : c.self.inside.limit ≡ c.args.self.now.limit = ap (λ (v : SlotList). v.limit) c.self.view_is in
    let size : length us ≡ length c.args.self.now.mounted = sym (length-slots_of us rs c.self.invariant.0) ∙ ap length view in
    let used : SlotUse = record { zone = c.args.zone; uses = 0 } in
    ap (λ (l : List SlotUse). list_of c.self.inside.limit (slots_of l c.push-2.new.self.items)) c.push.ensures.items
    ∙ ap (λ (l : List (List ℕ)). list_of c.self.inside.limit (slots_of (us ++ used ∷ []) l)) c.push-2.ensures.items
    ∙ ap (list_of c.self.inside.limit) (slots_of-push us rs used c.args.root c.self.invariant.0)
    ∙ ap (λ (v : SlotList). list_of v.limit (v.mounted ++ slot c.args.zone 0 c.args.root ∷ [])) c.self.view_is
