use Rattle.std.proofs.Common.{◌≡◌, ℕ, ◌<◌, List, [], length, map, get_or, rules, arith, ap, ◌∙◌, sym, subst}
use Rattle.std.specs.Prelude.{slice_index_or, Err}
use Rattle.mem_ctl.specs.Results.{IsCall, checked_of}
use Rattle.std.specs.Fn.{FnReturnsAt}
use Rattle.std.proofs.lemmas.List.{get_or-map}
use Rattle.std.proofs.lemmas.List.Edits.{length-remove}
use Rattle.mem_tree.specs.Checks.{Holds as AllHold}
use Rattle.mem_slots.specs.declared.slot_use.SlotUse.{SlotUse}
use Rattle.mem_ctl.specs.Data.{CtlData, Value, ctl_data}
use Rattle.mem_slots.specs.Slots.{SlotList, is_mounted, slot, slot_at, use_of}
use Rattle.mem_ctl.specs.Mounting.{evicted, evicted_at, root_check}
use Rattle.mem_ctl.specs.TreesHold.{IsKept}
use Rattle.mem_ctl.proofs.CallLemmas.{Evicts, evicts, evict_stops, evict_goes}
use Rattle.mem_ctl.proofs.MountLemmas.{evicted_at-keeps}
use Rattle.mem_ctl.proofs.SlotLemmas.{none_of_removed}
use Rattle.mem_ctl.proofs.ctl.Ctl.evict.Given.{Over}
use Rattle.mem_ctl.proofs.ctl.Ctl.evict.Goals as goal

pub check_root-requires : goal.check_root-requires
check_root-requires g c =
    let i = c.self.inside in
    let k = c.pick-position.result in
    let there : k < length i.slots.mounted = omega (arith, c.pick-position.ensures.position, c.list.ensures.size) in
    let is : slice_index_or c.list-2.result.now k (record { zone = 0; uses = 0 }) ≡ use_of (slot_at i.slots.mounted k) = ap (λ (l : List SlotUse). get_or l k (record { zone = 0; uses = 0 })) c.list-2.ensures.list ∙ get_or-map use_of i.slots.mounted k (slot 0 0 []) (record { zone = 0; uses = 0 }) there in
    record { zone = rw (is, ← c.self.view_is) (c.self.invariant.trees.fit.there k (slot 0 0 []) there) }

pub returns-clause-room : goal.returns-clause-room
returns-clause-room g c =
    let there : c.pick-position.result < length c.self.inside.slots.mounted = omega (arith, c.pick-position.ensures.position, c.list.ensures.size) in
    rw (c.take_out.ensures.rest, ← c.self.view_is) (omega (arith, length-remove c.self.inside.slots.mounted c.pick-position.result there))

pub returns-clause-absent : goal.returns-clause-absent
returns-clause-absent g c = λ zone none. rw c.take_out.ensures.rest (none_of_removed c.self.inside.slots.mounted c.pick-position.result zone (ap (λ v. is_mounted v.0.mounted zone) c.self.view_is ∙ none))

-- the slot at the position, as the code saw it
pub returns-in-Err-clause-call : goal.returns-in-Err-clause-call
returns-in-Err-clause-call g c =
    let d = g.D.Digester.digest_of in
    let i = c.self.inside in
    let k = c.pick-position.result in
    let x : CtlData = ctl_data i.zones i.slots.limit i.off_chip i.mirror i.slots.mounted i.root in
    let same : x ≡ c.args.self.now.0 = ap (λ v. v.0) c.self.view_is in
    let there : k < length i.slots.mounted = omega (arith, c.pick-position.ensures.position, c.list.ensures.size) in
    let seen : SlotUse = slice_index_or c.list-2.result.now k (record { zone = 0; uses = 0 }) in
    let is : seen ≡ use_of (slot_at i.slots.mounted k) = ap (λ (l : List SlotUse). get_or l k (record { zone = 0; uses = 0 })) c.list-2.ensures.list ∙ get_or-map use_of i.slots.mounted k (slot 0 0 []) (record { zone = 0; uses = 0 }) there in
    let given : FnReturnsAt g.F.Fn i.choice (map use_of i.slots.mounted) k = rw (← c.list.ensures.list) c.pick-position.ensures.answer in
    let stopped : checked_of (Err c.in-Err.broken) ≡ root_check d c.args.self.now.0 seen.zone = search rules in
    rw (← c.self.view_is) (evict_stops (FnReturnsAt g.F.Fn i.choice) d x k c.in-Err.broken given there
    (stopped ∙ ap (λ (v : CtlData). root_check d v seen.zone) (sym same) ∙ ap (λ (u : SlotUse). root_check d x u.zone) is))

-- the check held at the slot that is taken out, and the fields as the code leaves them are those of the definition
is_evicted : (g : Over) (c : goal.After-write_place-4 g) → let i = c.self.inside in
    let x : CtlData = ctl_data i.zones i.slots.limit i.off_chip i.mirror i.slots.mounted i.root in
    (AllHold ≡ root_check g.D.Digester.digest_of x (slot_at i.slots.mounted c.pick-position.result).zone)
    × (ctl_data i.zones c.take_out.new.self.limit c.write_place-2.new.memory c.write_place-4.new.memory c.take_out.new.self.mounted c.replace_root-self-inside.result
    ≡ evicted_at g.D.Digester.digest_of x c.pick-position.result)
is_evicted g c =
    let d = g.D.Digester.digest_of in
    let i = c.self.inside in
    let k = c.pick-position.result in
    let x : CtlData = ctl_data i.zones i.slots.limit i.off_chip i.mirror i.slots.mounted i.root in
    let same : x ≡ c.args.self.now.0 = ap (λ v. v.0) c.self.view_is in
    let there : k < length i.slots.mounted = omega (arith, c.pick-position.ensures.position, c.list.ensures.size) in
    let seen : SlotUse = slice_index_or c.list-2.result.now k (record { zone = 0; uses = 0 }) in
    let is : seen ≡ use_of (slot_at i.slots.mounted k) = ap (λ (l : List SlotUse). get_or l k (record { zone = 0; uses = 0 })) c.list-2.ensures.list ∙ get_or-map use_of i.slots.mounted k (slot 0 0 []) (record { zone = 0; uses = 0 }) there in
    let holds : AllHold ≡ root_check d c.args.self.now.0 seen.zone = search rules in
    let e : Evicts d x k seen.zone c.take_out.result.1 c.replace_root-self-inside.new.node c.replace_root-self-inside.new.top c.write_place.new.memory c.write_place-2.new.memory c.write_place-3.new.memory c.write_place-4.new.memory c.replace_root-self-inside.result c.take_out.new.self.mounted = record {
      zone_is = ap (λ (u : SlotUse). u.zone) is;
      root_was = search rules;
      node_is = search rules;
      top_is = search rules;
      off_is = search rules;
      off_is' = search rules;
      mirror_is = search rules;
      mirror_is' = search rules;
      root_is = search rules;
      rest_is = search rules;
    } in
    let limit : c.take_out.new.self.limit ≡ i.slots.limit = ap (λ (v : SlotList). v.limit) c.take_out.ensures.rest in (
      holds ∙ ap (λ (v : CtlData). root_check d v seen.zone) (sym same) ∙ ap (λ (u : SlotUse). root_check d x u.zone) is,
      ap (λ (n : ℕ). ctl_data i.zones n c.write_place-2.new.memory c.write_place-4.new.memory c.take_out.new.self.mounted c.replace_root-self-inside.result) limit
          ∙ evicts d x k _ _ _ _ _ _ _ _ _ _ e,
    )

pub returns-clause-call : goal.returns-clause-call
returns-clause-call g c =
    let d = g.D.Digester.digest_of in
    let i = c.self.inside in
    let k = c.pick-position.result in
    let x : CtlData = ctl_data i.zones i.slots.limit i.off_chip i.mirror i.slots.mounted i.root in
    let there : k < length i.slots.mounted = omega (arith, c.pick-position.ensures.position, c.list.ensures.size) in
    let given : FnReturnsAt g.F.Fn i.choice (map use_of i.slots.mounted) k = rw (← c.list.ensures.list) c.pick-position.ensures.answer in
    let done = is_evicted g c in
    let now : CtlData = ctl_data i.zones c.take_out.new.self.limit c.write_place-2.new.memory c.write_place-4.new.memory c.take_out.new.self.mounted c.replace_root-self-inside.result in
    subst (λ v. IsCall (FnReturnsAt g.F.Fn v.1) (evicted d) v.0 (Value tt) now) c.self.view_is
    (subst (IsCall (FnReturnsAt g.F.Fn i.choice) (evicted d) x (Value tt)) (sym done.1) (evict_goes (FnReturnsAt g.F.Fn i.choice) d x k given there done.0))

pub invariant_of-self : goal.invariant_of-self
invariant_of-self g c =
    let d = g.D.Digester.digest_of in
    let i = c.self.inside in
    let k = c.pick-position.result in
    let x : CtlData = ctl_data i.zones i.slots.limit i.off_chip i.mirror i.slots.mounted i.root in
    let there : k < length i.slots.mounted = omega (arith, c.pick-position.ensures.position, c.list.ensures.size) in
    let done = is_evicted g c in
    let kept = evicted_at-keeps d g.met.D.Digester.digest_length x c.self.invariant.trees k there (sym done.0) in
    subst (IsKept d) (sym done.1) (record { trees = kept.trees; some = omega (arith, kept.slots_kept, c.self.invariant.some); few = omega (arith, kept.slots_kept, c.self.invariant.few) })
