use Rattle.std.proofs.Common.{◌≡◌, filter, not, arith, rules}
use Rattle.arrayvec.proofs.ArrayVecLemmas.{filter-from_retain}
use Rattle.rv_tlb.proofs.Entries.{IsTlb-filter}
use Rattle.rv_tlb.specs.Tlb.{is_in}
use Rattle.rv_tlb.proofs.tlb.Tlb.drop_space.Goals as goal

pub invariant_of-self : goal.invariant_of-self
invariant_of-self c =
    let kept : c.retain.new.self.items ≡ filter (λ entry. not (is_in c.args.space entry)) c.self.inside.entries.items
    = filter-from_retain _ _ _ (λ x b f' y called. search rules) _ _ c.retain.ensures.filtered in
    rw kept (IsTlb-filter (λ entry. not (is_in c.args.space entry)) c.self.inside.entries.items c.self.invariant (rw (← kept) (omega (arith, c.retain.ensures.bound, c.self.invariant.room))))

pub returns : goal.returns
returns c = rw (← c.self.view_is) (filter-from_retain _ _ _ (λ x b f' y called. search rules) _ _ c.retain.ensures.filtered)
