use Rattle.std.proofs.Common.{◌≡◌, ◌<◌, ◌∷◌, [], ◌++◌, IsNone, find, length, drop, ap, ◌∙◌, arith}
use Rattle.std.proofs.lemmas.Bool.Decides.{nat_tests}
use Rattle.rv_tlb.proofs.Entries.{IsTlb-push, IsTlb-drop, IsNone-drop}
use Rattle.rv_tlb.specs.Tlb.{is_of}
use Rattle.rv_tlb.specs.declared.tlb.Tlb.TheInside.{Inside}
use Rattle.rv_tlb.proofs.tlb.Tlb.put.Goals as goal
use Rattle.rv_tlb.proofs.tlb.Tlb.put.Goals.{then-is_full, else-is_full}

pub invariant_of-self : goal.invariant_of-self
invariant_of-self c =
    let entries = c.self.inside.entries.items in
    let entry = c.args.entry in
    let new : IsNone (find (is_of entry.space entry.vpn) entries) = rw c.self.view_is c.requires.new in
    elim c.if-is_full.branch [
      | then-is_full w ↦
          let full : length entries ≡ 16 = grind (arith, nat_tests, w.if-is_full.ensures, c.is_full.ensures.value) in
          let items : c.push.new.self.items ≡ drop 1 entries ++ entry ∷ []
          = c.push.ensures.items ∙ ap (λ (inside : Inside). inside.entries.items ++ entry ∷ []) w.self-inside-is ∙ ap (λ rest. rest ++ entry ∷ []) w.remove.ensures.items in
          rw items (IsTlb-push (drop 1 entries) entry (IsTlb-drop entries c.self.invariant (omega arith)) (omega (arith, w.remove.ensures.len, ap length w.remove.ensures.items)) c.requires.ppn (IsNone-drop (is_of entry.space entry.vpn) entries new))
      | else-is_full w ↦
          let room : length entries < 16 = grind (arith, nat_tests, w.if-is_full.ensures, c.self.invariant.room) in
          let items : c.push.new.self.items ≡ entries ++ entry ∷ []
          = c.push.ensures.items ∙ ap (λ (inside : Inside). inside.entries.items ++ entry ∷ []) w.self-inside-is in
          rw items (IsTlb-push entries entry c.self.invariant room c.requires.ppn new)
    ]
