-- The page that a word of the host's tables names is one of memory.
use Rattle.std.proofs.Common.{ℕ, ◌≡◌, ◌≢◌, ◌*◌, ◌^◌, ◌<◌, ◌≤◌, ◌⊎◌, List, Option, Some, None, ap, subst, sym, ◌∙◌, arith, inl, inr}
use Rattle.pl_base.specs.Address.{vpn_of}
use Rattle.pl_base.specs.declared.access.Mode.TheVariants.{Super}
use Rattle.pl_base.specs.declared.address.Va.{Va}
use Rattle.rv_sv39.specs.Word.{ppn_of}
use Rattle.mem_ctl.specs.Data.{CtlData}
use Rattle.mem_ctl.specs.Writes.{word_at}
use Rattle.mon_fence.specs.declared.fences.Fence.{Fence}
use Rattle.mon_tables.specs.Words.{ppn_of_page}
use Rattle.mon_tables.proofs.WordBits.{ppn_of-leaf}
use Rattle.mon_host.specs.Leaves.{early_refusal, leaf_slot}
use Rattle.mon_host.specs.Unmapping.{HaveHostLeaves, IsHostLeaf}
use Rattle.mon_host.proofs.RefusalLemmas.{can_be_mapped-early}
use Rattle.mon_host.proofs.SpaceLemmas.{IsSlot, mapped-IsSlot}

named_inside : (pages word : ℕ) → pages ≤ 2 ^ 32 → IsHostLeaf pages word → (ppn_of_page 0 ≤ ppn_of word) × (ppn_of word < ppn_of_page (2 ^ 32))
named_inside pages word few leaf =
    let small : leaf.page < 2 ^ 32 = omega (arith, leaf.inside) in
    let named : ppn_of word ≡ ppn_of_page leaf.page = ap ppn_of leaf.is ∙ ppn_of-leaf leaf.page leaf.perms Super small leaf.allowed in
    (omega arith, omega arith)

pub leaf_named : (tables : ℕ) (fences : List (Option Fence)) (va : Va) (x : CtlData) (slot : ℕ × ℕ) (word : ℕ) → None ≡ early_refusal tables fences va → slot ≡ leaf_slot tables va
    → x.zones ≤ 64 → HaveHostLeaves tables x → word ≡ word_at x.mirror slot.0 slot.1 → word ≢ 0 → (ppn_of_page 0 ≤ ppn_of word) × (ppn_of word < ppn_of_page (2 ^ 32))
leaf_named tables fences va x slot word none slot_is few leaves word_is some =
    let at : IsSlot tables va = mapped-IsSlot tables va (can_be_mapped-early tables fences va (sym none)) in
    let leaf : (word ≡ 0) ⊎ IsHostLeaf (64 * x.zones) word = subst (λ w. (w ≡ 0) ⊎ IsHostLeaf (64 * x.zones) w) (sym word_is) (leaves (vpn_of va).0 slot (at.slot_is ∙ ap Some (sym slot_is))) in
    elim leaf [
      | inl zero ↦ absurd (some zero)
      | inr found ↦ named_inside (64 * x.zones) word (omega arith) found
    ]
