-- The laws of `map` and of `unmap`.
use Rattle.std.proofs.Common.{ℕ, ◌≡◌, ◌≤◌, ◌+◌, ◌*◌, Bool, true, false, List, [], ◌∷◌, Option, Some, None, refl, ap, subst, sym, arith, inl, lit<}
use Rattle.std.specs.Prelude.{Result, Ok}
use Rattle.pl_base.specs.Refusals.{refuse, first_refusal}
use Rattle.pl_base.specs.declared.access.Mode.TheVariants.{Super}
use Rattle.pl_base.specs.declared.address.Va.{Va}
use Rattle.pl_base.specs.declared.refusal.No.{No}
use Rattle.pl_base.specs.declared.refusal.No.TheVariants.{Busy, Mapped, NotMapped, NotYours}
use Rattle.mem_tree.specs.Trees.{HasDigests}
use Rattle.mem_ctl.specs.Access.{Accessed, AccessTells}
use Rattle.mem_ctl.specs.Data.{CtlData, Going, Outcome, Value, After}
use Rattle.mem_ctl.specs.TreesHold.{IsKept}
use Rattle.mon_fence.specs.declared.fences.Fence.{Fence}
use Rattle.mon_tables.specs.SpaceWalks.{ClearsMapping, HostTablesWalk, SetsMapping}
use Rattle.mon_tables.specs.Words.{leaf_word}
use Rattle.mon_host.specs.Laws.{MapsTell, UnmapsTell, WordTells, places_of}
use Rattle.mon_host.specs.Leaves.{early_refusal, leaf_slot, step_unless, word_replaced}
use Rattle.mon_host.specs.Mapping.{map_of, map_refusal}
use Rattle.mon_host.specs.Unmapping.{HaveHostLeaves, page_of_leaf, unmap_begun, unmap_refusal}
use Rattle.mon_host.proofs.RefusalLemmas.{can_be_mapped-early, event_busy, event_refused_at_once}
use Rattle.mon_host.proofs.SpaceLemmas.{IsSlot, keeps_leaves, leaf_fits, map_happens, mapped-IsSlot, new_leaf, unmap_happens, unmapped_page}
use Rattle.mon_host.proofs.WordLemmas.{replaced_tells}

-- ---- no later cause is that of a removal under way

not_busy_mapped : (mapped not_host : Bool) (page : ℕ) → first_refusal (refuse mapped Mapped ∷ refuse not_host (NotYours page) ∷ []) ≡ Some Busy → ⊥
not_busy_mapped true not_host page is = cc
not_busy_mapped false true page is = cc
not_busy_mapped false false page is = cc

not_busy_unmapped : (zero : Bool) → refuse zero NotMapped ≡ Some Busy → ⊥
not_busy_unmapped true is = cc
not_busy_unmapped false is = cc

-- ---- an address that isn't refused at once

module _ (tables : ℕ) (fences : List (Option Fence)) (va : Va) (none : early_refusal tables fences va ≡ None) where
  at : IsSlot tables va
  at = mapped-IsSlot tables va (can_be_mapped-early tables fences va none)

  module _ (d : List ℕ → List ℕ) (law : HasDigests d) {A : Type 0} (refusal : ℕ → Option No) (word : ℕ) (value : ℕ → A) (g : Going) (kept : IsKept d g.ctl) (guarded : 2 + tables ≤ 64 * g.ctl.zones) where
    abbrev Told : After (Result A No) → Type 0
    Told r = Accessed d (places_of (leaf_slot tables va)) (WordTells (leaf_slot tables va) refusal word value g.ctl r.after.ctl) g.ctl r.outcome r.after.ctl

    leaf_told : Told (step_unless (early_refusal tables fences va) (word_replaced d (leaf_slot tables va) refusal word value) g)
    leaf_told =
        let slot : ℕ × ℕ = leaf_slot tables va in
        let page : slot.0 ≡ _ = ap (λ (s : ℕ × ℕ). s.0) at.leaf_is in
        let offset : slot.1 ≡ _ = ap (λ (s : ℕ × ℕ). s.1) at.leaf_is in
        subst (λ e. Told (step_unless e (word_replaced d slot refusal word value) g)) (sym none)
        (replaced_tells d law slot refusal word value g kept (omega (arith, page, at.vpn_below)) (omega (arith, offset)) (omega (arith, offset)))

-- an event that is refused at once leaves the controller
kept_by : {A : Type 0} (P : CtlData → Type 0) (early : Option No) (step : Going → After (Result A No)) (g : Going) → P g.ctl → (early ≡ None → P (step_unless early step g).after.ctl)
    → P (step_unless early step g).after.ctl
kept_by P (Some cause) step g was goes = was
kept_by P None step g was goes = goes refl

-- what was done wasn't refused at once
not_early : {A : Type 0} (early : Option No) (step : Going → After (Result A No)) (g : Going) (a : A) → (step_unless early step g).outcome ≡ Value (Ok a) → early ≡ None
not_early (Some cause) step g a is = cc
not_early None step g a is = refl

-- ---- the laws

pub maps_tell : HostTablesWalk → SetsMapping → (d : List ℕ → List ℕ) → HasDigests d → MapsTell d
unfolding map_of
maps_tell walk sets d law = record {
  at_once = λ tables fences owners va page perms g cause refused. event_refused_at_once (early_refusal tables fences va) _ _ owners g cause refused;
  busy = λ tables fences owners va page perms g.
      event_busy d (leaf_slot tables va) (map_refusal owners page) (leaf_word page perms Super) (λ word. tt) (λ old is. not_busy_mapped _ _ page is) tables fences va g;
  leaf = λ tables fences owners va page perms g kept guarded none. leaf_told tables fences va none d law (map_refusal owners page) (leaf_word page perms Super) (λ word. tt) g kept guarded;
  space = λ tables fences owners va page perms g space kept few guarded small allowed none stand.
      map_happens walk d tables few g.ctl _ kept.trees.sizes.mirror_size guarded space va (at tables fences va none) stand sets owners page perms small allowed _
      (leaf_told tables fences va none d law (map_refusal owners page) (leaf_word page perms Super) (λ word. tt) g kept guarded).tells;
  keeps = λ tables fences owners va page perms g kept guarded small inside allowed leaves.
      kept_by (HaveHostLeaves tables) (early_refusal tables fences va) (word_replaced d (leaf_slot tables va) (map_refusal owners page) (leaf_word page perms Super) (λ word. tt)) g leaves
      (λ none.
      let told = leaf_told tables fences va none d law (map_refusal owners page) (leaf_word page perms Super) (λ word. tt) g kept guarded in
      keeps_leaves d tables g.ctl _ kept.trees.sizes.mirror_size guarded told.leaves.same_zones va (at tables fences va none) (map_refusal owners page) (leaf_word page perms Super) (λ word. tt)
      (leaf_fits page perms Super small allowed) (new_leaf owners page _ (64 * g.ctl.zones) perms allowed inside) leaves _ told.tells);
}

pub unmaps_tell : HostTablesWalk → ClearsMapping → (d : List ℕ → List ℕ) → HasDigests d → UnmapsTell d
unfolding unmap_begun
unmaps_tell walk clears d law = record {
  at_once = λ tables fences h va g cause refused. event_refused_at_once (early_refusal tables fences va) _ _ fences g cause refused;
  busy = λ tables fences h va g. event_busy d (leaf_slot tables va) unmap_refusal 0 page_of_leaf (λ old is. not_busy_unmapped _ is) tables fences va g;
  leaf = λ tables fences h va g kept guarded none. leaf_told tables fences va none d law unmap_refusal 0 page_of_leaf g kept guarded;
  space = λ tables fences h va g space kept few guarded none stand.
      unmap_happens walk d tables few g.ctl _ kept.trees.sizes.mirror_size guarded space va (at tables fences va none) stand clears _
      (leaf_told tables fences va none d law unmap_refusal 0 page_of_leaf g kept guarded).tells;
  page = λ tables fences h va g space page kept guarded all stand is.
      let none : early_refusal tables fences va ≡ None = not_early (early_refusal tables fences va) (word_replaced d (leaf_slot tables va) unmap_refusal 0 page_of_leaf) g page is in
      let told = leaf_told tables fences va none d law unmap_refusal 0 page_of_leaf g kept guarded in
      let after : CtlData = (step_unless (early_refusal tables fences va) (word_replaced d (leaf_slot tables va) unmap_refusal 0 page_of_leaf) g).after.ctl in
      let tells = subst (λ (o : Outcome (Result ℕ No)). AccessTells d (places_of (leaf_slot tables va)) (WordTells (leaf_slot tables va) unmap_refusal 0 page_of_leaf g.ctl after) g.ctl o after) is told.tells in
      unmapped_page tables g.ctl space va page (at tables fences va none) all stand tells.0 tells.1;
  keeps = λ tables fences h va g kept guarded leaves.
      kept_by (HaveHostLeaves tables) (early_refusal tables fences va) (word_replaced d (leaf_slot tables va) unmap_refusal 0 page_of_leaf) g leaves
      (λ none.
      let told = leaf_told tables fences va none d law unmap_refusal 0 page_of_leaf g kept guarded in
      keeps_leaves d tables g.ctl _ kept.trees.sizes.mirror_size guarded told.leaves.same_zones va (at tables fences va none) unmap_refusal 0 page_of_leaf (lit< tt) (λ cleared. inl refl) leaves _ told.tells);
}
