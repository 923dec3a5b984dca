-- Fences and removals agree as removals, the giving back of numbers and breaks of pages begin, are acknowledged and end.
use Rattle.std.proofs.Common.{◌≡◌, ℕ, ◌+◌, ◌<◌, List, [], ◌∷◌, ◌++◌, length, filter, not, eqb, Option, Some, None, slice_set, refl, sym, ◌∙◌, subst, length-set, inl, inr}
use Rattle.pl_base.specs.declared.address.Vpn.{Vpn}
use Rattle.mon_fence.specs.declared.fences.Fence.{Fence}
use Rattle.mon_fence.specs.Fences.{acked, fence_of, posted}
use Rattle.mon_fence.proofs.Needs.{acked_all, fence_of-set_other, fence_of-set_same, left_fits, posted_fits}
use Rattle.mon_host.specs.Leaves.{host_space}
use Rattle.mon_tables.specs.Space.{Mapping}
use Rattle.pl_history.specs.Monitor.{Removal}
use Rattle.world_machine.specs.FencesStand.{FenceStands, FencesStand, IsOfHost, removals_by}
use Rattle.world_machine.proofs.Freshness.{acked_same}
use Rattle.world_machine.proofs.Leaving.{number_not_host}
use Rattle.world_machine.proofs.Lists.{everywhere}
use Rattle.world_machine.proofs.Removals.{removals_by-begun, removals_by-begun_other, removals_by-ended, removals_by-ended_other}

module _ (harts : ℕ) (fences : List (Option Fence)) (removals : List Removal) (agree : FencesStand harts fences removals) (hart : ℕ) (below : hart < harts) where
  there : hart < length fences
  there = subst (λ n. hart < n) (sym agree.size) below

  -- a hart that removes nothing begins to
  pub fences_begun : (m : Mapping) → removals_by removals hart ≡ []
      → FencesStand harts (posted fences hart host_space (Some (record { 0 = m.vpn }))) (removals ++ record { hart = hart; mapping = m } ∷ [])
  fences_begun m none = record {
    size = length-set fences hart _ ∙ agree.size;
    needs_others = posted_fits fences hart host_space (Some (record { 0 = m.vpn })) there agree.needs_others;
    each = everywhere (λ k. FenceStands (fence_of (posted fences hart host_space (Some (record { 0 = m.vpn }))) k) (removals_by (removals ++ record { hart = hart; mapping = m } ∷ []) k)) hart
        (subst (λ f. FenceStands f (removals_by (removals ++ record { hart = hart; mapping = m } ∷ []) hart)) (sym (fence_of-set_same fences hart _ there))
        (inl (m, removals_by-begun removals hart m none, refl, refl)))
        (λ k other. subst (λ f. FenceStands f (removals_by (removals ++ record { hart = hart; mapping = m } ∷ []) k)) (sym (fence_of-set_other fences hart k _ other))
        (subst (FenceStands (fence_of fences k)) (sym (removals_by-begun_other removals hart k m other)) (agree.each k)));
  }

  -- its removals end
  pub fences_ended : FencesStand harts (slice_set fences hart None) (filter (λ (r : Removal). not (eqb r.hart hart)) removals)
  fences_ended = record {
    size = length-set fences hart None ∙ agree.size;
    needs_others = left_fits fences hart there agree.needs_others;
    each = everywhere (λ k. FenceStands (fence_of (slice_set fences hart None) k) (removals_by (filter (λ (r : Removal). not (eqb r.hart hart)) removals) k)) hart
        (subst (λ f. FenceStands f (removals_by (filter (λ (r : Removal). not (eqb r.hart hart)) removals) hart)) (sym (fence_of-set_same fences hart None there)) (removals_by-ended removals hart))
        (λ k other. subst (λ f. FenceStands f (removals_by (filter (λ (r : Removal). not (eqb r.hart hart)) removals) k)) (sym (fence_of-set_other fences hart k None other))
        (subst (FenceStands (fence_of fences k)) (sym (removals_by-ended_other removals hart k other)) (agree.each k)));
  }

  -- a hart with a fence removes a mapping, or has one of a number, so one that does neither has none
  pub no_fence : IsOfHost (fence_of fences hart) → removals_by removals hart ≡ [] → fence_of fences hart ≡ None
  no_fence of_host none = by_fence (fence_of fences hart) of_host (agree.each hart)
    where
      by_fence : (o : Option Fence) → IsOfHost o → FenceStands o (removals_by removals hart) → o ≡ None
      by_fence None host is = refl
      by_fence (Some fence) host (inl (m, removed, space, vpn)) = (let h : [] ≡ m ∷ [] = sym none ∙ removed in cc)
      by_fence (Some fence) host (inr (e, of_number, empty)) = absurd (number_not_host fence e of_number host)

  -- it acknowledges the fence of another
  pub fences_acked : (requester : ℕ) (fence : Fence) → fence_of fences requester ≡ Some fence → requester < length fences → FencesStand harts (acked fences hart requester) removals
  fences_acked requester fence is posted_there = record {
    size = length-set fences requester _ ∙ agree.size;
    needs_others = acked_all fences hart requester posted_there agree.needs_others;
    each = everywhere (λ k. FenceStands (fence_of (acked fences hart requester) k) (removals_by removals k)) requester
        (subst (λ f. FenceStands f (removals_by removals requester)) (sym (acked_same fences hart requester fence is posted_there agree.needs_others.few there))
        (subst (λ f. FenceStands f (removals_by removals requester)) is (agree.each requester)))
        (λ k other. subst (λ f. FenceStands f (removals_by removals k)) (sym (fence_of-set_other fences requester k _ other)) (agree.each k));
  }

  -- a hart that removes nothing begins to give a number back, or broke a page of it
  pub fences_posted : (e : ℕ) (vpn : Option Vpn) → removals_by removals hart ≡ [] → FencesStand harts (posted fences hart (record { 0 = e + 1 }) vpn) removals
  fences_posted e vpn none = record {
    size = length-set fences hart _ ∙ agree.size;
    needs_others = posted_fits fences hart (record { 0 = e + 1 }) vpn there agree.needs_others;
    each = everywhere (λ k. FenceStands (fence_of (posted fences hart (record { 0 = e + 1 }) vpn) k) (removals_by removals k)) hart
        (subst (λ f. FenceStands f (removals_by removals hart)) (sym (fence_of-set_same fences hart _ there)) (inr (e, refl, none)))
        (λ k other. subst (λ f. FenceStands f (removals_by removals k)) (sym (fence_of-set_other fences hart k _ other)) (agree.each k));
  }

  pub fences_giving : (e : ℕ) → removals_by removals hart ≡ [] → FencesStand harts (posted fences hart (record { 0 = e + 1 }) None) removals
  fences_giving e none = fences_posted e None none

  -- the number is given back, or the instruction starts anew
  pub fences_given : removals_by removals hart ≡ [] → FencesStand harts (slice_set fences hart None) removals
  fences_given none = record {
    size = length-set fences hart None ∙ agree.size;
    needs_others = left_fits fences hart there agree.needs_others;
    each = everywhere (λ k. FenceStands (fence_of (slice_set fences hart None) k) (removals_by removals k)) hart
        (subst (λ f. FenceStands f (removals_by removals hart)) (sym (fence_of-set_same fences hart None there)) none)
        (λ k other. subst (λ f. FenceStands f (removals_by removals k)) (sym (fence_of-set_other fences hart k None other)) (agree.each k));
  }
