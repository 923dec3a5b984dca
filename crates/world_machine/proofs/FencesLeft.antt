-- What the fences of all harts still need: more where one is posted, and less where one is left or acknowledged.
use Rattle.std.proofs.Common.{◌≡◌, ℕ, zero, suc, ◌+◌, ◌*◌, ◌<◌, ◌≤◌, Bool, true, false, cond, List, length, sum_by, Option, Some, None, refl, sym, ap, subst, arith}
use Rattle.std.specs.Prelude.{slice_set, count_by, option_map, Result, Ok, Err}
use Rattle.std.specs.List.{range_with_len}
use Rattle.std.proofs.lemmas.Bool.{false≢true}
use Rattle.std.proofs.lemmas.List.FromFn.{length-range_with_len}
use Rattle.std.proofs.lemmas.List.Sums.{count_by-le-length, sum_by-cons}
use Rattle.pl_base.specs.declared.refusal.No.{No}
use Rattle.pl_base.specs.HartSet.{has_hart, without_hart}
use Rattle.mem_ctl.specs.Data.{Again, Collision, Fault, Outcome, Value}
use Rattle.mon_fence.proofs.HartSets.{has_hart-without, has_hart-without_same}
use Rattle.mon_fence.specs.declared.fences.Fence.{Fence}
use Rattle.mon_fence.specs.Fences.{AreFences, acked, fence_of, needs, without_need}
use Rattle.mon_host.specs.Leaves.{if_done}
use Rattle.world_attack.proofs.RoomLemmas.{sum_drops}
use Rattle.world_machine.specs.Runs.{fence_left}
use Rattle.world_machine.proofs.Sums.{set_at_most, set_changes}

-- what the fences of so many harts need
abbrev pub needs_left : ℕ → List (Option Fence) → ℕ
needs_left harts fences = sum_by (fence_left harts) fences

-- ---- one fence more, and one less

fence_few : (harts : ℕ) (fence : Option Fence) → fence_left harts fence ≤ 8 * harts
fence_few harts fence = omega (arith, count_by-le-length (needs fence) (range_with_len 0 harts), length-range_with_len 0 harts)

pub posted_more : (harts : ℕ) (fences : List (Option Fence)) (hart : ℕ) (fence : Option Fence) → needs_left harts (slice_set fences hart fence) ≤ needs_left harts fences + 8 * harts
posted_more harts fences hart fence = omega (arith, set_at_most (fence_left harts) fences hart fence, fence_few harts fence)

-- whatever the event that posts it comes to
pub done_more : {A : Type 0} (harts : ℕ) (fences : List (Option Fence)) (hart : ℕ) (fence : Option Fence) (o : Outcome (Result A No))
    → needs_left harts (if_done o (slice_set fences hart fence) fences) ≤ needs_left harts fences + 8 * harts
done_more harts fences hart fence (Value (Ok value)) = posted_more harts fences hart fence
done_more harts fences hart fence (Value (Err cause)) = omega arith
done_more harts fences hart fence (Fault place) = omega arith
done_more harts fences hart fence (Collision place held written) = omega arith
done_more harts fences hart fence (Again taken root) = omega arith

no_terms : (from n : ℕ) → sum_by (λ (x : ℕ). 0) (range_with_len from n) ≤ 0
no_terms from zero = omega arith
no_terms from (suc n) = omega (arith, sum_by-cons (λ (x : ℕ). 0) from (range_with_len (from + 1) n), no_terms (from + 1) n)

pub left_less : (harts : ℕ) (fences : List (Option Fence)) (hart : ℕ) → needs_left harts (slice_set fences hart None) ≤ needs_left harts fences
left_less harts fences hart =
    let nothing : fence_left harts None ≤ 0 = (let n = no_terms 0 harts in omega arith) in
    omega (arith, set_at_most (fence_left harts) fences hart None)

-- ---- an acknowledgement

one_or_none : (a b : Bool) → (a ≡ true → b ≡ true) → cond a 1 0 ≤ cond b 1 0
one_or_none true true implies = omega arith
one_or_none true false implies = absurd (false≢true (implies refl))
one_or_none false b implies = omega arith

-- a fence that needed this hart needs one less
without_less : (harts hart : ℕ) (fence : Fence) → hart < harts → hart < 8 → has_hart fence.need hart ≡ true
    → fence_left harts (Some (without_need hart fence)) + 8 ≤ fence_left harts (Some fence)
without_less harts hart fence below small is_needed =
    let gone : cond {A = ℕ} (has_hart (without_hart fence.need hart) hart) 1 0 ≡ 0 = ap (λ b. cond {A = ℕ} b 1 0) (has_hart-without_same fence.need hart small) in
    let was : cond {A = ℕ} (has_hart fence.need hart) 1 0 ≡ 1 = ap (λ b. cond {A = ℕ} b 1 0) is_needed in
    let counts : count_by (needs (Some (without_need hart fence))) (range_with_len 0 harts) + 1 ≤ count_by (needs (Some fence)) (range_with_len 0 harts)
    = sum_drops (λ h. cond (has_hart fence.need h) 1 0) (λ h. cond (has_hart (without_hart fence.need hart) h) 1 0) hart 0 harts (omega arith) (omega arith)
    (λ h. one_or_none (has_hart (without_hart fence.need hart) h) (has_hart fence.need h) (has_hart-without fence.need hart h)) (omega (arith, gone, was)) in
    omega arith

pub acked_less : (harts : ℕ) (fences : List (Option Fence)) (hart requester : ℕ) (fence : Fence) → AreFences fences → length fences ≡ harts → requester < length fences
    → fence_of fences requester ≡ Some fence → needs (Some fence) hart ≡ true → needs_left harts (acked fences hart requester) + 8 ≤ needs_left harts fences
acked_less harts fences hart requester fence are size there is is_needed =
    let inside : hart < length fences = (are.others requester hart (subst (λ o. needs o hart ≡ true) (sym is) is_needed)).0 in
    let few : length fences ≤ 8 = are.few in
    let less = without_less harts hart fence (omega arith) (omega arith) is_needed in
    let sums = set_changes (fence_left harts) fences requester (option_map (without_need hart) (fence_of fences requester)) None there in
    let old : fence_left harts (fence_of fences requester) ≡ fence_left harts (Some fence) = ap (fence_left harts) is in
    let new : fence_left harts (option_map (without_need hart) (fence_of fences requester)) ≡ fence_left harts (Some (without_need hart fence))
    = ap (λ o. fence_left harts (option_map (without_need hart) o)) is in
    omega (arith, less, sums, old, new)
