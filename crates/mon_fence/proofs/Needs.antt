-- A fence needs only harts that there are, and never its own: what each call keeps.
use Rattle.std.proofs.Common.{◌≡◌, ◌≢◌, ℕ, ◌≤◌, ◌<◌, eqb, true, List, length, set, drop, position, replicate, slice_set, unwrap_or, Option, Some, None, length-set, ap, sym, ◌∙◌, subst, arith, inl, inr, ltb, not, ◌&&◌, option_map, refl}
use Rattle.std.proofs.lemmas.Bool.{cases_Bool, cases_lt, eqb-true, eqb-false, false≢true}
use Rattle.std.proofs.lemmas.List.{get_or-set_same, get_or-set_other, get_or-replicate, length-replicate}
use Rattle.std.proofs.Math.Seq.{take-append_seam}
use Rattle.std.proofs.lemmas.List.Quantifiers.{position-Some}
use Rattle.std.specs.List.{refill}
use Rattle.std.specs.Option.{IsSomeAnd}
use Rattle.std.proofs.lemmas.Option.{unwrap_or-slice_get, slice_get_past}
use Rattle.pl_base.specs.declared.address.Vpn.{Vpn}
use Rattle.pl_base.specs.declared.number.Space.{Space}
use Rattle.pl_base.specs.HartSet.{without_hart}
use Rattle.mon_fence.specs.declared.fences.Fence.{Fence}
use Rattle.mon_fence.specs.Fences.{fence_of, needs, AreFences, posted, acked, without_need}
use Rattle.mon_fence.proofs.HartSets.{others_than, has_hart-without, others_exactly}

pub fence_of-set_same : (fences : List (Option Fence)) (r : ℕ) (now : Option Fence) → r < length fences → fence_of (slice_set fences r now) r ≡ now
fence_of-set_same fences r now below = unwrap_or-slice_get (set fences r now) r None ∙ get_or-set_same fences r now None below

pub fence_of-set_other : (fences : List (Option Fence)) (r k : ℕ) (now : Option Fence) → k ≢ r → fence_of (slice_set fences r now) k ≡ fence_of fences k
fence_of-set_other fences r k now other =
    unwrap_or-slice_get (set fences r now) k None ∙ get_or-set_other fences r k now None other ∙ sym (unwrap_or-slice_get fences k None)

-- one fence changed, and the new one fits
pub changed_fits : (fences : List (Option Fence)) (r : ℕ) (now : Option Fence) → r < length fences → AreFences fences
    → ((k : ℕ) → needs now k ≡ true → (k < length fences) × (k ≢ r)) → AreFences (slice_set fences r now)
changed_fits fences r now below are fits = record {
  few = subst (λ n. n ≤ 8) (sym (length-set fences r now)) are.few;
  others = λ q k needed. elim (cases_Bool (eqb q r)) [
    | inl same ↦
        let is : q ≡ r = eqb-true q r same in
        let f : (k < length fences) × (k ≢ r) = fits k (subst (λ o. needs o k ≡ true) (ap (λ p. fence_of (slice_set fences r now) p) is ∙ fence_of-set_same fences r now below) needed) in
        (subst (λ n. k < n) (sym (length-set fences r now)) f.0, λ p. f.1 (p ∙ is))
    | inr other ↦
        let f : (k < length fences) × (k ≢ q) = are.others q k (subst (λ o. needs o k ≡ true) (fence_of-set_other fences r q now (eqb-false q r other)) needed) in
        (subst (λ n. k < n) (sym (length-set fences r now)) f.0, f.1)
  ];
}

pub posted_fits : (fences : List (Option Fence)) (h : ℕ) (space : Space) (vpn : Option Vpn) → h < length fences → AreFences fences → AreFences (posted fences h space vpn)
posted_fits fences h space vpn below are = changed_fits fences h _ below are (λ k needed. others_than (length fences) h k (omega (arith, are.few)) needed)

pub acked_fits : (fences : List (Option Fence)) (h r : ℕ) (fence : Fence) → r < length fences → AreFences fences → Some fence ≡ fence_of fences r
    → AreFences (slice_set fences r (Some (record fence { need = without_hart fence.need h })))
acked_fits fences h r fence below are is = changed_fits fences r _ below are (λ k needed.
    are.others r k (subst (λ o. needs o k ≡ true) is (has_hart-without fence.need h k needed)))

pub left_fits : (fences : List (Option Fence)) (r : ℕ) → r < length fences → AreFences fences → AreFences (slice_set fences r None)
left_fits fences r below are = changed_fits fences r None below are (λ k needed. absurd (false≢true needed))

fence_of-replicate : (harts q : ℕ) → fence_of (replicate harts None) q ≡ None
fence_of-replicate harts q = elim (cases_lt q harts) [
  | inr past ↦ ap (λ o. unwrap_or o None) (slice_get_past (replicate {A = Option Fence} harts None) q (rw length-replicate past))
  | inl below ↦ unwrap_or-slice_get (replicate harts None) q None ∙ get_or-replicate harts q None None below
]

pub none_fit : (harts : ℕ) → harts ≤ 8 → AreFences (replicate harts None)
none_fit harts few = record {
  few = rw length-replicate few;
  others = λ q k needed. absurd (false≢true (subst (λ o. needs o k ≡ true) (fence_of-replicate harts q) needed));
}

-- what is written back of a slice of the list is the slice
pub refill_whole : (xs ws : List (Option Fence)) → length ws ≡ length xs → refill (length xs) xs ws ≡ ws
refill_whole xs ws same = subst (λ n. refill n xs ws ≡ ws) same (take-append_seam ws (drop (length ws) xs))

-- the first fence that needs hart h is there, and needs it
pub first_needs : (fences : List (Option Fence)) (h place : ℕ) → position (λ fence. needs fence h) fences ≡ Some place → (place < length fences) × (needs (fence_of fences place) h ≡ true)
first_needs fences h place is =
    let p = position-Some (λ fence. needs fence h) fences place None is in
    (p.0, ap (λ o. needs o h) (unwrap_or-slice_get fences place None) ∙ p.1)

-- a hart that has a fence is there
pub posted_there : (P : Fence → Type 0) (fences : List (Option Fence)) (h : ℕ) → IsSomeAnd (fence_of fences h) P → h < length fences
posted_there P fences h has = elim (cases_lt h (length fences)) [
  | inl below ↦ below
  | inr past ↦ absurd (subst (λ o. IsSomeAnd (unwrap_or o None) P) (slice_get_past fences h past) has)
]

-- ---- the laws

pub acked_all : (fences : List (Option Fence)) (h r : ℕ) → r < length fences → AreFences fences → AreFences (acked fences h r)
acked_all fences h r below are = by_case (fence_of fences r) refl
  where
    by_case : (o : Option Fence) → fence_of fences r ≡ o → AreFences (slice_set fences r (option_map (without_need h) (fence_of fences r)))
    by_case None is = rw is (left_fits fences r below are)
    by_case (Some fence) is = rw is (acked_fits fences h r fence below are (sym is))

pub posted_all : (fences : List (Option Fence)) (h : ℕ) (space : Space) (vpn : Option Vpn) (k : ℕ) → AreFences fences → h < length fences
    → needs (fence_of (posted fences h space vpn) h) k ≡ (ltb k (length fences) && not (eqb k h))
posted_all fences h space vpn k are below = ap (λ o. needs o k) (fence_of-set_same fences h _ below) ∙ others_exactly (length fences) h k are.few below
