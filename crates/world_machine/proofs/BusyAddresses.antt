-- A removal of an address is under way in the monitor exactly where a fence is of it.
use Rattle.std.proofs.Common.{◌≡◌, ℕ, zero, suc, eqb, ◌&&◌, ◌||◌, Bool, true, false, cond, List, [], ◌∷◌, length, find, filter, map, Option, Some, None, is_some, option_map, refl, sym, ap, ◌∙◌, subst, arith, inl, inr}
use Rattle.std.specs.Prelude.{Contains}
use Rattle.std.specs.Cmp.{both_ways}
use Rattle.std.specs.List.{list_any}
use Rattle.std.specs.Option.{option_map_or}
use Rattle.std.proofs.lemmas.Bool.{and_parts, cases_Bool, cond-true, cond-false, eq-eqb, eqb-true, false≢true}
use Rattle.pl_base.specs.Address.{vpn_of}
use Rattle.pl_base.specs.declared.address.Va.{Va}
use Rattle.pl_base.specs.declared.address.Vpn.{Vpn}
use Rattle.pl_base.specs.declared.number.Space.{Space}
use Rattle.mon_fence.specs.declared.fences.Fence.{Fence}
use Rattle.mon_fence.specs.Fences.{covers, fence_of}
use Rattle.mon_host.specs.Leaves.{host_space, is_being_removed}
use Rattle.mon_tables.specs.Space.{Mapping}
use Rattle.pl_history.specs.Monitor.{Removal, removed_at}
use Rattle.world_machine.specs.FencesStand.{FenceStands, FencesStand, removals_by}
use Rattle.world_machine.proofs.Leaving.{number_not_host}

-- ---- a test of the fences

any_place : (test : Option Fence → Bool) (fences : List (Option Fence)) → list_any test fences ≡ true → (hart : ℕ) × (test (fence_of fences hart) ≡ true)
any_place test [] is = absurd (false≢true is)
any_place test (fence ∷ fences) is = elim (cases_Bool (test fence)) [
  | inl here ↦ (0, here)
  | inr later ↦ (let place = any_place test fences (sym (ap (λ b. b || list_any test fences) later) ∙ is) in (suc place.0, place.1))
]

any_at : (test : Option Fence → Bool) → test None ≡ false → (fences : List (Option Fence)) (hart : ℕ) → test (fence_of fences hart) ≡ true → list_any test fences ≡ true
any_at test none [] hart is = absurd (false≢true (sym none ∙ is))
any_at test none (fence ∷ fences) zero is = ap (λ b. b || list_any test fences) is
any_at test none (fence ∷ fences) (suc hart) is = elim (cases_Bool (test fence)) [
  | inl here ↦ ap (λ b. b || list_any test fences) here
  | inr later ↦ ap (λ b. b || list_any test fences) later ∙ any_at test none fences hart is
]

-- ---- removals

is_at : ℕ → Removal → Bool
is_at vpn r = eqb r.mapping.vpn vpn

one_more : (m n : Mapping) (ms : List Mapping) → Contains ms m → Contains (n ∷ ms) m
one_more m n ms here = (suc here.0, (let below = here.1 in omega arith), here.2)

-- a removal of a page is one of its hart
found_by : (vpn : ℕ) (removals : List Removal) (r : Removal) → find (is_at vpn) removals ≡ Some r → Contains (removals_by removals r.hart) r.mapping × (r.mapping.vpn ≡ vpn)
unfolding is_at
found_by vpn [] r is = (let clash : None ≡ Some r = is in cc)
found_by vpn (x ∷ rest) r is = elim (cases_Bool (eqb x.mapping.vpn vpn)) [
  | inl here ↦
      let same : x ≡ r = (let h : Some x ≡ Some r = sym (cond-true _ _ _ here) ∙ is in cc) in
      subst (λ (y : Removal). Contains (removals_by (x ∷ rest) y.hart) y.mapping × (y.mapping.vpn ≡ vpn)) same
      (rw (eq-eqb x.hart x.hart refl) (0, omega arith, refl), eqb-true x.mapping.vpn vpn here)
  | inr later ↦
      let below = found_by vpn rest r (sym (cond-false _ _ _ later) ∙ is) in
      (onward below.0, below.1)
]
  where
    onward : Contains (removals_by rest r.hart) r.mapping → Contains (removals_by (x ∷ rest) r.hart) r.mapping
    onward here = elim (cases_Bool (eqb x.hart r.hart)) [
      | inl own ↦ rw own (one_more r.mapping x.mapping (removals_by rest r.hart) here)
      | inr other ↦ rw other here
    ]

-- and a removal of a hart is found
finds : (removals : List Removal) (hart : ℕ) (m : Mapping) → Contains (removals_by removals hart) m → is_some (find (is_at m.vpn) removals) ≡ true
unfolding is_at
finds [] hart m here = (let below = here.1 in absurd (omega arith))
finds (x ∷ rest) hart m here = elim (cases_Bool (eqb x.mapping.vpn m.vpn)) [
  | inl found ↦ ap is_some (cond-true _ _ _ found)
  | inr other ↦ ap is_some (cond-false _ _ _ other) ∙ finds rest hart m (later other (eqb x.hart hart) refl here)
]
  where
    in_rest : (n : Mapping) (ms : List Mapping) → eqb n.vpn m.vpn ≡ false → Contains (n ∷ ms) m → Contains ms m
    in_rest n ms apart (zero, below, is) = absurd (false≢true (sym apart ∙ eq-eqb n.vpn m.vpn (ap (λ (y : Mapping). y.vpn) is)))
    in_rest n ms apart (suc i, below, is) = (i, omega arith, is)

    by_test : Bool → List Mapping
    by_test b = map (λ (r : Removal). r.mapping) (cond b (x ∷ filter (λ (r : Removal). eqb r.hart hart) rest) (filter (λ (r : Removal). eqb r.hart hart) rest))

    later : eqb x.mapping.vpn m.vpn ≡ false → (b : Bool) → eqb x.hart hart ≡ b → Contains (removals_by (x ∷ rest) hart) m → Contains (removals_by rest hart) m
    later apart true own among = in_rest x.mapping (removals_by rest hart) apart (subst (λ b. Contains (by_test b) m) own among)
    later apart false others among = subst (λ b. Contains (by_test b) m) others among

some_mapped : (o : Option Removal) → is_some (option_map (λ (r : Removal). r.mapping) o) ≡ is_some o
some_mapped None = refl
some_mapped (Some r) = refl

-- ---- both

module _ (harts : ℕ) (fences : List (Option Fence)) (removals : List Removal) (agree : FencesStand harts fences removals) (va : Va) where
  vpn : Vpn
  vpn = vpn_of va

  -- a fence that covers the address is none of a number, so it is of a mapping that is being removed
  covering : (fence : Option Fence) (removed : List Mapping) → FenceStands fence removed → covers host_space (vpn_of va) fence ≡ true → (m : Mapping) × (removed ≡ m ∷ []) × (m.vpn ≡ (vpn_of va).0)
  covering None removed agrees is = absurd (false≢true is)
  covering (Some fence) removed (inl (m, taken, space, at)) is =
      let page : option_map_or (λ (page : Vpn). eqb page.0 (vpn_of va).0) fence.vpn true ≡ true
      = (and_parts (eqb fence.space.0 host_space.0) (option_map_or (λ (page : Vpn). eqb page.0 (vpn_of va).0) fence.vpn true) is).1 in
      (m, taken, eqb-true m.vpn (vpn_of va).0 (ap (λ o. option_map_or (λ (page : Vpn). eqb page.0 (vpn_of va).0) o true) (sym at) ∙ page))
  covering (Some fence) removed (inr (e, of_number, none)) is =
      let host : fence.space.0 ≡ 0 = eqb-true fence.space.0 0 (and_parts (eqb fence.space.0 0) (option_map_or (λ (page : Vpn). eqb page.0 (vpn_of va).0) fence.vpn true) is).0 in
      absurd (number_not_host fence e of_number (λ i. record { 0 = host i }))

  -- the fence of a hart that removes a mapping of the address covers it
  covered : (fence : Option Fence) (removed : List Mapping) (m : Mapping) → FenceStands fence removed → Contains removed m → m.vpn ≡ (vpn_of va).0 → covers host_space (vpn_of va) fence ≡ true
  covered None removed m agrees (i, below, is) at = absurd (let none : length removed ≡ 0 = ap length agrees in omega arith)
  covered (Some fence) removed m (inr (e, of_number, none)) (i, below, is) at = absurd (let empty : length removed ≡ 0 = ap length none in omega arith)
  covered (Some fence) removed m (inl (gone, taken, space, page)) here at =
      let same : gone ≡ m = one gone (subst (λ ms. Contains ms m) taken here) in
      ap (λ (space : Space). eqb space.0 host_space.0 && option_map_or (λ (page : Vpn). eqb page.0 (vpn_of va).0) fence.vpn true) space
      ∙ ap (λ o. option_map_or (λ (page : Vpn). eqb page.0 (vpn_of va).0) o true) page
      ∙ eq-eqb gone.vpn (vpn_of va).0 (ap (λ (x : Mapping). x.vpn) same ∙ at)
    where
      one : (gone : Mapping) → Contains (gone ∷ []) m → gone ≡ m
      one gone (zero, below, is) = is
      one gone (suc i, below, is) = absurd (omega arith)

  pub busy_same : is_some (removed_at removals (vpn_of va).0) ≡ is_being_removed fences va
  unfolding is_at
  busy_same = both_ways _ _ from_removal_of to_removal
    where
      from_removal : (o : Option Removal) → find (is_at (vpn_of va).0) removals ≡ o → is_some o ≡ true → is_being_removed fences va ≡ true
      from_removal None found is = absurd (false≢true is)
      from_removal (Some r) found is =
          let by = found_by (vpn_of va).0 removals r found in
          any_at (covers host_space (vpn_of va)) refl fences r.hart (covered (fence_of fences r.hart) (removals_by removals r.hart) r.mapping (agree.each r.hart) by.0 by.1)

      from_removal_of : is_some (removed_at removals (vpn_of va).0) ≡ true → is_being_removed fences va ≡ true
      from_removal_of is = from_removal (find (is_at (vpn_of va).0) removals) refl (sym (some_mapped (find (is_at (vpn_of va).0) removals)) ∙ is)

      to_removal : is_being_removed fences va ≡ true → is_some (removed_at removals (vpn_of va).0) ≡ true
      to_removal is =
          let place = any_place (covers host_space (vpn_of va)) fences is in
          let by = covering (fence_of fences place.0) (removals_by removals place.0) (agree.each place.0) place.1 in
          some_mapped (find (is_at (vpn_of va).0) removals) ∙ subst (λ n. is_some (find (is_at n) removals) ≡ true) by.2
          (finds removals place.0 by.0 (subst (λ ms. Contains ms by.0) (sym by.1) (0, omega arith, refl)))
