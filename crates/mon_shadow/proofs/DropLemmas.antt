-- A drop is refused exactly where it may not be made, and gives the shadow's number back.
use Rattle.std.proofs.Common.{ℕ, ◌≡◌, ◌+◌, ◌-◌, ◌<◌, ◌≤◌, suc, length, Bool, true, false, not, List, [], ◌∷◌, find, get_or, Option, Some, None, option_map, refl, ap, sym, subst, ◌∙◌, arith}
use Rattle.std.specs.List.{range_with_len}
use Rattle.std.proofs.lemmas.Bool.{cond-true, cond-false}
use Rattle.std.proofs.lemmas.List.FromFn.{get_or-range_with_len, length-range_with_len}
use Rattle.pl_base.specs.declared.refusal.No.{No}
use Rattle.pl_base.specs.declared.refusal.No.TheVariants.{InUse, NoEnclave}
use Rattle.pl_base.specs.Refusals.{refuse}
use Rattle.pl_base.specs.States.{is_sealed}
use Rattle.mem_ctl.specs.Data.{CtlData}
use Rattle.mon_owner.specs.declared.owners.Owner.{Owner}
use Rattle.mon_owner.specs.declared.owners.Owner.TheVariants.{Host}
use Rattle.mon_owner.proofs.OwnerLists.{length-given_to}
use Rattle.mon_enclave.specs.declared.enclave.Enclave.{Enclave}
use Rattle.mon_enclave.specs.Records.{enclave_at}
use Rattle.mon_life.specs.Destroying.{held_by}
use Rattle.mon_life.specs.Laws.{IsGivenBack}
use Rattle.mon_life.proofs.BegunLemmas.{finds_none, no_cause, none_of, none_passes, not_mapped, not_refused}
use Rattle.mon_life.proofs.DestroyLaws.{is_given_back}
use Rattle.mon_life.proofs.GivenBack.{off_chip_alone}
use Rattle.mon_shadow.specs.Dropping.{ShadowDropped, drop_refusal_of, dropped_unless, first_child_of, is_child_of, shadow_dropped}
use Rattle.mon_shadow.specs.Laws.{DropsAreRefused, MayDrop, ShadowsAreGivenBack}

-- ---- the first number that passes a test, from one on

module _ (test : ℕ → Bool) (at n : ℕ) where
  left : at < n → range_with_len at (n - at) ≡ at ∷ range_with_len (at + 1) (n - (at + 1))
  left below = (let more : n - at ≡ suc (n - (at + 1)) = omega arith in ap (range_with_len at) more)

  pub found_here : at < n → test at ≡ true → find test (range_with_len at (n - at)) ≡ Some at
  found_here below holds = ap (find test) (left below) ∙ cond-true _ _ _ holds

  pub found_later : at < n → test at ≡ false → find test (range_with_len at (n - at)) ≡ find test (range_with_len (at + 1) (n - (at + 1)))
  found_later below fails = ap (find test) (left below) ∙ cond-false _ _ _ fails

  pub found_nowhere : n ≤ at → find test (range_with_len at (n - at)) ≡ None
  found_nowhere past = (let none : n - at ≡ 0 = omega arith in ap (λ m. find test (range_with_len at m)) none)

-- ---- refused exactly where it may not be made

module _ (enclaves : List Enclave) (shadow : ℕ) where
  abbrev is_child : ℕ → Bool
  is_child child = is_child_of shadow (enclave_at enclaves child)

  abbrev numbers : List ℕ
  numbers = range_with_len 0 (length enclaves)

  abbrev sealed : Option No
  sealed = refuse (not (is_sealed (enclave_at enclaves shadow).state)) NoEnclave

  abbrev in_use : ℕ → No
  in_use child = InUse (record { 0 = child })

  nth : (k d : ℕ) → k < length enclaves → get_or numbers k d ≡ k
  nth k d below = get_or-range_with_len 0 (length enclaves) k d below ∙ omega arith

  may_drop : drop_refusal_of enclaves shadow ≡ None → MayDrop enclaves shadow
  may_drop none =
      let used : Option No = option_map in_use (first_child_of enclaves shadow) in
      let after_sealed = no_cause sealed (used ∷ []) none in
      let after_used = no_cause used [] after_sealed.1 in
      let none_is = none_passes is_child numbers (not_mapped in_use (first_child_of enclaves shadow) after_used.0) in
      record {
        sealed = not_refused (is_sealed (enclave_at enclaves shadow).state) NoEnclave after_sealed.0;
        childless = λ child below. subst (λ c. is_child c ≡ false) (nth child 0 below)
            (none_is child 0 (subst (λ m. child < m) (sym (length-range_with_len 0 (length enclaves))) below));
      }

  not_refused_where_it_may : MayDrop enclaves shadow → drop_refusal_of enclaves shadow ≡ None
  not_refused_where_it_may may =
      let used : Option No = option_map in_use (first_child_of enclaves shadow) in
      let none : first_child_of enclaves shadow ≡ None = finds_none is_child numbers (λ k d within. (
      let below : k < length enclaves = subst (λ m. k < m) (length-range_with_len 0 (length enclaves)) within in
      subst (λ c. is_child c ≡ false) (sym (nth k d below)) (may.childless k below))) in
      none_of sealed (used ∷ []) (ap (λ b. refuse (not b) NoEnclave) may.sealed) (none_of used [] (ap (option_map in_use) none) refl)

pub drops_are_refused : DropsAreRefused
drops_are_refused enclaves shadow = (may_drop enclaves shadow, not_refused_where_it_may enclaves shadow)

-- ---- what it leaves

module _ (ctl : CtlData) (owners : List Owner) (enclaves : List Enclave) (shadow : ℕ) where
  dropped_is : (cause : Option No) → (dropped_unless cause ctl owners enclaves shadow).refusal ≡ None
      → dropped_unless None ctl owners enclaves shadow ≡ dropped_unless cause ctl owners enclaves shadow
  dropped_is (Some cause) none = cc
  dropped_is None none = refl

  zones_stay : (cause : Option No) → (dropped_unless cause ctl owners enclaves shadow).ctl.zones ≡ ctl.zones
  zones_stay (Some cause) = refl
  zones_stay None = ap (λ (x : CtlData). x.zones) (off_chip_alone ctl (held_by enclaves shadow))

  owners_stay : (cause : Option No) → length (dropped_unless cause ctl owners enclaves shadow).owners ≡ length owners
  owners_stay (Some cause) = refl
  owners_stay None = length-given_to owners (Host 0) (held_by enclaves shadow)

  -- refused or not, there are as many zones and pages as before
  pub as_many_zones : (shadow_dropped ctl owners enclaves shadow).ctl.zones ≡ ctl.zones
  unfolding shadow_dropped
  as_many_zones = zones_stay (drop_refusal_of enclaves shadow)

  pub as_many_pages : length (shadow_dropped ctl owners enclaves shadow).owners ≡ length owners
  unfolding shadow_dropped
  as_many_pages = owners_stay (drop_refusal_of enclaves shadow)

pub shadows_are_given_back : (d : List ℕ → List ℕ) → ShadowsAreGivenBack d
unfolding shadow_dropped
shadows_are_given_back d ctl owners enclaves shadow kept sizes number inside none =
    subst (λ (now : ShadowDropped). IsGivenBack d ctl now.ctl owners now.owners enclaves now.enclaves shadow)
    (dropped_is ctl owners enclaves shadow (drop_refusal_of enclaves shadow) none) (is_given_back d ctl owners enclaves shadow kept sizes number inside)
