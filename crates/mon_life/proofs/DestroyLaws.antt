-- When a number may be given back, and what that leaves.
use Rattle.std.proofs.Common.{ℕ, ◌≡◌, ◌*◌, ◌/◌, ◌<◌, ◌≤◌, Bool, true, false, List, [], ◌∷◌, length, All, Any, eqb, Option, Some, None, refl, ap, sym, subst, ◌∙◌, arith, inl, inr}
use Rattle.std.proofs.lemmas.Bool.{and_from, cases_Bool, eq-eqb, eqb-true}
use Rattle.std.proofs.lemmas.List.Elements.{All-weaker}
use Rattle.std.proofs.lemmas.List.Folds.{Any-from_list_any}
use Rattle.pl_base.specs.declared.refusal.No.{No}
use Rattle.pl_base.specs.declared.refusal.No.TheVariants.{NoEnclave, WrongState}
use Rattle.pl_base.specs.declared.state.State.TheVariants.{Dying}
use Rattle.pl_base.specs.HartSet.{space_of_number}
use Rattle.pl_base.specs.Pages.{is_among}
use Rattle.pl_base.specs.Refusals.{first_refusal, refuse}
use Rattle.pl_base.specs.States.{is_absent, is_under_way}
use Rattle.mem_ctl.specs.Data.{CtlData}
use Rattle.mem_ctl.specs.TreesHold.{IsKept}
use Rattle.mem_ctl.proofs.KeptLaws.{off_chip_is_free}
use Rattle.mon_fence.specs.declared.fences.Fence.{Fence}
use Rattle.mon_fence.specs.Fences.{covers, fence_of, posted}
use Rattle.mon_fence.proofs.Needs.{fence_of-set_other, fence_of-set_same}
use Rattle.mon_owner.specs.declared.owners.Owner.{Owner}
use Rattle.mon_owner.specs.declared.owners.Owner.TheVariants.{Host}
use Rattle.mon_owner.specs.Owners.{given_to}
use Rattle.mon_owner.proofs.OwnerLists.{given_listed, given_other, length-given_to}
use Rattle.mon_enclave.specs.declared.enclave.Enclave.{Enclave}
use Rattle.mon_enclave.specs.Records.{enclave_at, freed, with_enclave}
use Rattle.mon_enclave.proofs.RecordLists.{other_record, record_there}
use Rattle.mon_life.specs.Destroying.{DestroyBegun, all_zeroed, destroy_begun, destroy_ended, destroy_refusal_of, dying_unless, held_by}
use Rattle.mon_life.specs.Putting.{in_state}
use Rattle.mon_life.specs.Laws.{DestroysBegin, IsGivenBack, NumbersAreGivenBack}
use Rattle.mon_life.proofs.GivenBack.{FitsIn, length-all_zeroed, listed_zero, off_chip_alone, other_bytes, other_pages}

-- ---- it begins

pub neither : (absent under_way : Bool) (first second : No) → first_refusal (refuse absent first ∷ refuse under_way second ∷ []) ≡ None
    → (absent ≡ false) × (under_way ≡ false)
neither true under_way first second none = cc
neither false true first second none = cc
neither false false first second none = (refl, refl)

pub neither_refuses : (absent under_way : Bool) (first second : No) → absent ≡ false → under_way ≡ false
    → first_refusal (refuse absent first ∷ refuse under_way second ∷ []) ≡ None
neither_refuses absent under_way first second there at_rest =
    ap (λ a. first_refusal (refuse a first ∷ refuse under_way second ∷ [])) there ∙ ap (λ u. first_refusal (refuse false first ∷ refuse u second ∷ [])) at_rest

module _ (enclaves dying : List Enclave) (fences fenced : List (Option Fence)) where
  refusal_is : (cause : Option No) → (dying_unless cause enclaves fences dying fenced).refusal ≡ cause
  refusal_is (Some cause) = refl
  refusal_is None = refl

  begun_is : (cause : Option No) → (dying_unless cause enclaves fences dying fenced).refusal ≡ None
      → dying_unless cause enclaves fences dying fenced ≡ record { refusal = None; enclaves = dying; fences = fenced }
  begun_is (Some cause) none = cc
  begun_is None none = refl

pub destroys_begin : DestroysBegin
unfolding destroy_begun
destroys_begin enclaves fences h e number hart =
    let state = (enclave_at enclaves e.0).state in
    let cause : Option No = destroy_refusal_of enclaves e.0 in
    let dying : List Enclave = in_state enclaves e.0 Dying in
    let fenced : List (Option Fence) = posted fences h (space_of_number e) None in
    record {
      refused = (
        λ none. (let parts = neither (is_absent state) (is_under_way state) NoEnclave (WrongState state) (sym (refusal_is enclaves dying fences fenced cause) ∙ none) in
            record { there = parts.0; at_rest = parts.1 }),
        λ may. refusal_is enclaves dying fences fenced cause
            ∙ neither_refuses (is_absent state) (is_under_way state) NoEnclave (WrongState state) may.there may.at_rest,
      );
      dying = λ none. ap (λ (b : DestroyBegun). (enclave_at b.enclaves e.0).state) (begun_is enclaves dying fences fenced cause none)
          ∙ ap (λ (r : Enclave). r.state) (record_there enclaves e.0 (record (enclave_at enclaves e.0) { state = Dying }) number);
      fenced = λ none vpn. ap (λ (b : DestroyBegun). covers (space_of_number e) vpn (fence_of b.fences h)) (begun_is enclaves dying fences fenced cause none)
          ∙ ap (covers (space_of_number e) vpn) (fence_of-set_same fences h _ hart)
          ∙ and_from _ true (eq-eqb (space_of_number e).0 (space_of_number e).0 refl) refl;
    }

-- ---- it ends

module _ (d : List ℕ → List ℕ) (ctl : CtlData) (owners : List Owner) (enclaves : List Enclave) (e : ℕ)
    (kept : IsKept d ctl) (sizes : length owners ≡ 64 * ctl.zones) (number : e < length enclaves)
    (inside : All (λ page. page < 64 * ctl.zones) (held_by enclaves e)) where
  abbrev pages : List ℕ
  pages = held_by enclaves e

  abbrev size : ℕ
  size = length ctl.off_chip

  fit : All (FitsIn size) pages
  fit = All-weaker (λ page. page < 64 * ctl.zones) (FitsIn size) (λ page below. omega (arith, below, kept.trees.sizes.off_chip_size)) pages inside

  listed_inside : (page : ℕ) → is_among pages page ≡ true → page < 64 * ctl.zones
  listed_inside page among =
      let found : Any (λ other. eqb other page ≡ true) pages = Any-from_list_any (λ other. eqb other page) pages among in
      subst (λ p. p < 64 * ctl.zones) (found.3 ∙ eqb-true found.1 page found.4) (inside found.0 found.1 found.2)

  -- a page past all zones isn't held
  past : (index : ℕ) → 4096 * (64 * ctl.zones) ≤ index → is_among pages (index / 4096) ≡ false
  past index far = elim (cases_Bool (is_among pages (index / 4096))) [
    | inl among ↦ absurd (let below = listed_inside (index / 4096) among in omega arith)
    | inr other ↦ other
  ]

  pub is_given_back : IsGivenBack d ctl (all_zeroed ctl pages) owners (given_to owners pages (Host 0)) enclaves (with_enclave enclaves e (freed (enclave_at enclaves e))) e
  is_given_back = record {
    zeroed = λ page among. listed_zero size ctl pages page refl fit among;
    other_pages = λ page other. other_pages size ctl pages page refl fit other;
    other_bytes = λ index other. other_bytes size ctl pages index refl fit other;
    nodes = λ index far. other_bytes size ctl pages index refl fit (past index far);
    off_chip_alone = off_chip_alone ctl pages;
    kept = subst (IsKept d) (sym (off_chip_alone ctl pages)) (off_chip_is_free d ctl (all_zeroed ctl pages).off_chip kept (length-all_zeroed size ctl pages refl fit));
    given = λ page among. given_listed owners (Host 0) pages page (let below = listed_inside page among in omega arith) among;
    other_owners = λ page other. given_other owners (Host 0) pages page other;
    as_many_owners = length-given_to owners (Host 0) pages;
    free = record_there enclaves e (freed (enclave_at enclaves e)) number;
    other_numbers = λ other apart. other_record enclaves e other (freed (enclave_at enclaves e)) apart;
  }

pub numbers_are_given_back : (d : List ℕ → List ℕ) → NumbersAreGivenBack d
unfolding destroy_ended
numbers_are_given_back d ctl owners enclaves fences h e kept sizes number hart inside = record {
  back = is_given_back d ctl owners enclaves e kept sizes number inside;
  left = fence_of-set_same fences h None hart;
  other_fences = λ other apart. fence_of-set_other fences h other None apart;
}
