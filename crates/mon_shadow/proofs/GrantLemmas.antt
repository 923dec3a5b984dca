-- A grant is refused exactly where it may not be made.
use Rattle.std.proofs.Common.{ℕ, ◌≡◌, ◌+◌, true, false, nat_lt, List, [], ◌∷◌, ◌++◌, slice_get, Option, Some, None, refl, ap, arith}
use Rattle.std.proofs.lemmas.Bool.Decides.{nat_tests}
use Rattle.std.proofs.lemmas.List.Elements.{All-cons, All-head, All-nil}
use Rattle.pl_base.specs.declared.refusal.No.{No}
use Rattle.pl_base.specs.declared.refusal.No.TheVariants.{NoEnclave, TooMany, WrongState}
use Rattle.pl_base.specs.declared.state.State.{State}
use Rattle.pl_base.specs.Pages.{most_spares}
use Rattle.pl_base.specs.Refusals.{refuse}
use Rattle.pl_base.specs.States.{idle_refusal, is_absent, is_under_way}
use Rattle.rv_pmp.specs.declared.rule.Rule.{Rule}
use Rattle.rv_pmp.specs.Pmp.{page_allowed}
use Rattle.mon_owner.specs.declared.owners.Owner.{Owner}
use Rattle.mon_owner.specs.declared.owners.Owner.TheVariants as owner
use Rattle.mon_enclave.specs.declared.enclave.Enclave.{Enclave}
use Rattle.mon_enclave.specs.Records.{enclave_at}
use Rattle.mon_life.specs.Making.{page_refusals}
use Rattle.mon_life.proofs.BegunLemmas.{may_be_taken, no_cause, none_of, taken_unless_later}
use Rattle.mon_life.proofs.DestroyLaws.{neither, neither_refuses}
use Rattle.mon_shadow.specs.Granting.{grant_refusal_of}
use Rattle.mon_shadow.specs.Laws.{GrantsAreRefused, MayGrant}
use Rattle.mon_shadow.proofs.RefusalLemmas.{let_through}

module _ (owners : List Owner) (enclaves : List Enclave) (rules : List Rule) (e page : ℕ) where
  abbrev state : State
  state = (enclave_at enclaves e).state

  abbrev many : Option No
  many = refuse (nat_lt most_spares ((enclave_at enclaves e).given + 1)) TooMany

  abbrev later : List (Option No)
  later = page_refusals owners rules (page ∷ []) ++ many ∷ []

  abbrev IsFree : ℕ → Type 0
  IsFree p = slice_get owners p ≡ Some (owner.Host 0)

  abbrev IsOpen : ℕ → Type 0
  IsOpen p = page_allowed rules p ≡ true

  pub may_grant : grant_refusal_of owners enclaves rules e page ≡ None → MayGrant owners enclaves rules e page
  may_grant none =
      let after_state = no_cause (idle_refusal state) later none in
      let there = neither (is_absent state) (is_under_way state) NoEnclave (WrongState state) after_state.0 in
      let taken = may_be_taken owners rules (page ∷ []) (many ∷ []) after_state.1 in
      let after_many = no_cause many [] taken.2 in
      let within : nat_lt most_spares ((enclave_at enclaves e).given + 1) ≡ false = let_through (nat_lt most_spares ((enclave_at enclaves e).given + 1)) TooMany after_many.0 in
      record {
        there = there.0;
        at_rest = there.1;
        host = All-head IsFree page [] taken.0;
        unbarred = All-head IsOpen page [] taken.1;
        few = grind (arith, nat_tests);
      }

  not_refused_where_it_may : MayGrant owners enclaves rules e page → grant_refusal_of owners enclaves rules e page ≡ None
  not_refused_where_it_may may =
      let within : nat_lt most_spares ((enclave_at enclaves e).given + 1) ≡ false = (let few = may.few in grind (arith, nat_tests)) in
      none_of (idle_refusal state) later (neither_refuses (is_absent state) (is_under_way state) NoEnclave (WrongState state) may.there may.at_rest)
      (taken_unless_later owners rules (page ∷ []) (many ∷ []) (All-cons IsFree page [] may.host (All-nil IsFree)) (All-cons IsOpen page [] may.unbarred (All-nil IsOpen))
      (none_of many [] (ap (λ b. refuse b TooMany) within) refl))

pub grants_are_refused : GrantsAreRefused
grants_are_refused owners enclaves rules e page = (may_grant owners enclaves rules e page, not_refused_where_it_may owners enclaves rules e page)
