-- A fork is refused exactly where it may not be made.
use Rattle.std.proofs.Common.{ℕ, ◌≡◌, length, false, not, nat_lt, List, [], ◌∷◌, ◌++◌, All, slice_get, Option, Some, None, option_map, refl, ap, arith}
use Rattle.std.proofs.lemmas.Bool.Decides.{nat_tests}
use Rattle.pl_base.specs.declared.refusal.No.{No}
use Rattle.pl_base.specs.declared.refusal.No.TheVariants.{Exists, NoEnclave, TooMany, Twice}
use Rattle.pl_base.specs.Pages.{first_twice, most_spares}
use Rattle.pl_base.specs.Refusals.{refuse}
use Rattle.pl_base.specs.States.{is_free, is_sealed}
use Rattle.rv_pmp.specs.declared.rule.Rule.{Rule}
use Rattle.mon_owner.specs.declared.owners.Owner.{Owner}
use Rattle.mon_owner.specs.declared.owners.Owner.TheVariants as owner
use Rattle.mon_enclave.specs.declared.enclave.Enclave.{Enclave}
use Rattle.mon_enclave.specs.Records.{enclave_at}
use Rattle.mon_life.specs.Making.{page_refusals}
use Rattle.mon_life.proofs.BegunLemmas.{may_be_taken, no_cause, none_of, not_mapped, not_refused, taken_unless_later}
use Rattle.mon_shadow.specs.Forking.{fork_refusal_of}
use Rattle.mon_shadow.specs.Laws.{ForksAreRefused, MayFork}
use Rattle.mon_shadow.proofs.RefusalLemmas.{let_through}

module _ (owners : List Owner) (enclaves : List Enclave) (rules : List Rule) (shadow e : ℕ) (pages : List ℕ) where
  abbrev sealed : Option No
  sealed = refuse (not (is_sealed (enclave_at enclaves shadow).state)) NoEnclave

  abbrev free : Option No
  free = refuse (not (is_free (enclave_at enclaves e).state)) Exists

  abbrev twice : Option No
  twice = option_map Twice (first_twice pages)

  abbrev many : Option No
  many = refuse (nat_lt most_spares (length pages)) TooMany

  abbrev later : List (Option No)
  later = page_refusals owners rules pages ++ many ∷ []

  pub may_fork : fork_refusal_of owners enclaves rules shadow e pages ≡ None → MayFork owners enclaves rules shadow e pages
  may_fork none =
      let after_sealed = no_cause sealed (free ∷ twice ∷ later) none in
      let after_free = no_cause free (twice ∷ later) after_sealed.1 in
      let after_twice = no_cause twice later after_free.1 in
      let taken = may_be_taken owners rules pages (many ∷ []) after_twice.1 in
      let after_many = no_cause many [] taken.2 in
      let within : nat_lt most_spares (length pages) ≡ false = let_through (nat_lt most_spares (length pages)) TooMany after_many.0 in
      record {
        sealed = not_refused (is_sealed (enclave_at enclaves shadow).state) NoEnclave after_sealed.0;
        free = not_refused (is_free (enclave_at enclaves e).state) Exists after_free.0;
        once = not_mapped Twice (first_twice pages) after_twice.0;
        host = taken.0;
        unbarred = taken.1;
        few = grind (arith, nat_tests);
      }

  not_refused_where_it_may : MayFork owners enclaves rules shadow e pages → fork_refusal_of owners enclaves rules shadow e pages ≡ None
  not_refused_where_it_may may =
      let within : nat_lt most_spares (length pages) ≡ false = (let few = may.few in grind (arith, nat_tests)) in
      none_of sealed (free ∷ twice ∷ later) (ap (λ b. refuse (not b) NoEnclave) may.sealed)
      (none_of free (twice ∷ later) (ap (λ b. refuse (not b) Exists) may.free)
      (none_of twice later (ap (option_map Twice) may.once)
      (taken_unless_later owners rules pages (many ∷ []) may.host may.unbarred (none_of many [] (ap (λ b. refuse b TooMany) within) refl))))

  pub free_pages : fork_refusal_of owners enclaves rules shadow e pages ≡ None → All (λ page. slice_get owners page ≡ Some (owner.Host 0)) pages
  free_pages none = (may_fork none).host

pub forks_are_refused : ForksAreRefused
forks_are_refused owners enclaves rules shadow e pages =
    (may_fork owners enclaves rules shadow e pages, not_refused_where_it_may owners enclaves rules shadow e pages)
