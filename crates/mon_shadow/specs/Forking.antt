-- The first event of `fork`: why it is refused, or the number is being built, shares the shadow's pages, and has these pages as spares.
use Rattle.std.specs.Prelude.{ℕ, nat_lt, false, not, List, [], ◌∷◌, ◌++◌, length, Option, option_map}
use Rattle.pl_base.specs.declared.number.EncNo.{EncNo}
use Rattle.pl_base.specs.declared.refusal.No.{No}
use Rattle.pl_base.specs.declared.refusal.No.TheVariants.{Exists, NoEnclave, TooMany, Twice}
use Rattle.pl_base.specs.Pages.{first_twice, most_spares}
use Rattle.pl_base.specs.Refusals.{refuse, first_refusal}
use Rattle.pl_base.specs.States.{is_free, is_sealed}
use Rattle.rv_pmp.specs.declared.rule.Rule.{Rule}
use Rattle.mon_owner.specs.declared.owners.Owner.{Owner}
use Rattle.mon_owner.specs.Owners.{given_to}
use Rattle.mon_enclave.specs.declared.enclave.Enclave.{Enclave}
use Rattle.mon_enclave.specs.Records.{enclave_at, forked, with_enclave}
use Rattle.mon_life.specs.Making.{PagesTaken, taken_unless, page_refusals, taker}

-- why number e can't be forked from a shadow with these spares: the shadow isn't sealed, the number isn't free, a page stands in the list twice, a
-- page can't be taken, there are too many
abbrev pub fork_refusal_of : List Owner → List Enclave → List Rule → ℕ → ℕ → List ℕ → Option No
fork_refusal_of owners enclaves rules shadow e pages = first_refusal (
    refuse (not (is_sealed (enclave_at enclaves shadow).state)) NoEnclave
    ∷ refuse (not (is_free (enclave_at enclaves e).state)) Exists
    ∷ option_map Twice (first_twice pages)
    ∷ (page_refusals owners rules pages ++ refuse (nat_lt most_spares (length pages)) TooMany ∷ []))

-- number e is being built as a fork of a shadow, and all these pages are its own
unfoldable pub fork_begun : List Owner → List Enclave → List Rule → EncNo → ℕ → List ℕ → PagesTaken
fork_begun owners enclaves rules shadow e pages =
    taken_unless (fork_refusal_of owners enclaves rules shadow.0 e pages) owners enclaves (given_to owners pages (taker e false))
    (with_enclave enclaves e (forked shadow (enclave_at enclaves shadow.0) pages (enclave_at enclaves e)))
