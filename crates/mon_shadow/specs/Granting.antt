-- The event of `grant`: why it is refused, or the number has one more spare.
use Rattle.std.specs.Prelude.{ℕ, ◌+◌, nat_lt, false, List, [], ◌∷◌, ◌++◌, Option}
use Rattle.pl_base.specs.declared.refusal.No.{No}
use Rattle.pl_base.specs.declared.refusal.No.TheVariants.{TooMany}
use Rattle.pl_base.specs.Pages.{most_spares}
use Rattle.pl_base.specs.Refusals.{refuse, first_refusal}
use Rattle.pl_base.specs.States.{idle_refusal}
use Rattle.rv_pmp.specs.declared.rule.Rule.{Rule}
use Rattle.mon_owner.specs.declared.owners.Owner.{Owner}
use Rattle.mon_owner.specs.Owners.{given_to}
use Rattle.mon_enclave.specs.declared.enclave.Enclave.{Enclave}
use Rattle.mon_enclave.specs.Records.{enclave_at, with_enclave, with_spare}
use Rattle.mon_life.specs.Making.{PagesTaken, taken_unless, page_refusals, taker}

-- why number e can't be given a page as a spare: there is no enclave, a line has it under way, the page can't be taken, there are too many
abbrev pub grant_refusal_of : List Owner → List Enclave → List Rule → ℕ → ℕ → Option No
grant_refusal_of owners enclaves rules e page = first_refusal (
    idle_refusal (enclave_at enclaves e).state
    ∷ (page_refusals owners rules (page ∷ []) ++ refuse (nat_lt most_spares ((enclave_at enclaves e).given + 1)) TooMany ∷ []))

-- the page is number e's, and the last of its spares
unfoldable pub grant_made : List Owner → List Enclave → List Rule → ℕ → ℕ → PagesTaken
grant_made owners enclaves rules e page =
    taken_unless (grant_refusal_of owners enclaves rules e page) owners enclaves (given_to owners (page ∷ []) (taker e false))
    (with_enclave enclaves e (with_spare (enclave_at enclaves e) page))
