-- The first event of `create` and `shadow`: why it is refused, or the number is being built and all pages are its own.
use Rattle.std.specs.Prelude.{ℕ, ◌==◌, Bool, not, if◌then◌else◌, List, [], ◌∷◌, length, find, Option, Some, None, option_map}
use Rattle.pl_base.specs.declared.refusal.No.{No}
use Rattle.pl_base.specs.declared.refusal.No.TheVariants.{Exists, Count, Twice, NotYours, StillMapped, Barred}
use Rattle.pl_base.specs.Pages.{first_twice}
use Rattle.pl_base.specs.Refusals.{refuse, first_refusal}
use Rattle.pl_base.specs.States.{is_free}
use Rattle.rv_pmp.specs.declared.rule.Rule.{Rule}
use Rattle.rv_pmp.specs.Pmp.{page_allowed}
use Rattle.mon_image.specs.declared.image.Image.{Image}
use Rattle.mon_owner.specs.declared.owners.Owner.{Owner}
use Rattle.mon_owner.specs.declared.owners.Owner.TheVariants as owner
pub use Rattle.mon_owner.specs.Owners.{is_host}
use Rattle.mon_owner.specs.Owners.{given_to, is_mapped, owner_at}
use Rattle.mon_enclave.specs.declared.enclave.Enclave.{Enclave}
use Rattle.mon_enclave.specs.Records.{built, enclave_at, with_enclave}

-- ---- the refusals

-- the first page in a list that isn't the host's; past the pool none is
abbrev pub first_not_host : List Owner → List ℕ → Option ℕ
first_not_host owners pages = find (λ page. not (is_host (owner_at owners page))) pages

-- the first page in a list that is mapped, or whose mapping is being removed
abbrev pub first_mapped : List Owner → List ℕ → Option ℕ
first_mapped owners pages = find (λ page. is_mapped (owner_at owners page)) pages

-- the first page in a list that the protection entries don't leave open
abbrev pub first_barred : List Rule → List ℕ → Option ℕ
first_barred rules pages = find (λ page. not (page_allowed rules page)) pages

-- why these pages can't be taken, one cause over the whole list and then the next: one isn't the host's, one is mapped, one is barred
abbrev pub page_refusals : List Owner → List Rule → List ℕ → List (Option No)
page_refusals owners rules pages =
    option_map NotYours (first_not_host owners pages) ∷ option_map StillMapped (first_mapped owners pages) ∷ option_map Barred (first_barred rules pages) ∷ []

-- why number e can't be made of an image of so many pages and these pages: it isn't free, the list has another length than the image,
-- a page stands in it twice, a page can't be taken
abbrev pub create_refusal_of : List Owner → List Enclave → List Rule → ℕ → ℕ → List ℕ → Option No
create_refusal_of owners enclaves rules image_pages e pages = first_refusal (
    refuse (not (is_free (enclave_at enclaves e).state)) Exists
    ∷ refuse (not (length pages == image_pages)) Count
    ∷ option_map Twice (first_twice pages)
    ∷ page_refusals owners rules pages)

-- ---- what it changes

-- who owns the pages that number e takes
abbrev pub taker : ℕ → Bool → Owner
taker e shadow = if shadow then owner.Shadow (record { 0 = e }) else owner.Enclave (record { 0 = e })

-- the refusal, where there is one, and the owners and the records after it
pub record PagesTaken : Type 0 where
  pub refusal : Option No
  pub owners : List Owner
  pub enclaves : List Enclave

-- a refused line changes nothing
abbrev pub taken_unless : Option No → List Owner → List Enclave → List Owner → List Enclave → PagesTaken
taken_unless (Some cause) owners enclaves taken making = record { refusal = Some cause; owners = owners; enclaves = enclaves }
taken_unless None owners enclaves taken making = record { refusal = None; owners = taken; enclaves = making }

-- number e is being built from an image of this number in these pages, all of which are its own now
unfoldable pub create_begun : List Owner → List Enclave → List Rule → ℕ → ℕ → Image → List ℕ → Bool → PagesTaken
create_begun owners enclaves rules e number image pages shadow =
    taken_unless (create_refusal_of owners enclaves rules (length image.pages) e pages) owners enclaves
    (given_to owners pages (taker e shadow)) (with_enclave enclaves e (built number image pages (enclave_at enclaves e)))
