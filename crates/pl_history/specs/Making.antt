-- Making enclaves: `create`, `shadow`, `fork` and `grant`.
use Rattle.std.specs.Prelude.{ℕ, ◌+◌, ◌==◌, nat_lt, Bool, true, not, List, [], ◌∷◌, ◌++◌, length, find, Option, Some, option_map, slice_get}
use Rattle.std.specs.Option.{option_map_or}
use Rattle.pl_base.specs.declared.refusal.No.{No}
use Rattle.pl_base.specs.declared.refusal.No.TheVariants.{Exists, Count, Twice, NotYours, StillMapped, Barred, NoEnclave, TooMany}
use Rattle.pl_base.specs.declared.state.State.TheVariants as state_is
use Rattle.pl_base.specs.Refusals.{refuse, first_refusal}
use Rattle.pl_base.specs.Pages.{first_twice, most_spares}
use Rattle.pl_base.specs.States.{idle_refusal, is_free, is_sealed}
use Rattle.rv_pmp.specs.Pmp.{page_allowed}
use Rattle.pl_history.specs.declared.answer.Answer.{Answer}
use Rattle.pl_history.specs.declared.answer.Answer.TheVariants as answer_is
use Rattle.pl_history.specs.declared.line.Line.{Line}
use Rattle.pl_history.specs.declared.setup.SetupParts.{SetupParts}
use Rattle.pl_history.specs.Answering.{AtOnce, Begins, EndsDoneOrFaulted}
use Rattle.pl_history.specs.Licence.{Licensed}
use Rattle.pl_history.specs.Monitor.{number, Monitor, is_host, maps_of, freed, with_number, with_owner}
use Rattle.pl_history.specs.Protection.{pmp_of}

-- ---- the refusals

-- how many pages an image has
abbrev pub image_page_count : SetupParts → ℕ → ℕ
image_page_count setup image = option_map_or (λ i. length i.pages) (slice_get setup.images image) 0

-- the first page in a list that isn't the host's
abbrev pub first_not_host : Monitor → List ℕ → Option ℕ
first_not_host s pages = find (λ page. not (is_host (s.owner page))) pages

-- the first page in a list that is mapped, or whose mapping is being removed
abbrev pub first_mapped : Monitor → List ℕ → Option ℕ
first_mapped s pages = find (λ page. nat_lt 0 (maps_of s page)) pages

-- the first page in a list that the protection entries don't leave open
abbrev pub first_barred : SetupParts → List ℕ → Option ℕ
first_barred setup pages = find (λ page. not (page_allowed (pmp_of setup) page)) pages

-- why these pages can't be taken, one cause over the whole list and then the next: one isn't the host's, one is mapped, one is barred
abbrev pub page_refusals : SetupParts → Monitor → List ℕ → List (Option No)
page_refusals setup s pages =
    option_map NotYours (first_not_host s pages) ∷ option_map StillMapped (first_mapped s pages) ∷ option_map Barred (first_barred setup pages) ∷ []

-- why a number can't be made of an image and these pages: it isn't free, the list has another length than the image, a page stands in
-- it twice, a page can't be taken
abbrev pub create_refusal : SetupParts → Monitor → ℕ → ℕ → List ℕ → Option No
create_refusal setup s e image pages = first_refusal (
    refuse (not (is_free (s.number e).state)) Exists
    ∷ refuse (not (length pages == image_page_count setup image)) Count
    ∷ option_map Twice (first_twice pages)
    ∷ page_refusals setup s pages)

-- why a number can't be forked from a shadow with these spares: the shadow isn't sealed, the number isn't free, a page stands in the
-- list twice, a page can't be taken, there are too many
abbrev pub fork_refusal : SetupParts → Monitor → ℕ → ℕ → List ℕ → Option No
fork_refusal setup s shadow e pages = first_refusal (
    refuse (not (is_sealed (s.number shadow).state)) NoEnclave
    ∷ refuse (not (is_free (s.number e).state)) Exists
    ∷ option_map Twice (first_twice pages)
    ∷ (page_refusals setup s pages ++ refuse (nat_lt most_spares (length pages)) TooMany ∷ []))

-- why a number can't be given one more spare: there is no enclave, a line has it under way, the page can't be taken, there are too many
abbrev pub grant_refusal : SetupParts → Monitor → ℕ → ℕ → Option No
grant_refusal setup s e page =
    let n = s.number e in
    first_refusal (
    idle_refusal n.state
    ∷ (page_refusals setup s (page ∷ []) ++ refuse (nat_lt most_spares (length n.spares + 1)) TooMany ∷ []))

-- ---- the answers

-- a number that is being made is done, or a fault stops it
abbrev pub AllowedCreate : SetupParts → Monitor → Line → ℕ → ℕ → List ℕ → Bool → Answer → Type 0
AllowedCreate setup s line e image pages = Begins (create_refusal setup s e image pages) (EndsDoneOrFaulted (Licensed setup s line))

abbrev pub AllowedFork : SetupParts → Monitor → Line → ℕ → ℕ → List ℕ → Bool → Answer → Type 0
AllowedFork setup s line shadow e pages = Begins (fork_refusal setup s shadow e pages) (EndsDoneOrFaulted (Licensed setup s line))

abbrev pub AllowedGrant : SetupParts → Monitor → ℕ → ℕ → Bool → Answer → Type 0
AllowedGrant setup s e page = AtOnce (grant_refusal setup s e page) (Some answer_is.Ok)

-- ---- what they change

-- at Begun all pages are the number's; its hart is left as it was
abbrev pub building : Monitor → ℕ → ℕ → List ℕ → Monitor
building s e image pages =
    with_owner (with_number s e (record (freed (s.number e)) { state = state_is.Building; image = image; pages = pages })) pages (number e)

-- a forked number has the shadow's image, and the pages as spares
abbrev pub forking : Monitor → ℕ → ℕ → List ℕ → Monitor
forking s shadow e pages =
    let forked = record (freed (s.number e)) { state = state_is.Building; image = (s.number shadow).image; spares = pages; parent = Some shadow } in
    with_owner (with_number s e forked) pages (number e)

-- a created or forked number is fresh and live, a shadow sealed
abbrev pub made : Monitor → ℕ → Monitor
made s e = with_number s e (record (s.number e) { state = state_is.Fresh; live = true })

abbrev pub sealed : Monitor → ℕ → Monitor
sealed s e = with_number s e (record (s.number e) { state = state_is.Sealed })

-- a fault leaves the number with its pages
abbrev pub made_faulted : Monitor → ℕ → Monitor
made_faulted s e = with_number s e (record (s.number e) { state = state_is.Faulted })

abbrev pub granted : Monitor → ℕ → ℕ → Monitor
granted s e page = with_owner (with_number s e (record (s.number e) { spares = (s.number e).spares ++ page ∷ [] })) (page ∷ []) (number e)
