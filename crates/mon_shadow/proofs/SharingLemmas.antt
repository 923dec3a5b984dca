-- The pages of a number that is forked.
use Rattle.std.proofs.Common.{◌≡◌, true, List, [], ◌∷◌, ◌++◌, map, filter_map, refl, ap}
use Rattle.std.proofs.lemmas.List.Elements.{All-cons, All-nil}
use Rattle.std.specs.Prelude.{All}
use Rattle.mon_enclave.specs.declared.enclave.PageKind.{PageKind}
use Rattle.mon_enclave.specs.Records.{as_shared, is_shared, page_if_own, page_number_of}
use Rattle.mon_shadow.specs.Laws.{ForkedHolds, ForksShare}

same_numbers : (kinds : List PageKind) → map page_number_of (map as_shared kinds) ≡ map page_number_of kinds
same_numbers [] = refl
same_numbers (kind ∷ kinds) = ap (λ l. page_number_of kind ∷ l) (same_numbers kinds)

all_shared : (kinds : List PageKind) → All (λ (kind : PageKind). is_shared kind ≡ true) (map as_shared kinds)
all_shared [] = All-nil (λ (kind : PageKind). is_shared kind ≡ true)
all_shared (kind ∷ kinds) = All-cons (λ (kind : PageKind). is_shared kind ≡ true) (as_shared kind) (map as_shared kinds) refl (all_shared kinds)

none_own : (kinds : List PageKind) → filter_map page_if_own (map as_shared kinds) ≡ []
none_own [] = refl
none_own (kind ∷ kinds) = none_own kinds

pub forks_share : ForksShare
forks_share shadow source spares enclave = (same_numbers source.pages, all_shared source.pages)

pub forked_holds : ForkedHolds
forked_holds shadow source spares enclave = ap (λ own. own ++ spares) (none_own source.pages)
