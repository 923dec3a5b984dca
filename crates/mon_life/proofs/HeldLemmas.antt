-- The pages that a number holds, one after another.
use Rattle.std.proofs.Common.{ℕ, ◌≡◌, ◌+◌, ◌<◌, List, [], ◌∷◌, ◌++◌, length, get_or, map, take, filter_map, Some, None, refl, ap, ◌∙◌}
use Rattle.std.specs.List.{cons_option}
use Rattle.std.proofs.lemmas.List.{append-nil, take_more}
use Rattle.std.proofs.lemmas.List.Elements.{filter_map-append}
use Rattle.mon_enclave.specs.declared.enclave.PageKind.{PageKind}
use Rattle.mon_enclave.specs.declared.enclave.PageKind.TheVariants.{Own}
use Rattle.mon_enclave.specs.Records.{page_if_own}
use Rattle.mon_life.specs.Laws.{BuiltHolds}

module _ (kinds : List PageKind) (i : ℕ) (kind : PageKind) (within : i < length kinds) where
  pub one_more : (page : ℕ) → page_if_own (get_or kinds i kind) ≡ Some page
      → filter_map page_if_own (take (i + 1) kinds) ≡ filter_map page_if_own (take i kinds) ++ page ∷ []
  one_more page own =
      ap (filter_map page_if_own) (take_more kinds i kind within) ∙ filter_map-append page_if_own (take i kinds) (get_or kinds i kind ∷ [])
      ∙ ap (λ o. filter_map page_if_own (take i kinds) ++ cons_option o []) own

  pub no_more : page_if_own (get_or kinds i kind) ≡ None → filter_map page_if_own (take (i + 1) kinds) ≡ filter_map page_if_own (take i kinds)
  no_more shared =
      ap (filter_map page_if_own) (take_more kinds i kind within) ∙ filter_map-append page_if_own (take i kinds) (get_or kinds i kind ∷ [])
      ∙ ap (λ o. filter_map page_if_own (take i kinds) ++ cons_option o []) shared ∙ append-nil (filter_map page_if_own (take i kinds))

-- pages that are all the number's own
own_all : (pages : List ℕ) → filter_map page_if_own (map Own pages) ≡ pages
own_all [] = refl
own_all (page ∷ pages) = ap (λ l. page ∷ l) (own_all pages)

pub built_holds : BuiltHolds
built_holds number image pages enclave = append-nil (filter_map page_if_own (map Own pages)) ∙ own_all pages
