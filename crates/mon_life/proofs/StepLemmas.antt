-- The page of each step.
use Rattle.std.proofs.Common.{ℕ, ◌≡◌, ◌+◌, ◌-◌, ◌*◌, ◌<◌, ◌≤◌, ltb, true, false, List, length, ap, sym, ◌∙◌, arith, inl, inr, slice_index_or, map, Some, None, ◌≢◌}
use Rattle.std.proofs.lemmas.Bool.{cond-true, cond-false, cases_lt}
use Rattle.std.proofs.lemmas.Bool.Decides.{nat_tests}
use Rattle.std.proofs.lemmas.List.{get_or-map, length-map}
use Rattle.std.proofs.lemmas.List.Elements.{All-get_or}
use Rattle.std.proofs.lemmas.Option.{slice_get-get_or}
use Rattle.pl_base.specs.Pages.{first_twice}
use Rattle.pl_base.proofs.DistinctPages.{stands_once}
use Rattle.mon_image.specs.declared.image.Image.{Image}
use Rattle.mon_tables.specs.Tables.{table_number}
use Rattle.mon_enclave.specs.declared.enclave.PageKind.{PageKind}
use Rattle.mon_enclave.specs.declared.enclave.PageKind.TheVariants.{Own}
use Rattle.mon_enclave.specs.Records.{page_number_of}
use Rattle.mon_life.specs.Pages.{PagePut, leaves_of, page_put_at, table_put}
use Rattle.mon_life.specs.Laws.{ImageStands, StepsApart, StepsInside}

pub image_stands : ImageStands
unfolding page_put_at
image_stands tables e image kinds at below =
    let test : ltb at (length image.pages) ≡ true = grind (arith, nat_tests) in cond-true _ _ _ test

pub tables_stand : (tables e : ℕ) (image : Image) (kinds : List PageKind) (at : ℕ) → length image.pages ≤ at
    → page_put_at tables e image kinds at ≡ table_put tables e (2 - (at - length image.pages)) (leaves_of kinds image.pages)
unfolding page_put_at
tables_stand tables e image kinds at past =
    let test : ltb at (length image.pages) ≡ false = grind (arith, nat_tests) in cond-false _ _ _ test

-- the page of a step
image_page : (tables e : ℕ) (image : Image) (kinds : List PageKind) (at : ℕ) → at < length image.pages
    → (page_put_at tables e image kinds at).page ≡ page_number_of (slice_index_or kinds at (Own 0))
image_page tables e image kinds at below = ap (λ (put : PagePut). put.page) (image_stands tables e image kinds at below)

table_page : (tables e : ℕ) (image : Image) (kinds : List PageKind) (at : ℕ) → length image.pages ≤ at
    → (page_put_at tables e image kinds at).page ≡ table_number tables e (2 - (at - length image.pages))
table_page tables e image kinds at past = ap (λ (put : PagePut). put.page) (tables_stand tables e image kinds at past)

pub steps_inside : StepsInside
steps_inside tables numbers e all_pages image kinds at making within = elim (cases_lt at (length image.pages)) [
  | inl below ↦
      let own : page_number_of (slice_index_or kinds at (Own 0)) < all_pages =
      All-get_or (λ (kind : PageKind). page_number_of kind < all_pages) kinds at (Own 0) (omega (arith, making.count)) making.below in
      let page = image_page tables e image kinds at below in omega arith
  | inr past ↦ let page = table_page tables e image kinds at past in omega (arith, making.number, making.guarded)
]

-- no page stands twice in a record
record_apart : (kinds : List PageKind) (i j : ℕ) → first_twice (map page_number_of kinds) ≡ None → i < j → j < length kinds
    → page_number_of (slice_index_or kinds i (Own 0)) ≢ page_number_of (slice_index_or kinds j (Own 0))
record_apart kinds i j once before within same =
    let numbers : List ℕ = map page_number_of kinds in
    let long = length-map kinds page_number_of in
    let first = slice_get-get_or numbers i 0 (omega arith) ∙ ap Some (get_or-map page_number_of kinds i (Own 0) 0 (omega arith)) in
    let second = slice_get-get_or numbers j 0 (omega arith) ∙ ap Some (get_or-map page_number_of kinds j (Own 0) 0 within) in
    let one : i ≡ j = stands_once numbers once i j _ first (second ∙ ap Some (sym same)) in omega arith

pub steps_apart : StepsApart
steps_apart tables numbers e all_pages image kinds i j making once before within same = elim (cases_lt j (length image.pages)) [
  | inl below ↦
      let first = image_page tables e image kinds i (omega arith) in
      let second = image_page tables e image kinds j below in
      record_apart kinds i j once before (omega (arith, making.count)) (sym first ∙ same ∙ second)
  | inr past ↦ elim (cases_lt i (length image.pages)) [
    | inl below ↦
        let own : 2 + tables + 3 * numbers ≤ page_number_of (slice_index_or kinds i (Own 0)) =
        All-get_or (λ (kind : PageKind). 2 + tables + 3 * numbers ≤ page_number_of kind) kinds i (Own 0) (omega (arith, making.count)) making.above in
        let first = image_page tables e image kinds i below in
        let second = table_page tables e image kinds j past in
        omega (arith, making.number)
    | inr past_too ↦
        let first = table_page tables e image kinds i past_too in
        let second = table_page tables e image kinds j past in
        omega arith
  ]
]
