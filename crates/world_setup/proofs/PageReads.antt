-- Where all images were read, each page has its permissions and bytes.
use Rattle.std.proofs.Common.{◌≡◌, Bool, true, not, List, [], ◌∷◌, length, position, Option, Some, None, is_some, option_map, option_and_then, Ok, refl, ◌∙◌}
use Rattle.std.specs.List.{list_all, filter_map, flat_map}
use Rattle.std.proofs.lemmas.Bool.{and_parts}
use Rattle.std.proofs.lemmas.List.Folds.{list_all-append}
use Rattle.std.proofs.lemmas.Iterator.Adapters.{position_from-zero}
use Rattle.toml.specs.Data.{Data}
use Rattle.pl_base.specs.declared.perms.Perms.{Perms}
use Rattle.mon_image.specs.declared.page.ImagePage.{ImagePage}
use Rattle.world_setup.specs.Keys.{pages_in}
use Rattle.world_setup.specs.Images.{perms_at, bytes_at, has_perms, has_bytes, page_of_bytes, page_of, image_pages_of, image_from, image_of, entry_at, pages_hold}
use Rattle.world_setup.proofs.Chains.{none_from}
use Rattle.world_setup.proofs.Choices.{all_where_counted}

first_some : {A B : Type 0} (f : A → Option B) (o : Option A) → is_some (option_and_then f o) ≡ true → is_some o ≡ true
first_some f (Some x) some = refl
first_some f None some = cc

mapped_some : {A B : Type 0} (f : A → B) (o : Option A) → is_some (option_map f o) ≡ true → is_some o ≡ true
mapped_some f (Some x) some = refl
mapped_some f None some = cc

-- a page was read, and the pages after it
both_some : (p : Option ImagePage) (ps : Option (List ImagePage)) → is_some (option_and_then (λ page. option_map (λ pages. page ∷ pages) ps) p) ≡ true → (is_some p ≡ true) × (is_some ps ≡ true)
both_some (Some page) ps some = (refl, mapped_some (λ pages. page ∷ pages) ps some)
both_some None ps some = cc

each_read : (ds : List Data) → is_some (image_pages_of ds) ≡ true → list_all (λ d. is_some (page_of d)) ds ≡ true
each_read [] some = refl
each_read (d ∷ ds) some = let both = both_some (page_of d) (image_pages_of ds) some in rw (both.0, each_read ds both.1) refl

bytes_some : (d : Data) → is_some (page_of d) ≡ true → has_bytes d ≡ true
bytes_some d some = by_perms (perms_at d) some
  where
    with_perms : Perms → Option ImagePage
    with_perms perms = option_map (λ bytes. record { perms = perms; bytes = page_of_bytes bytes }) (bytes_at d)

    by_perms : (o : Option Perms) → is_some (option_and_then with_perms o) ≡ true → is_some (bytes_at d) ≡ true
    by_perms (Some perms) some = mapped_some {B = ImagePage} (λ bytes. record { perms = perms; bytes = page_of_bytes bytes }) (bytes_at d) some
    by_perms None some = cc

perms_some : (d : Data) → is_some (page_of d) ≡ true → has_perms d ≡ true
perms_some d some = first_some _ (perms_at d) some

weaker : (p q : Data → Bool) (ds : List Data) → ((d : Data) → p d ≡ true → q d ≡ true) → list_all p ds ≡ true → list_all q ds ≡ true
weaker p q [] each all = refl
weaker p q (d ∷ ds) each all = let both = and_parts (p d) (list_all p ds) all in rw (each d both.0, weaker p q ds each both.1) refl

image_pages : (d : Data) → is_some (image_of d) ≡ true → list_all (λ page. is_some (page_of page)) (pages_in d) ≡ true
image_pages d some = each_read (pages_in d) (first_some (image_from (entry_at d)) (image_pages_of (pages_in d)) some)

all_pages : (ds : List Data) → list_all (λ d. is_some (image_of d)) ds ≡ true → list_all (λ page. is_some (page_of page)) (flat_map pages_in ds) ≡ true
all_pages [] all = refl
all_pages (d ∷ ds) all =
    let both = and_parts (is_some (image_of d)) (list_all (λ x. is_some (image_of x)) ds) all in
    list_all-append (λ page. is_some (page_of page)) (pages_in d) (flat_map pages_in ds) ∙ rw (image_pages d both.0, all_pages ds both.1) refl

none_failing : (p : Data → Bool) (ds : List Data) → list_all p ds ≡ true → position (λ d. not (p d)) ds ≡ None
none_failing p ds all = position_from-zero (λ d. not (p d)) ds ∙ none_from p 0 ds all

pub pages_read : (ds : List Data) → length (filter_map image_of ds) ≡ length ds → pages_hold (flat_map pages_in ds) ≡ Ok tt
unfolding pages_hold
pages_read ds count =
    let all = all_pages ds (all_where_counted image_of ds count) in
    let perms = none_failing has_perms (flat_map pages_in ds) (weaker (λ page. is_some (page_of page)) has_perms (flat_map pages_in ds) perms_some all) in
    let bytes = none_failing has_bytes (flat_map pages_in ds) (weaker (λ page. is_some (page_of page)) has_bytes (flat_map pages_in ds) bytes_some all) in
    rw (perms, bytes) refl
