-- Where rules 14 to 18 hold, each item of the array is an image.
use Rattle.std.proofs.Common.{◌≡◌, ℕ, not, true, false, List, [], ◌∷◌, length, position, Option, Some, None, is_some, option_map, option_and_then, Ok, codes, refl, sym, ◌∙◌, arith}
use Rattle.std.specs.List.{list_all, filter_map, flat_map}
use Rattle.std.specs.Option.{option_map_or}
use Rattle.std.proofs.lemmas.Bool.{and_parts}
use Rattle.std.proofs.lemmas.List.Folds.{list_all-append}
use Rattle.toml.specs.Data.{Data, string, integer, float, boolean, datetime, array, table, Members, get_member}
use Rattle.pl_base.specs.declared.perms.Perms.{Perms}
use Rattle.mon_image.specs.declared.page.ImagePage.{ImagePage}
use Rattle.pl_history.specs.Rules.{is_within, is_entry}
use Rattle.world_setup.specs.TomlData.{list_of, items_at, is_table}
use Rattle.world_setup.specs.Keys.{images_in, pages_at, pages_in}
use Rattle.world_setup.specs.Images.{is_image_array, entry_at, enters, has_entry, is_page_array, has_pages, perms_at, bytes_at, has_perms, has_bytes, page_of_bytes, page_of, image_pages_of, image_from, image_of, images_hold, pages_hold}
use Rattle.world_setup.proofs.Chains.{unless_held, none_held, none_last, passes_all}
use Rattle.world_setup.proofs.Choices.{all_counted}

both_read : (o : Option Perms) (b : Option (List ℕ)) → is_some o ≡ true → is_some b ≡ true
    → (page : ImagePage) × (option_and_then (λ (perms : Perms). option_map (λ bytes. record { perms = perms; bytes = page_of_bytes bytes }) b) o ≡ Some page)
both_read None b e f = cc
both_read (Some perms) None e f = cc
both_read (Some perms) (Some bytes) e f = (record { perms = perms; bytes = page_of_bytes bytes }, refl)

page_read : (d : Data) → has_perms d ≡ true → has_bytes d ≡ true → (page : ImagePage) × (page_of d ≡ Some page)
page_read d perms bytes = both_read (perms_at d) (bytes_at d) perms bytes

pages_read : (ds : List Data) → list_all has_perms ds ≡ true → list_all has_bytes ds ≡ true → (pages : List ImagePage) × (image_pages_of ds ≡ Some pages) × (length pages ≡ length ds)
pages_read [] perms bytes = ([], refl, refl)
pages_read (d ∷ ds) perms bytes =
    let p = and_parts (has_perms d) (list_all has_perms ds) perms in
    let b = and_parts (has_bytes d) (list_all has_bytes ds) bytes in
    let page = page_read d p.0 b.0 in
    let rest = pages_read ds p.1 b.1 in
    (page.0 ∷ rest.0, rw (page.1, rest.1) refl, omega (arith, rest.2))

from_read : (entry : Option ℕ) (pages : List ImagePage) (count : ℕ) → option_map_or (is_entry count) entry false ≡ true → is_within 1 256 count ≡ true → length pages ≡ count → is_some (image_from entry pages) ≡ true
from_read None pages count enters' within same = cc
from_read (Some entry) pages count enters' within same = rw (same, enters', within) refl

array_read : (value : Option Data) (entry : Option ℕ) (pages : List ImagePage) → option_map_or (enters value) entry false ≡ true → is_page_array value ≡ true → length pages ≡ length (items_at value)
    → is_some (image_from entry pages) ≡ true
array_read None entry pages enters' paged same = cc
array_read (Some (array ds)) entry pages enters' paged same =
    from_read entry pages (length (list_of ds)) enters' (and_parts (is_within 1 256 (length (list_of ds))) (list_all is_table (list_of ds)) paged).0 same
array_read (Some (string s)) entry pages enters' paged same = cc
array_read (Some (integer n)) entry pages enters' paged same = cc
array_read (Some (float f)) entry pages enters' paged same = cc
array_read (Some (boolean b)) entry pages enters' paged same = cc
array_read (Some (datetime t)) entry pages enters' paged same = cc
array_read (Some (table ms)) entry pages enters' paged same = cc

image_read : (d : Data) → has_entry d ≡ true → has_pages d ≡ true → list_all has_perms (pages_in d) ≡ true → list_all has_bytes (pages_in d) ≡ true → is_some (image_of d) ≡ true
image_read d entry paged perms bytes =
    let pages = pages_read (pages_in d) perms bytes in
    rw pages.1 (array_read (pages_at d) (entry_at d) pages.0 entry paged pages.2)

all_read : (ds : List Data) → list_all has_entry ds ≡ true → list_all has_pages ds ≡ true → list_all has_perms (flat_map pages_in ds) ≡ true → list_all has_bytes (flat_map pages_in ds) ≡ true
    → list_all (λ d. is_some (image_of d)) ds ≡ true
all_read [] entries paged perms bytes = refl
all_read (d ∷ ds) entries paged perms bytes =
    let e = and_parts (has_entry d) (list_all has_entry ds) entries in
    let g = and_parts (has_pages d) (list_all has_pages ds) paged in
    let p = and_parts (list_all has_perms (pages_in d)) (list_all has_perms (flat_map pages_in ds)) (sym (list_all-append has_perms (pages_in d) (flat_map pages_in ds)) ∙ perms) in
    let b = and_parts (list_all has_bytes (pages_in d)) (list_all has_bytes (flat_map pages_in ds)) (sym (list_all-append has_bytes (pages_in d) (flat_map pages_in ds)) ∙ bytes) in
    rw (image_read d e.0 g.0 p.0 b.0, all_read ds e.1 g.1 p.1 b.1) refl

record HoldPages (pages : List Data) : Type 0 where
  perms : list_all has_perms pages ≡ true
  bytes : list_all has_bytes pages ≡ true

pages_passed : (pages : List Data) → pages_hold pages ≡ Ok tt → HoldPages pages
unfolding pages_hold
pages_passed pages is =
    let r17 = none_held (position (λ page. not (has_perms page)) pages) 17 _ tt is in
    record {
      perms = passes_all has_perms pages r17.0;
      bytes = passes_all has_bytes pages (none_last (position (λ page. not (has_bytes page)) pages) 18 r17.1);
    }

record HoldImages (images : List Data) : Type 0 where
  entries : list_all has_entry images ≡ true
  paged : list_all has_pages images ≡ true

images_passed : (t : Members) → images_hold t ≡ Ok tt → HoldImages (images_in t)
unfolding images_hold
images_passed t is =
    let r14 = unless_held (is_image_array (get_member (codes "image") t)) 14 _ tt is in
    let r15 = none_held (position (λ image. not (has_entry image)) (images_in t)) 15 _ tt r14.1 in
    record {
      entries = passes_all has_entry (images_in t) r15.0;
      paged = passes_all has_pages (images_in t) (none_last (position (λ image. not (has_pages image)) (images_in t)) 16 r15.1);
    }

pub all_images_read : (t : Members) → images_hold t ≡ Ok tt → pages_hold (flat_map pages_in (images_in t)) ≡ Ok tt → length (filter_map image_of (images_in t)) ≡ length (images_in t)
all_images_read t images pages =
    let of_images = images_passed t images in
    let of_pages = pages_passed (flat_map pages_in (images_in t)) pages in
    all_counted image_of (images_in t) (all_read (images_in t) of_images.entries of_images.paged of_pages.perms of_pages.bytes)
