-- The images that rules 14 to 18 let through.
use Rattle.std.proofs.Common.{◌≡◌, ℕ, ◌-◌, ◌≤◌, ◌&&◌, true, List, [], ◌∷◌, length, take, replicate, Option, Some, None, option_map, Ok, codes, refl, subst, arith, length-append}
use Rattle.std.specs.List.{list_all, filter_map, flat_map}
use Rattle.std.proofs.lemmas.Bool.{and_parts}
use Rattle.std.proofs.lemmas.List.{length-take, length-replicate}
use Rattle.std.proofs.lemmas.Option.{same_Some, option_and_then_some}
use Rattle.toml.specs.Data.{Data, Members, get_member}
use Rattle.pl_base.specs.declared.perms.Perms.{Perms}
use Rattle.mon_image.specs.declared.page.ImagePage.{ImagePage}
use Rattle.mon_image.specs.declared.image.Image.{Image}
use Rattle.pl_base.specs.Perms.{are_page_perms}
use Rattle.pl_history.specs.Rules.{is_within, is_page, is_entry, is_image}
use Rattle.world_lines.specs.Arguments.{perms_of_text}
use Rattle.world_lines.proofs.FormLemmas.{perms_pass}
use Rattle.world_setup.specs.TomlData.{members_in, text_at}
use Rattle.world_setup.specs.Keys.{images_in, pages_in}
use Rattle.world_setup.specs.Images.{is_image_array, entry_at, perms_at, bytes_at, page_of_bytes, page_of, image_pages_of, image_from, image_of, images_hold, pages_hold, images_of}
use Rattle.world_setup.proofs.Chains.{unless_held, held}
use Rattle.world_setup.proofs.Choices.{chosen, ok_same, fewer, all_chosen}
use Rattle.world_setup.proofs.ImageRules.{images_fit}

pub page_size : (bytes : List ℕ) → length (page_of_bytes bytes) ≡ 4096
page_size bytes = omega (arith, length-append (take 4096 bytes) (replicate (4096 - length bytes) 0), length-take 4096 bytes, length-replicate {A = ℕ} (4096 - length bytes) 0)

page_from : (perms : Perms) (o : Option (List ℕ)) (page : ImagePage) → are_page_perms perms ≡ true → option_map (λ bytes. record { perms = perms; bytes = page_of_bytes bytes }) o ≡ Some page → is_page page ≡ true
page_from perms None page allowed is = cc
page_from perms (Some bytes) page allowed is =
    let made : ImagePage = record { perms = perms; bytes = page_of_bytes bytes } in
    subst (λ p. is_page p ≡ true) (same_Some made page is) (rw (allowed, page_size bytes) refl)

page_valid : (d : Data) (page : ImagePage) → page_of d ≡ Some page → is_page page ≡ true
page_valid d page is =
    option_and_then_some (λ (perms : Perms). option_map (λ bytes. record { perms = perms; bytes = page_of_bytes bytes }) (bytes_at d)) (perms_at d) page is (λ perms found made.
    option_and_then_some perms_of_text (text_at (codes "perms") (members_in d)) perms found (λ text at read. page_from perms (bytes_at d) page (perms_pass text perms read) made))

put_first : (page : ImagePage) (others : Option (List ImagePage)) (pages : List ImagePage) → option_map (λ (rest : List ImagePage). page ∷ rest) others ≡ Some pages
    → (rest : List ImagePage) × (others ≡ Some rest) × (page ∷ rest ≡ pages)
put_first page None pages is = cc
put_first page (Some rest) pages is = (rest, refl, same_Some (page ∷ rest) pages is)

pages_valid : (ds : List Data) (pages : List ImagePage) → image_pages_of ds ≡ Some pages → list_all is_page pages ≡ true
pages_valid [] pages is = subst (λ ps. list_all is_page ps ≡ true) (same_Some [] pages is) refl
pages_valid (d ∷ ds) pages is =
    option_and_then_some (λ (page : ImagePage). option_map (λ (rest : List ImagePage). page ∷ rest) (image_pages_of ds)) (page_of d) pages is (λ page found later.
    let both = put_first page (image_pages_of ds) pages later in
    subst (λ ps. list_all is_page ps ≡ true) both.2 (rw (page_valid d page found, pages_valid ds both.0 both.1) refl))

from_valid : (entry : Option ℕ) (pages : List ImagePage) (image : Image) → list_all is_page pages ≡ true → image_from entry pages ≡ Some image → is_image image ≡ true
from_valid None pages image valid is = cc
from_valid (Some entry) pages image valid is =
    let made : Image = record { entry = entry; pages = pages } in
    let both = chosen (is_entry (length pages) entry && is_within 1 256 (length pages)) (Some made) image is in
    let parts = and_parts (is_entry (length pages) entry) (is_within 1 256 (length pages)) both.0 in
    subst (λ i. is_image i ≡ true) (same_Some made image both.1) (rw (parts.0, parts.1, valid) refl)

image_valid : (d : Data) (image : Image) → image_of d ≡ Some image → is_image image ≡ true
image_valid d image is =
    option_and_then_some (image_from (entry_at d)) (image_pages_of (pages_in d)) image is (λ pages found made. from_valid (entry_at d) pages image (pages_valid (pages_in d) pages found) made)

pub record AreImages (images : List Image) : Type 0 where
  pub few : length images ≤ 64
  pub valid : list_all is_image images ≡ true

few_images : (t : Members) → images_hold t ≡ Ok tt → length (images_in t) ≤ 64
unfolding images_hold
few_images t is = images_fit (get_member (codes "image") t) (unless_held (is_image_array (get_member (codes "image") t)) 14 _ tt is).0

pub images_valid : (t : Members) (images : List Image) → images_of t ≡ Ok images → AreImages images
unfolding images_of
images_valid t images is =
    let first = held (images_hold t) _ images is in
    let then' = held (pages_hold (flat_map pages_in (images_in t))) _ images first.2 in
    subst AreImages (ok_same (filter_map image_of (images_in t)) images then'.2) (record {
      few = omega (arith, fewer image_of (images_in t), few_images t first.1);
      valid = all_chosen is_image image_of (images_in t) image_valid;
    })
