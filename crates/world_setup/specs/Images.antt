-- Rules 14 to 18: the images, and their pages.
use Rattle.std.specs.Prelude.{ℕ, ◌-◌, ◌%◌, ◌==◌, ◌&&◌, nat_le, not, Bool, true, false, List, [], ◌∷◌, ◌++◌, length, take, replicate, position, codes, Option, Some, None, is_some, option_map, option_and_then, if◌then◌else◌, Ok}
use Rattle.std.specs.List.{list_all, filter_map, flat_map}
use Rattle.std.specs.Option.{option_map_or}
use Rattle.toml.specs.Data.{Data, array, Members, get_member}
use Rattle.pl_base.specs.declared.perms.Perms.{Perms}
use Rattle.pl_io.specs.Numbers.{hex_value}
use Rattle.mon_image.specs.declared.page.ImagePage.{ImagePage}
use Rattle.mon_image.specs.declared.image.Image.{Image}
use Rattle.pl_base.specs.declared.page.TheConstants.{IMAGE_START}
use Rattle.pl_history.specs.Rules.{is_within, is_entry}
use Rattle.world_lines.specs.Arguments.{perms_of_text, bytes_of_hex}
use Rattle.world_setup.specs.Checked.{Checked, ◌>>=◌, unless, none_at}
use Rattle.world_setup.specs.TomlData.{list_of, members_in, text_at, is_table}
use Rattle.world_setup.specs.Keys.{images_in, pages_at, pages_in}

-- absent, or an array of at most 64 tables
abbrev pub is_image_array : Option Data → Bool
is_image_array None = true
is_image_array (Some (array ds)) = nat_le (length (list_of ds)) 64 && list_all is_table (list_of ds)
is_image_array (Some _) = false

-- ---- the entry of an image

abbrev pub entry_at : Data → Option ℕ
entry_at image = option_and_then hex_value (text_at (codes "entry") (members_in image))

-- a multiple of 4 in the image; where it has no array of pages, one from IMAGE_START on
abbrev pub enters : Option Data → ℕ → Bool
enters (Some (array ds)) entry = is_entry (length (list_of ds)) entry
enters _ entry = entry % 4 == 0 && nat_le IMAGE_START entry

abbrev pub has_entry : Data → Bool
has_entry image = option_map_or (enters (pages_at image)) (entry_at image) false

-- ---- its pages

-- an array of 1 to 256 tables
abbrev pub is_page_array : Option Data → Bool
is_page_array (Some (array ds)) = is_within 1 256 (length (list_of ds)) && list_all is_table (list_of ds)
is_page_array _ = false

abbrev pub has_pages : Data → Bool
has_pages image = is_page_array (pages_at image)

abbrev pub perms_at : Data → Option Perms
perms_at page = option_and_then perms_of_text (text_at (codes "perms") (members_in page))

abbrev pub bytes_at : Data → Option (List ℕ)
bytes_at page = option_and_then bytes_of_hex (text_at (codes "bytes") (members_in page))

abbrev pub has_perms : Data → Bool
has_perms page = is_some (perms_at page)

abbrev pub has_bytes : Data → Bool
has_bytes page = is_some (bytes_at page)

-- ---- the images, from the same readers

-- filled up with zeros
abbrev pub page_of_bytes : List ℕ → List ℕ
page_of_bytes bytes = take 4096 bytes ++ replicate (4096 - length bytes) 0

abbrev pub page_of : Data → Option ImagePage
page_of page = option_and_then (λ perms. option_map (λ bytes. record { perms = perms; bytes = page_of_bytes bytes }) (bytes_at page)) (perms_at page)

-- a page for each item
abbrev pub image_pages_of : List Data → Option (List ImagePage)
image_pages_of [] = Some []
image_pages_of (d ∷ ds) = option_and_then (λ page. option_map (λ pages. page ∷ pages) (image_pages_of ds)) (page_of d)

abbrev pub image_from : Option ℕ → List ImagePage → Option Image
image_from None pages = None
image_from (Some entry) pages = if is_entry (length pages) entry && is_within 1 256 (length pages) then Some (record { entry = entry; pages = pages }) else None

abbrev pub image_of : Data → Option Image
image_of image = option_and_then (image_from (entry_at image)) (image_pages_of (pages_in image))

-- ---- the rules

-- over the pages of all images
unfoldable pub pages_hold : List Data → Checked (Unit {0})
pages_hold pages = do
  _ ← none_at (position (λ page. not (has_perms page)) pages) 17
  none_at (position (λ page. not (has_bytes page)) pages) 18

unfoldable pub images_hold : Members → Checked (Unit {0})
images_hold t = do
  _ ← unless (is_image_array (get_member (codes "image") t)) 14
  _ ← none_at (position (λ image. not (has_entry image)) (images_in t)) 15
  none_at (position (λ image. not (has_pages image)) (images_in t)) 16

-- each image of the array: where the rules hold, each is one
unfoldable pub images_of : Members → Checked (List Image)
images_of t = do
  _ ← images_hold t
  _ ← pages_hold (flat_map pages_in (images_in t))
  Ok (filter_map image_of (images_in t))
