-- What the rules of the images leave.
use Rattle.std.proofs.Common.{◌≡◌, ◌*◌, ◌≤◌, nat_le, true, not, List, [], ◌∷◌, map, length, Bor, position, codes, Option, Some, None, Ok, ap, arith, length-append}
use Rattle.std.proofs.lemmas.Bool.{and_parts}
use Rattle.std.proofs.lemmas.List.{length-map}
use Rattle.toml.specs.View.{view}
use Rattle.toml.specs.declared.value.Value.{Value}
use Rattle.std.proofs.lemmas.Bool.Decides.{nat_tests}
use Rattle.std.specs.List.{list_all, flat_map}
use Rattle.toml.specs.Data.{Data, string, integer, float, boolean, datetime, array, table, Members, get_member}
use Rattle.pl_history.specs.Rules.{is_within}
use Rattle.world_setup.specs.TomlData.{list_of, items_at, is_table}
use Rattle.world_setup.specs.Keys.{images_in, pages_at, pages_in}
use Rattle.world_setup.specs.Images.{is_image_array, has_entry, is_page_array, has_pages, images_hold}
use Rattle.world_setup.proofs.Chains.{unless_held, none_held, none_last, passes_all}

-- at most 64 images
pub images_fit : (d : Option Data) → is_image_array d ≡ true → length (items_at d) ≤ 64
images_fit None e = omega arith
images_fit (Some (array ds)) e = let (few, tables) = and_parts (nat_le (length (list_of ds)) 64) (list_all is_table (list_of ds)) e in grind (arith, nat_tests)
images_fit (Some (string s)) e = cc
images_fit (Some (integer n)) e = cc
images_fit (Some (float f)) e = cc
images_fit (Some (boolean b)) e = cc
images_fit (Some (datetime t)) e = cc
images_fit (Some (table ms)) e = cc

-- at most 256 pages
pages_fit : (d : Option Data) → is_page_array d ≡ true → length (items_at d) ≤ 256
pages_fit None e = cc
pages_fit (Some (array ds)) e = let (few, tables) = and_parts (is_within 1 256 (length (list_of ds))) (list_all is_table (list_of ds)) e in grind (arith, nat_tests)
pages_fit (Some (string s)) e = cc
pages_fit (Some (integer n)) e = cc
pages_fit (Some (float f)) e = cc
pages_fit (Some (boolean b)) e = cc
pages_fit (Some (datetime t)) e = cc
pages_fit (Some (table ms)) e = cc

all_pages_fit : (images : List Data) → list_all has_pages images ≡ true → length (flat_map pages_in images) ≤ 256 * length images
all_pages_fit [] e = omega arith
all_pages_fit (image ∷ images) e =
    let both = and_parts (has_pages image) (list_all has_pages images) e in
    omega (arith, length-append (pages_in image) (flat_map pages_in images), pages_fit (pages_at image) both.0, all_pages_fit images both.1)

pub few_pages : (t : Members) → images_hold t ≡ Ok tt → length (flat_map pages_in (images_in t)) ≤ 16384
unfolding images_hold
few_pages t held =
    let r14 = unless_held (is_image_array (get_member (codes "image") t)) 14 _ tt held in
    let r15 = none_held (position (λ image. not (has_entry image)) (images_in t)) 15 _ tt r14.1 in
    let r16 : position (λ image. not (has_pages image)) (images_in t) ≡ None = none_last (position (λ image. not (has_pages image)) (images_in t)) 16 r15.1 in
    omega (arith, images_fit (get_member (codes "image") t) r14.0, all_pages_fit (images_in t) (passes_all has_pages (images_in t) r16))

-- the same of what a walk gathered
pub pages_within : (t : Members) (slice items : List (Bor Value)) → images_hold t ≡ Ok tt → slice ≡ items → map (λ r. view r.now) items ≡ flat_map pages_in (images_in t) → length slice ≤ 16384
pages_within t slice items held same are =
    rw same (omega (arith, few_pages t held, length-map items (λ (r : Bor Value). view r.now), ap length are))
