-- Rule 3: which keys a setup has.
use Rattle.std.specs.Prelude.{ℕ, ◌&&◌, Bool, List, [], ◌∷◌, Option, codes}
use Rattle.std.specs.List.{list_all}
use Rattle.toml.specs.Data.{Data, Members, get_member}
use Rattle.world_setup.specs.TomlData.{has_only, members_in, items_at}

unfoldable pub top_keys : List (List ℕ)
top_keys =
    codes "version" ∷ codes "harts" ∷ codes "zones" ∷ codes "slots" ∷ codes "tables" ∷ codes "enclaves" ∷ codes "choice" ∷ codes "pmp" ∷ codes "order" ∷ codes "attacker" ∷ codes "image" ∷ codes "hart" ∷ []

abbrev pub image_keys : List (List ℕ)
image_keys = codes "entry" ∷ codes "pages" ∷ []

abbrev pub page_keys : List (List ℕ)
page_keys = codes "perms" ∷ codes "bytes" ∷ []

abbrev pub hart_keys : List (List ℕ)
hart_keys = codes "lines" ∷ []

-- what stands in arrays of tables
abbrev pub images_in : Members → List Data
images_in t = items_at (get_member (codes "image") t)

abbrev pub harts_in : Members → List Data
harts_in t = items_at (get_member (codes "hart") t)

abbrev pub pages_at : Data → Option Data
pages_at image = get_member (codes "pages") (members_in image)

abbrev pub pages_in : Data → List Data
pages_in image = items_at (pages_at image)

-- an item that is a table has only these keys
abbrev pub table_has_only : List (List ℕ) → Data → Bool
table_has_only names d = has_only names (members_in d)

-- an image, and its pages
abbrev pub is_known_image : Data → Bool
is_known_image image = table_has_only image_keys image && list_all (table_has_only page_keys) (pages_in image)

-- no other key stands in the top table, in an image, in a page or in a hart
abbrev pub has_known_keys : Members → Bool
has_known_keys t = has_only top_keys t && (list_all is_known_image (images_in t) && list_all (table_has_only hart_keys) (harts_in t))
