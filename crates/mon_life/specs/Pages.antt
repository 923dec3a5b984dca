-- Which page a step of `create`, `shadow` or `fork` puts, and which bytes.
use Rattle.std.specs.Prelude.{ℕ, ◌-◌, nat_lt, if◌then◌else◌, List, [], length, map, slice_get, slice_index_or}
use Rattle.std.specs.List.{zip}
use Rattle.std.specs.Option.{option_map_or}
use Rattle.pl_base.specs.declared.perms.Perms.{Perms}
use Rattle.mon_image.specs.declared.image.Image.{Image}
use Rattle.mon_image.specs.declared.page.ImagePage.{ImagePage}
use Rattle.mon_tables.specs.declared.number_tables.Leaf.{Leaf}
use Rattle.mon_tables.specs.Space.{without_write}
use Rattle.mon_tables.specs.Tables.{number_table_bytes, table_number}
use Rattle.mon_enclave.specs.declared.enclave.PageKind.{PageKind}
use Rattle.mon_enclave.specs.declared.enclave.PageKind.TheVariants.{Own, Shared}
use Rattle.mon_enclave.specs.Records.{page_number_of}

pub record PagePut : Type 0 where
  pub page : ℕ
  pub bytes : List ℕ

-- page i of the image is put into the record's page i
abbrev pub image_put : List ImagePage → List PageKind → ℕ → PagePut
image_put image kinds i = record {
  page = page_number_of (slice_index_or kinds i (Own 0));
  bytes = option_map_or (λ (page : ImagePage). page.bytes) (slice_get image i) [];
}

-- the leaf of a page of the image: a shared one may not be written
abbrev pub leaf_for : PageKind → Perms → Leaf
leaf_for (Own page) perms_now = record { page = page; perms = perms_now }
leaf_for (Shared page) perms_now = record { page = page; perms = without_write perms_now }

-- the leaves of a number with these pages, in the image's order
unfoldable pub leaves_of : List PageKind → List ImagePage → List Leaf
leaves_of kinds image = map (λ (p : PageKind × ImagePage). leaf_for p.0 p.1.perms) (zip kinds image)

-- the number's table of a level is put into its page
abbrev pub table_put : ℕ → ℕ → ℕ → List Leaf → PagePut
table_put tables e level leaves = record { page = table_number tables e level; bytes = number_table_bytes tables e level leaves }

-- step `at` of the line that makes number e in these pages: the image's pages one after another, and then the root, the middle and the
-- last table
unfoldable pub page_put_at : ℕ → ℕ → Image → List PageKind → ℕ → PagePut
page_put_at tables e image kinds at =
    if nat_lt at (length image.pages) then image_put image.pages kinds at
    else table_put tables e (2 - (at - length image.pages)) (leaves_of kinds image.pages)
