-- An enclave image, and the flat machine that runs it alone.
use Rattle.std.specs.Prelude.{ℕ, ◌+◌, ◌-◌, ◌*◌, ◌/◌, ◌%◌, nat_le, if◌then◌else◌, List, [], length, replicate, slice_get, slice_set, Option, Some, None, option_and_then}
use Rattle.std.specs.Option.{option_map}
use Rattle.byteorder.specs.Endian.{little_number, little_bytes}
use Rattle.pl_base.specs.Bytes.{bytes_at, with_bytes}
use Rattle.pl_base.specs.declared.page.TheConstants.{IMAGE_START}
use Rattle.pl_base.specs.declared.perms.Perms.{Perms}
use Rattle.pl_base.specs.declared.access.Kind.{Kind}
use Rattle.pl_base.specs.declared.access.Kind.TheVariants.{Fetch, Load, Store}
use Rattle.pl_base.specs.Perms.{grants}

-- a page: its permissions, and 4,096 bytes
pub record Page : Type 0 where
  pub perms : Perms
  pub bytes : List ℕ

-- an enclave image: where it begins, and its pages
pub record Image : Type 0 where
  pub entry : ℕ
  pub pages : List Page

pub data Status : Type 0 where
  on : Status
  ended : ℕ → Status

-- a state of the flat machine: registers, pc, pages, how many words were received, the words sent out
pub record Flat : Type 0 where
  pub regs : List ℕ
  pub pc : ℕ
  pub pages : List Page
  pub received : ℕ
  pub out : List ℕ
  pub status : Status

-- page i of an image stands at IMAGE_START + 4096·i, and x2 is the end of the image; each other register is 0
abbrev pub start_registers : ℕ → List ℕ
start_registers pages = slice_set (replicate 32 0) 2 (IMAGE_START + 4096 * pages)

abbrev pub start_of : Image → Flat
start_of image = record {
  regs = start_registers (length image.pages);
  pc = image.entry;
  pages = image.pages;
  received = 0;
  out = [];
  status = on;
}

-- the number of the page of an address, and its page
abbrev pub page_number : ℕ → ℕ
page_number address = (address - IMAGE_START) / 4096

abbrev pub page_at : List Page → ℕ → Option Page
page_at pages address = if nat_le IMAGE_START address then slice_get pages (page_number address) else None

-- the page of an address, where its permissions let an access of the kind through
abbrev pub permitted : Kind → List Page → ℕ → Option Page
permitted kind pages address = option_and_then (λ (page : Page). if grants page.perms kind then Some page else None) (page_at pages address)

-- the number in so many bytes of its page from an address on, little-endian
abbrev pub number_in : ℕ → ℕ → Page → ℕ
number_in width address page = little_number width (bytes_at page.bytes (address % 4096) width)

-- the page with the lowest bytes of a value there
abbrev pub page_with_number : ℕ → ℕ → ℕ → Page → Page
page_with_number width address value page = record page { bytes = with_bytes page.bytes (address % 4096) (little_bytes width value) }

-- the word of 32 bits that is fetched from an address
abbrev pub fetched : List Page → ℕ → Option ℕ
fetched pages address = option_map (number_in 4 address) (permitted Fetch pages address)

-- what a load of so many bytes reads
abbrev pub read : List Page → ℕ → ℕ → Option ℕ
read pages address width = option_map (number_in width address) (permitted Load pages address)

-- the pages after a store of so many bytes
abbrev pub stored : List Page → ℕ → ℕ → ℕ → Option (List Page)
stored pages address width value = option_map (λ (page : Page). slice_set pages (page_number address) (page_with_number width address value page)) (permitted Store pages address)
