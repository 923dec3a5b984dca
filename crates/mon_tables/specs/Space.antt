-- Address spaces as lists of mappings (own).
use Rattle.std.specs.Prelude.{ℕ, ◌+◌, ◌/◌, ◌==◌, not, IsFalse, AllPairs, List, filter, find, count_by, Option}
use Rattle.std.specs.Int.RustNames.{bit_and}
use Rattle.pl_base.specs.declared.address.Vpn.{Vpn}
use Rattle.pl_base.specs.declared.page.TheConstants.{IMAGE_START}
use Rattle.pl_base.specs.declared.perms.Perms.{Perms}

-- a mapping: the page that a virtual page number leads to, and what may be done with it
pub record Mapping : Type 0 where
  pub vpn : ℕ
  pub page : ℕ
  pub perms : Perms

-- the virtual page number of an image's first page
abbrev pub first_vpn : ℕ
first_vpn = IMAGE_START / 4096

-- that of page `index` of an image
abbrev pub vpn_of_page : ℕ → Vpn
vpn_of_page index = record { 0 = first_vpn + index }

-- two mappings are of two pages
abbrev pub Differ : Mapping → Mapping → Type 0
Differ a b = IsFalse (b.vpn == a.vpn)

-- no page is mapped twice
abbrev pub IsSpace : List Mapping → Type 0
IsSpace = AllPairs Differ

-- the mapping of a virtual page number, where a space has one
abbrev pub mapping_at : List Mapping → ℕ → Option Mapping
mapping_at space vpn = find (λ (m : Mapping). m.vpn == vpn) space

-- how often a page stands in a space
abbrev pub count_of_page : List Mapping → ℕ → ℕ
count_of_page space page = count_by (λ (m : Mapping). m.page == page) space

-- a space without the mappings of a virtual page number
abbrev pub without_vpn : List Mapping → ℕ → List Mapping
without_vpn space vpn = filter (λ (m : Mapping). not (m.vpn == vpn)) space

-- permissions without W
abbrev pub without_write : Perms → Perms
without_write perms = record { 0 = bit_and perms.0 5 }
