-- Where the tables stand, and the words in them (a layout of our own).
use Rattle.std.specs.Prelude.{ℕ, ◌+◌, ◌-◌, ◌*◌, ◌/◌, ◌%◌, ◌==◌, ◌&&◌, nat_lt, Bool, if◌then◌else◌, List, ◌∷◌, ◌++◌, length, map, replicate, Option, Some, None}
use Rattle.std.specs.List.{flat_map, range_with_len}
use Rattle.byteorder.specs.Endian.{little_bytes}
use Rattle.pl_base.specs.declared.access.Mode.TheVariants.{User}
use Rattle.pl_base.specs.declared.address.Ppn.{Ppn}
use Rattle.pl_base.specs.declared.address.Va.{Va}
use Rattle.mon_tables.specs.declared.number_tables.Leaf.{Leaf}
use Rattle.mon_tables.specs.Space.{first_vpn}
use Rattle.mon_tables.specs.Words.{leaf_word, pointer_word, ppn_of_page}

-- ---- the host's tables: its root in page 0, its middle table in page 1, and so many last-level tables from page 2 on

-- the address of a page that the host's last-level tables have a word for
abbrev pub can_be_mapped : ℕ → Va → Bool
can_be_mapped tables va = va.0 % 4096 == 0 && nat_lt va.0 (4096 * 512 * tables)

-- page and offset of the word of a virtual page number, where the last-level tables have one
abbrev pub host_slot : ℕ → ℕ → Option (ℕ × ℕ)
host_slot tables vpn = if nat_lt vpn (512 * tables) then Some (2 + vpn / 512, 8 * (vpn % 512)) else None

-- page, offset and value of each word that stands in the guarded pages at the start: the root points to the middle table, and that one to
-- each last-level table. All other words are zero
abbrev pub start_words : ℕ → List (ℕ × ℕ × ℕ)
start_words tables = (0, 0, pointer_word 1) ∷ map (λ i. (1, 8 * i, pointer_word (2 + i))) (range_with_len 0 tables)

-- ---- the tables of an enclave number: root, middle and last table, of levels 2, 1 and 0, one after another behind those of the host

-- the page of a number's table of a level
abbrev pub table_number : ℕ → ℕ → ℕ → ℕ
table_number tables e level = 2 + tables + 3 * e + (2 - level)

-- the physical page number of the root table of a space: the host's is 0, and number e has e + 1
abbrev pub root_of : ℕ → ℕ → Ppn
root_of tables space = record { 0 = ppn_of_page (if space == 0 then 0 else table_number tables (space - 1) 2) }

-- the address of a word by the page of its table and its offset there
abbrev pub slot_address : ℕ × ℕ → ℕ
slot_address slot = 4096 * ppn_of_page slot.0 + slot.1

-- page and offset of the leaf's word of a page of the image, by its place there, in a number's last table
abbrev pub number_slot : ℕ → ℕ → ℕ → ℕ × ℕ
number_slot tables e index = (table_number tables e 0, 8 * (first_vpn + index))

abbrev pub leaf_of : Leaf → ℕ
leaf_of leaf = leaf_word leaf.page leaf.perms User

-- the 512 words of a table whose first word points to the table in a page
unfoldable pub pointing_words : ℕ → List ℕ
pointing_words page = pointer_word page ∷ replicate 511 0

-- the 512 words of a last table: the leaves of the image's pages stand from the word of the first one's virtual page number on
unfoldable pub leaf_words : List Leaf → List ℕ
leaf_words leaves = replicate first_vpn 0 ++ (map leaf_of leaves ++ replicate (496 - length leaves) 0)

-- the words of a number's table of a level: the root points to the middle table, and this one to the last
abbrev pub table_words : ℕ → ℕ → ℕ → List Leaf → List ℕ
table_words tables e level leaves = if level == 0 then leaf_words leaves else pointing_words (table_number tables e (level - 1))

-- the bytes of that table
abbrev pub number_table_bytes : ℕ → ℕ → ℕ → List Leaf → List ℕ
number_table_bytes tables e level leaves = flat_map (little_bytes 8) (table_words tables e level leaves)
