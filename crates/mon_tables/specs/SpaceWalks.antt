-- What an address space gives an access, and when tables walk to it (RISC-V Privileged Architecture, Sv39).
use Rattle.std.specs.Prelude.{◌≡◌, ℕ, ◌+◌, ◌*◌, ◌^◌, ◌<◌, ◌≤◌, ◌==◌, nat_lt, Bool, true, false, IsTrue, if◌then◌else◌, List, [], ◌∷◌, ◌++◌, length, slice_index, slice_set, All, Option, Some, None, option_and_then}
use Rattle.pl_base.specs.ListedWords.{listed_word}
use Rattle.pl_base.specs.Perms.{are_page_perms, grants}
use Rattle.pl_base.specs.declared.access.Kind.{Kind}
use Rattle.pl_base.specs.declared.access.Mode.{Mode}
use Rattle.pl_base.specs.declared.access.Mode.TheVariants.{Super, User}
use Rattle.pl_base.specs.declared.address.Ppn.{Ppn}
use Rattle.pl_base.specs.declared.address.Vpn.{Vpn}
use Rattle.rv_sv39.specs.Walk.{Answer, Walks}
use Rattle.mon_tables.specs.declared.number_tables.Leaf.{Leaf}
use Rattle.mem_geom.specs.Layout.{page_start}
use Rattle.mon_tables.specs.Space.{first_vpn, IsSpace, Mapping, mapping_at, without_vpn}
use Rattle.mon_tables.specs.Tables.{host_slot, leaf_of, number_slot, root_of, slot_address, start_words, table_number, table_words}
use Rattle.mon_tables.specs.Words.{leaf_word, pointer_word, ppn_of_page}

abbrev pub same_mode : Mode → Mode → Bool
same_mode Super Super = true
same_mode User User = true
same_mode _ _ = false

-- the page of a mapping and what may be done with it, where this lets the kind of access through
abbrev pub let_through : Kind → Mapping → Answer
let_through kind m = if grants m.perms kind then Some (record { 0 = ppn_of_page m.page }, m.perms) else None

-- what a space gives an access, where its accesses are made in a mode: nothing in the other mode, and nothing where no page is mapped
abbrev pub translation : Mode → List Mapping → Vpn → Mode → Kind → Answer
translation owner space vpn mode kind = if same_mode owner mode then option_and_then (let_through kind) (mapping_at space vpn.0) else None

-- the tables in memory walk from a root to exactly a space: for every page, mode and kind of access
abbrev pub WalksTo : (ℕ → ℕ) → Ppn → Mode → List Mapping → Type 0
WalksTo words root owner space = (vpn : Vpn) → vpn.0 < 2 ^ 27 → (mode : Mode) (kind : Kind) → Walks words root vpn mode kind (translation owner space vpn mode kind)

-- ---- the words that stand for a space

-- the address of a word of the table in a page
abbrev pub word_address : ℕ → ℕ → ℕ
word_address page k = 4096 * ppn_of_page page + 8 * k

-- the word of a page of a space: its leaf, or zero where nothing is mapped
abbrev pub word_of : Mode → Option Mapping → ℕ
word_of owner None = 0
word_of owner (Some m) = leaf_word m.page m.perms owner

-- permissions that a page may have, and a page number of 32 bits
pub record IsMappable (m : Mapping) : Type 0 where
  pub perms : IsTrue (are_page_perms m.perms)
  pub page : m.page < 2 ^ 32

-- the host's tables in memory stand for a space
pub record HostTables (tables : ℕ) (words : ℕ → ℕ) (space : List Mapping) : Type 0 where
  pub root : (k : ℕ) → k < 512 → words (word_address 0 k) ≡ (if k == 0 then pointer_word 1 else 0)
  pub middle : (k : ℕ) → k < 512 → words (word_address 1 k) ≡ (if nat_lt k tables then pointer_word (2 + k) else 0)
  pub leaves : (vpn : ℕ) (slot : ℕ × ℕ) → host_slot tables vpn ≡ Some slot → words (slot_address slot) ≡ word_of Super (mapping_at space vpn)
  pub past : (vpn : ℕ) → host_slot tables vpn ≡ None → mapping_at space vpn ≡ None

-- the three tables of a number in memory have the words of these leaves
abbrev pub NumberTables : ℕ → ℕ → (ℕ → ℕ) → List Leaf → Type 0
NumberTables tables e words leaves =
    (level k : ℕ) → level < 3 → k < 512 → words (word_address (table_number tables e level) k) ≡ slice_index (table_words tables e level leaves) k

-- the space of leaves, whose pages have virtual page numbers one after another
abbrev pub leaf_mappings : ℕ → List Leaf → List Mapping
leaf_mappings vpn [] = []
leaf_mappings vpn (leaf ∷ leaves) = record { vpn = vpn; page = leaf.page; perms = leaf.perms } ∷ leaf_mappings (vpn + 1) leaves

-- ---- what holds of them

-- the host's tables walk to exactly the space that they stand for
abbrev pub HostTablesWalk : Type 0
HostTablesWalk = (tables : ℕ) (words : ℕ → ℕ) (space : List Mapping) → tables ≤ 32 → All IsMappable space → HostTables tables words space
    → WalksTo words (root_of tables 0) Super space

-- a number's tables walk to exactly the space of their leaves
abbrev pub NumberTablesWalk : Type 0
NumberTablesWalk = (tables e : ℕ) (words : ℕ → ℕ) (leaves : List Leaf) → tables ≤ 32 → e < 64 → length leaves ≤ 256 → All IsMappable (leaf_mappings first_vpn leaves)
    → NumberTables tables e words leaves → WalksTo words (root_of tables (e + 1)) User (leaf_mappings first_vpn leaves)

-- memory with another word at an address
abbrev pub with_word : (ℕ → ℕ) → ℕ → ℕ → ℕ → ℕ
with_word words at word = λ address. if address == at then word else words address

-- a leaf that is set in the host's tables adds its mapping, where the page was not mapped
abbrev pub SetsMapping : Type 0
SetsMapping = (tables : ℕ) (words : ℕ → ℕ) (space : List Mapping) (m : Mapping) (slot : ℕ × ℕ) → tables ≤ 32 → host_slot tables m.vpn ≡ Some slot
    → mapping_at space m.vpn ≡ None → HostTables tables words space
    → HostTables tables (with_word words (slot_address slot) (leaf_word m.page m.perms Super)) (space ++ m ∷ [])

-- a word that is cleared takes the page's mapping away
abbrev pub ClearsMapping : Type 0
ClearsMapping = (tables : ℕ) (words : ℕ → ℕ) (space : List Mapping) (vpn : ℕ) (slot : ℕ × ℕ) → tables ≤ 32 → host_slot tables vpn ≡ Some slot
    → HostTables tables words space → HostTables tables (with_word words (slot_address slot) 0) (without_vpn space vpn)

-- a leaf that is set in a number's last table takes the place of the one that stood there
abbrev pub SetsLeaf : Type 0
SetsLeaf = (tables e index : ℕ) (words : ℕ → ℕ) (leaves : List Leaf) (leaf : Leaf) → length leaves ≤ 256 → index < length leaves → NumberTables tables e words leaves
    → NumberTables tables e (with_word words (slot_address (number_slot tables e index)) (leaf_of leaf)) (slice_set leaves index leaf)

-- a space stays one: no page is mapped twice
pub record SpacesStay : Type 0 where
  pub set : (space : List Mapping) (m : Mapping) → IsSpace space → mapping_at space m.vpn ≡ None → IsSpace (space ++ m ∷ [])
  pub cleared : (space : List Mapping) (vpn : ℕ) → IsSpace space → IsSpace (without_vpn space vpn)
  pub leaves : (leaves : List Leaf) (vpn : ℕ) → IsSpace (leaf_mappings vpn leaves)

-- a page's physical page number is that of its address
abbrev pub PagesHaveNumbers : Type 0
PagesHaveNumbers = (page : ℕ) → page_start page ≡ 4096 * ppn_of_page page

-- memory in which the host's tables have the start words, and are zero elsewhere, stands for the empty space
abbrev pub StartsEmpty : Type 0
StartsEmpty = (tables : ℕ) (words : ℕ → ℕ) → tables ≤ 32
    → ((page k : ℕ) → page < 2 + tables → k < 512 → words (word_address page k) ≡ listed_word (start_words tables) page (8 * k)) → HostTables tables words []
