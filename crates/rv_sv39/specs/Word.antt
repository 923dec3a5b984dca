-- One word of a page table (RISC-V Privileged Architecture, Sv39 page-table entry).
use Rattle.std.specs.Prelude.{ℕ, ◌+◌, ◌*◌, ◌/◌, ◌%◌, ◌^◌, Bool, ◌==◌, ◌&&◌, ◌||◌, not}
use Rattle.std.specs.Int.{bit_at}
use Rattle.pl_base.specs.declared.access.Kind.{Kind}
use Rattle.pl_base.specs.declared.access.Kind.TheVariants.{Fetch, Load, Store}
use Rattle.pl_base.specs.declared.access.Mode.{Mode}
use Rattle.pl_base.specs.declared.access.Mode.TheVariants.{Super, User}
use Rattle.pl_base.specs.declared.address.Ppn.{Ppn}
use Rattle.pl_base.specs.declared.address.Vpn.{Vpn}
use Rattle.pl_base.specs.declared.perms.Perms.{Perms}

-- Bits: V 0, R 1, W 2, X 3, U 4, G 5, A 6, D 7, RSW 9:8, PPN 53:10. G and RSW are ignored.

-- a bit of the word is set
abbrev pub has : ℕ → ℕ → Bool
has word bit = bit_at word bit == 1

abbrev pub is_readable : ℕ → Bool
is_readable word = has word 1

abbrev pub is_writable : ℕ → Bool
is_writable word = has word 2

abbrev pub is_executable : ℕ → Bool
is_executable word = has word 3

abbrev pub is_user : ℕ → Bool
is_user word = has word 4

abbrev pub is_accessed : ℕ → Bool
is_accessed word = has word 6

abbrev pub is_dirty : ℕ → Bool
is_dirty word = has word 7

-- the page number, bits 53:10
abbrev pub ppn_of : ℕ → ℕ
ppn_of word = word / 2 ^ 10 % 2 ^ 44

-- what the word permits: bits 3:1, X, W and R
abbrev pub perms_of : ℕ → Perms
perms_of word = record { 0 = word / 2 % 8 }

-- a valid entry: V is set, W does not stand without R, and bits 63:54 are zero
abbrev pub is_valid_entry : ℕ → Bool
is_valid_entry word = has word 0 && (is_readable word || not (is_writable word)) && word / 2 ^ 54 == 0

-- a pointer to the next level of the page table: neither R nor X
abbrev pub is_pointer : ℕ → Bool
is_pointer word = not (is_readable word) && not (is_executable word)

-- the page is accessible in the mode: User needs U set, Super needs it clear
abbrev pub is_accessible : ℕ → Mode → Bool
is_accessible word User = is_user word
is_accessible word Super = not (is_user word)

-- the word of a superpage has zeros in the fields of the page number that are below its level
abbrev pub is_aligned : ℕ → ℕ → Bool
is_aligned level word = ppn_of word % 2 ^ (9 * level) == 0

-- A is set, and for a store D
abbrev pub has_a_and_d : ℕ → Kind → Bool
has_a_and_d word Store = is_accessed word && is_dirty word
has_a_and_d word Fetch = is_accessed word
has_a_and_d word Load = is_accessed word

-- the page of a leaf: the fields below its level are those of the virtual page number
abbrev pub page_of : ℕ → ℕ → Vpn → Ppn
page_of level word vpn = record { 0 = ppn_of word / 2 ^ (9 * level) * 2 ^ (9 * level) + vpn.0 % 2 ^ (9 * level) }
