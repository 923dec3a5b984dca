-- The words of page tables (RISC-V Privileged Architecture, Sv39 page table entry).
use Rattle.std.specs.Prelude.{ℕ, ◌+◌, ◌*◌, if◌then◌else◌}
use Rattle.pl_base.specs.Perms.{grants}
use Rattle.pl_base.specs.declared.access.Kind.TheVariants.{Store}
use Rattle.pl_base.specs.declared.access.Mode.{Mode}
use Rattle.pl_base.specs.declared.access.Mode.TheVariants.{Super, User}
use Rattle.pl_base.specs.declared.perms.Perms.{Perms}

-- Bits: V 1, R 2, W 4, X 8, U 16, A 64, D 128, and from bit 10 on the number of the physical page.

-- the physical page number of a page of off-chip memory, which begins at 0x80000000
abbrev pub ppn_of_page : ℕ → ℕ
ppn_of_page page = 0x80000 + page

-- the word that points to the table in a page
abbrev pub pointer_word : ℕ → ℕ
pointer_word page = ppn_of_page page * 1024 + 1

abbrev pub user_bit : Mode → ℕ
user_bit Super = 0
user_bit User = 16

-- D is set exactly with W
abbrev pub dirty_bit : Perms → ℕ
dirty_bit perms = if grants perms Store then 128 else 0

-- the word that maps a page with these permissions, for accesses in this mode
abbrev pub leaf_word : ℕ → Perms → Mode → ℕ
leaf_word page perms mode = ppn_of_page page * 1024 + dirty_bit perms + 64 + user_bit mode + 2 * perms.0 + 1
