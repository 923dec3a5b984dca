-- Permissions of a page: a number in which R is 1, W is 2, X is 4.
use Rattle.std.specs.Prelude.{ℕ, Bool, ◌==◌, ◌||◌}
use Rattle.std.specs.Int.RustNames.{bit_and}
use Rattle.pl_base.specs.declared.access.Kind.{Kind}
use Rattle.pl_base.specs.declared.perms.Perms.{Perms}
use Rattle.pl_base.specs.declared.access.Kind.TheVariants.{Fetch, Load, Store}

-- the bit that an access of a kind needs (RISC-V Privileged Architecture, Sv39)
abbrev pub needed_bit : Kind → ℕ
needed_bit Fetch = 4
needed_bit Load = 1
needed_bit Store = 2

-- whether these permissions let an access of the kind through
abbrev pub grants : Perms → Kind → Bool
grants perms kind = bit_and perms.0 (needed_bit kind) == needed_bit kind

-- what a page may permit: `r`, `rw`, `rx` or `rwx`
abbrev pub are_page_perms : Perms → Bool
are_page_perms perms = perms.0 == 1 || (perms.0 == 3 || (perms.0 == 5 || perms.0 == 7))
