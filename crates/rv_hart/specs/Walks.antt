-- Page walks under way.
use Rattle.std.specs.Prelude.{ℕ, ◌<◌}
use Rattle.pl_base.specs.Address.{IsPpn}
use Rattle.rv_hart.specs.declared.walks.Walk.{Walk}
use Rattle.rv_hart.specs.declared.walks.Walk.TheVariants.{Start, Level, Found}

-- the level of a table is 2, 1 or 0, and a page has a number that a table word can hold
abbrev pub IsWalk : Walk → Type 0
IsWalk Start = Unit {0}
IsWalk (Level level table) = (level < 3) × IsPpn table
IsWalk (Found ppn perms) = IsPpn ppn

-- the level of the table that the walk stands at: the root table's is 2
abbrev pub level_of : Walk → ℕ
level_of Start = 2
level_of (Level level table) = level
level_of (Found ppn perms) = 0
