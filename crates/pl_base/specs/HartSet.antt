-- Sets of harts, as numbers whose bit h stands for hart h, and the spaces of numbers.
use Rattle.std.specs.Prelude.{ℕ, ◌+◌, ◌-◌, ◌^◌, Bool, ◌==◌}
use Rattle.std.specs.Int.{bit_at, bit_not, w8}
use Rattle.std.specs.Int.Bits.{bit_and}
use Rattle.pl_base.specs.declared.number.EncNo.{EncNo}
use Rattle.pl_base.specs.declared.number.HartSet.{HartSet}
use Rattle.pl_base.specs.declared.number.Space.{Space}

-- hart h is in the set
abbrev pub has_hart : HartSet → ℕ → Bool
has_hart set h = bit_at set.0 h == 1

-- the first so many harts
abbrev pub harts_below : ℕ → HartSet
harts_below harts = record { 0 = 2 ^ harts - 1 }

-- the set with bit h cleared
abbrev pub without_hart : HartSet → ℕ → HartSet
without_hart set h = record { 0 = bit_and set.0 (bit_not w8 (2 ^ h)) }

-- the space of an enclave number; that of the host is 0
abbrev pub space_of_number : EncNo → Space
space_of_number e = record { 0 = e.0 + 1 }
