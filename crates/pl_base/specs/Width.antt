-- How wide an access may be (RISC-V Unprivileged ISA, loads and stores of RV64I).
use Rattle.std.specs.Prelude.{ℕ, Bool, ◌==◌, ◌||◌}

-- 1, 2, 4 or 8 bytes
abbrev pub is_width : ℕ → Bool
is_width width = width == 1 || (width == 2 || (width == 4 || width == 8))
