-- What the operations and the comparisons of branches give (RISC-V Unprivileged ISA, RV64I and the M extension).
use Rattle.std.specs.Prelude.{ℕ, ◌+◌, ◌-◌, ◌*◌, ◌/◌, ◌%◌, ◌^◌, ◌<◌, ◌≡◌, ◌≢◌, Bool, not, ◌==◌, nat_lt, if◌then◌else◌, ℤ, pos, ◌-ℤ◌, ◌*ℤ◌, ◌≤ℤ◌, int_lt, int_div, int_rem, unsigned_abs, bit_and, bit_or, bit_xor}
use Rattle.std.specs.Int.{int_div_euclid, int_rem_euclid}
use Rattle.rv_insn.specs.Word.{signed}
use Rattle.rv_insn.specs.declared.insn.AluOp.{AluOp}
use Rattle.rv_insn.specs.declared.insn.AluOp.TheVariants.{Add, Sub, Sll, Slt, Sltu, Xor, Srl, Sra, Or, And, Mul, Mulh, Mulhsu, Mulhu, Div, Divu, Rem, Remu, Addw, Subw, Sllw, Srlw, Sraw, Mulw, Divw, Divuw, Remw, Remuw}
use Rattle.rv_insn.specs.declared.insn.Cond.{Cond}
use Rattle.rv_insn.specs.declared.insn.Cond.TheVariants.{Beq, Bne, Blt, Bge, Bltu, Bgeu}

-- A register is a number below 2^64; read as signed it is a whole number from -2^63 to 2^63 - 1.

-- a whole number modulo 2^width
abbrev pub wrapped : ℕ → ℤ → ℕ
wrapped width z = unsigned_abs (int_rem_euclid z (pos (2 ^ width)))

-- a whole number over a power of two, rounded down
abbrev pub scaled_down : ℤ → ℕ → ℤ
scaled_down z power = int_div_euclid z (pos (2 ^ power))

-- ---- on numbers of so many bits, 64 or 32

abbrev pub sum : ℕ → ℕ → ℕ → ℕ
sum width a b = (a + b) % 2 ^ width

abbrev pub difference : ℕ → ℕ → ℕ → ℕ
difference width a b = wrapped width (pos a -ℤ pos b)

abbrev pub product : ℕ → ℕ → ℕ → ℕ
product width a b = a * b % 2 ^ width

-- the amount of a shift is the low 6 bits, or 5 at 32 bits
abbrev pub shifted_left : ℕ → ℕ → ℕ → ℕ
shifted_left width a b = a * 2 ^ (b % width) % 2 ^ width

abbrev pub shifted_right : ℕ → ℕ → ℕ → ℕ
shifted_right width a b = a / 2 ^ (b % width)

abbrev pub signed_shifted_right : ℕ → ℕ → ℕ → ℕ
signed_shifted_right width a b = wrapped width (scaled_down (signed width a) (b % width))

-- division rounds towards zero; by zero it gives all ones, and the dividend as the remainder
abbrev pub quotient : ℕ → ℕ → ℕ → ℕ
quotient width a b = if b == 0 then 2 ^ width - 1 else wrapped width (int_div (signed width a) (signed width b))

abbrev pub remainder : ℕ → ℕ → ℕ → ℕ
remainder width a b = if b == 0 then a else wrapped width (int_rem (signed width a) (signed width b))

abbrev pub unsigned_quotient : ℕ → ℕ → ℕ → ℕ
unsigned_quotient width a b = if b == 0 then 2 ^ width - 1 else a / b

abbrev pub unsigned_remainder : ℕ → ℕ → ℕ → ℕ
unsigned_remainder width a b = if b == 0 then a else a % b

-- a W operation: on the low 32 bits, the result sign-extended
abbrev pub at_word : (ℕ → ℕ → ℕ → ℕ) → ℕ → ℕ → ℕ
at_word value a b = wrapped 64 (signed 32 (value 32 (a % 2 ^ 32) (b % 2 ^ 32)))

-- the upper half of a product of 128 bits
abbrev pub upper_half : ℤ → ℕ
upper_half z = wrapped 64 (scaled_down z 64)

abbrev pub flag : Bool → ℕ
flag b = if b then 1 else 0

-- ---- the table

abbrev pub alu_value : AluOp → ℕ → ℕ → ℕ
alu_value Add a b = sum 64 a b
alu_value Sub a b = difference 64 a b
alu_value Sll a b = shifted_left 64 a b
alu_value Slt a b = flag (int_lt (signed 64 a) (signed 64 b))
alu_value Sltu a b = flag (nat_lt a b)
alu_value Xor a b = bit_xor a b
alu_value Srl a b = shifted_right 64 a b
alu_value Sra a b = signed_shifted_right 64 a b
alu_value Or a b = bit_or a b
alu_value And a b = bit_and a b
alu_value Mul a b = product 64 a b
alu_value Mulh a b = upper_half (signed 64 a *ℤ signed 64 b)
alu_value Mulhsu a b = upper_half (signed 64 a *ℤ pos b)
alu_value Mulhu a b = upper_half (pos a *ℤ pos b)
alu_value Div a b = quotient 64 a b
alu_value Divu a b = unsigned_quotient 64 a b
alu_value Rem a b = remainder 64 a b
alu_value Remu a b = unsigned_remainder 64 a b
alu_value Addw a b = at_word sum a b
alu_value Subw a b = at_word difference a b
alu_value Sllw a b = at_word shifted_left a b
alu_value Srlw a b = at_word shifted_right a b
alu_value Sraw a b = at_word signed_shifted_right a b
alu_value Mulw a b = at_word product a b
alu_value Divw a b = at_word quotient a b
alu_value Divuw a b = at_word unsigned_quotient a b
alu_value Remw a b = at_word remainder a b
alu_value Remuw a b = at_word unsigned_remainder a b

-- whether a branch is taken
abbrev pub is_taken : Cond → ℕ → ℕ → Bool
is_taken Beq a b = a == b
is_taken Bne a b = not (a == b)
is_taken Blt a b = int_lt (signed 64 a) (signed 64 b)
is_taken Bge a b = not (int_lt (signed 64 a) (signed 64 b))
is_taken Bltu a b = nat_lt a b
is_taken Bgeu a b = not (nat_lt a b)

-- ---- laws

-- the quotient times the divisor, and the remainder, give back the low bits of the dividend
abbrev pub GivesBack : ℕ → AluOp → AluOp → Type 0
GivesBack width division rest = (a b : ℕ) → a < 2 ^ 64 → b < 2 ^ 64 → (alu_value division a b * b + alu_value rest a b) % 2 ^ width ≡ a % 2 ^ width

-- the remainder has a smaller magnitude than the divisor, and the dividend's sign where it isn't 0
pub record IsRemainder (dividend divisor rest : ℤ) : Type 0 where
  pub smaller : unsigned_abs rest < unsigned_abs divisor
  pub not_negative : pos 0 ≤ℤ dividend → pos 0 ≤ℤ rest
  pub not_positive : dividend ≤ℤ pos 0 → rest ≤ℤ pos 0

-- the low bits of a register, read as signed
abbrev pub low_signed : ℕ → ℕ → ℤ
low_signed width a = signed width (a % 2 ^ width)

-- so it is at each divisor but 0
abbrev pub LeavesRemainder : ℕ → AluOp → Type 0
LeavesRemainder width rest =
    (a b : ℕ) → a < 2 ^ 64 → b < 2 ^ 64 → b % 2 ^ width ≢ 0 → IsRemainder (low_signed width a) (low_signed width b) (low_signed width (alu_value rest a b))

abbrev pub LeavesUnsignedRemainder : ℕ → AluOp → Type 0
LeavesUnsignedRemainder width rest = (a b : ℕ) → a < 2 ^ 64 → b < 2 ^ 64 → b % 2 ^ width ≢ 0 → alu_value rest a b % 2 ^ width < b % 2 ^ width
