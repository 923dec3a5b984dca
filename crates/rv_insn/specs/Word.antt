-- The fields of an instruction word and its immediates (RISC-V Unprivileged ISA, "Base Instruction Formats" and "Immediate Encoding Variants").
use Rattle.std.specs.Prelude.{ℕ, ◌+◌, ◌-◌, ◌*◌, ◌/◌, ◌%◌, ◌^◌, ℤ, pos, ◌-ℤ◌, nat_lt, if◌then◌else◌}
use Rattle.rv_insn.specs.declared.fields.Fields.{Fields}

-- bits high down to low of a word, as a number
abbrev pub bits : ℕ → ℕ → ℕ → ℕ
bits word high low = word / 2 ^ low % 2 ^ (high + 1 - low)

-- the number that so many bits stand for in two's complement
abbrev pub signed : ℕ → ℕ → ℤ
signed width n = if nat_lt n (2 ^ (width - 1)) then pos n else pos n -ℤ pos (2 ^ width)

abbrev pub opcode : ℕ → ℕ
opcode word = bits word 6 0

abbrev pub rd : ℕ → ℕ
rd word = bits word 11 7

abbrev pub funct3 : ℕ → ℕ
funct3 word = bits word 14 12

abbrev pub rs1 : ℕ → ℕ
rs1 word = bits word 19 15

abbrev pub rs2 : ℕ → ℕ
rs2 word = bits word 24 20

abbrev pub funct7 : ℕ → ℕ
funct7 word = bits word 31 25

-- the fields of a word, as the R format has them
abbrev pub fields_of : ℕ → Fields
fields_of word = record { opcode = opcode word; rd = rd word; funct3 = funct3 word; rs1 = rs1 word; rs2 = rs2 word; funct7 = funct7 word }

-- imm[11:0] is bits 31:20
abbrev pub i_immediate : ℕ → ℤ
i_immediate word = signed 12 (bits word 31 20)

-- imm[11:5] is bits 31:25, imm[4:0] is bits 11:7
abbrev pub s_immediate : ℕ → ℤ
s_immediate word = signed 12 (bits word 31 25 * 2 ^ 5 + bits word 11 7)

-- imm[12] is bit 31, imm[11] bit 7, imm[10:5] bits 30:25, imm[4:1] bits 11:8, imm[0] is 0
abbrev pub b_immediate : ℕ → ℤ
b_immediate word = signed 13 (bits word 31 31 * 2 ^ 12 + bits word 7 7 * 2 ^ 11 + bits word 30 25 * 2 ^ 5 + bits word 11 8 * 2 ^ 1)

-- imm[31:12] is bits 31:12, imm[11:0] is 0
abbrev pub u_immediate : ℕ → ℤ
u_immediate word = signed 32 (bits word 31 12 * 2 ^ 12)

-- imm[20] is bit 31, imm[19:12] bits 19:12, imm[11] bit 20, imm[10:1] bits 30:21, imm[0] is 0
abbrev pub j_immediate : ℕ → ℤ
j_immediate word = signed 21 (bits word 31 31 * 2 ^ 20 + bits word 19 12 * 2 ^ 12 + bits word 20 20 * 2 ^ 11 + bits word 30 21 * 2 ^ 1)
