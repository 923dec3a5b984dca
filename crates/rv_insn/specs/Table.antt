-- The instructions, each with its encoding (RISC-V Unprivileged ISA, "RV32/64G Instruction Set Listings": RV32I, RV64I, RV32M, RV64M).
use Rattle.std.specs.Prelude.{ℕ, ◌<◌, Some, ◌/◌, ◌%◌, ◌^◌, Bool, true, false, ◌&&◌, ◌==◌, List, [], ◌∷◌, Option, find, IsTrue, Contains, ⊤, unsigned_abs, ◌≡◌, ℤ, pos}
use Rattle.std.specs.List.{list_all}
use Rattle.std.specs.Option.{option_map}
use Rattle.pl_base.specs.Width.{is_width}
use Rattle.rv_insn.specs.Word.{bits, opcode, rd, rs1, rs2, i_immediate, s_immediate, b_immediate, u_immediate, j_immediate}
use Rattle.rv_insn.specs.declared.insn.Insn.{Insn}
use Rattle.rv_insn.specs.declared.insn.Insn.TheVariants.{Lui, Auipc, Jal, Jalr, Branch, Load, Store, OpImm, Op, Fence, Ecall, Ebreak}
use Rattle.rv_insn.specs.declared.insn.Cond.TheVariants.{Beq, Bne, Blt, Bge, Bltu, Bgeu}
use Rattle.rv_insn.specs.declared.insn.AluOp.TheVariants.{Add, Sub, Sll, Slt, Sltu, Xor, Srl, Sra, Or, And, Mul, Mulh, Mulhsu, Mulhu, Div, Divu, Rem, Remu, Addw, Subw, Sllw, Srlw, Sraw, Mulw, Divw, Divuw, Remw, Remuw}

-- Bits high down to low have this value.
pub record Field : Type 0 where
  pub high : ℕ
  pub low : ℕ
  pub value : ℕ

abbrev pub has : ℕ → Field → Bool
has word field = bits word field.high field.low == field.value

-- A row of the table: what is fixed in its words, and the instruction that such a word is.
pub record Row : Type 0 where
  pub opcode : ℕ
  pub fixed : List Field
  pub insn : ℕ → Insn

abbrev pub fits : Row → ℕ → Bool
fits row word = (opcode word == row.opcode) && list_all (has word) row.fixed

abbrev pub funct3_is : ℕ → Field
funct3_is value = record { high = 14; low = 12; value = value }

abbrev pub funct7_is : ℕ → Field
funct7_is value = record { high = 31; low = 25; value = value }

-- ---- the formats

abbrev pub r_type : ℕ → ℕ → ℕ → (ℕ → ℕ → ℕ → Insn) → Row
r_type opcode funct7 funct3 insn = record {
  opcode = opcode;
  fixed = funct7_is funct7 ∷ funct3_is funct3 ∷ [];
  insn = λ word. insn (rd word) (rs1 word) (rs2 word);
}

abbrev pub i_type : ℕ → ℕ → (ℕ → ℕ → ℤ → Insn) → Row
i_type opcode funct3 insn = record {
  opcode = opcode;
  fixed = funct3_is funct3 ∷ [];
  insn = λ word. insn (rd word) (rs1 word) (i_immediate word);
}

-- an amount of 6 bits, 25:20, under bits 31:26
abbrev pub shift_type : ℕ → ℕ → ℕ → (ℕ → ℕ → ℤ → Insn) → Row
shift_type opcode top funct3 insn = record {
  opcode = opcode;
  fixed = funct3_is funct3 ∷ record { high = 31; low = 26; value = top } ∷ [];
  insn = λ word. insn (rd word) (rs1 word) (pos (bits word 25 20));
}

-- an amount of 5 bits, 24:20, under funct7
abbrev pub shift_w_type : ℕ → ℕ → ℕ → (ℕ → ℕ → ℤ → Insn) → Row
shift_w_type opcode funct7 funct3 insn = record {
  opcode = opcode;
  fixed = funct3_is funct3 ∷ funct7_is funct7 ∷ [];
  insn = λ word. insn (rd word) (rs1 word) (pos (rs2 word));
}

abbrev pub s_type : ℕ → ℕ → (ℕ → ℕ → ℤ → Insn) → Row
s_type opcode funct3 insn = record {
  opcode = opcode;
  fixed = funct3_is funct3 ∷ [];
  insn = λ word. insn (rs1 word) (rs2 word) (s_immediate word);
}

abbrev pub b_type : ℕ → ℕ → (ℕ → ℕ → ℤ → Insn) → Row
b_type opcode funct3 insn = record {
  opcode = opcode;
  fixed = funct3_is funct3 ∷ [];
  insn = λ word. insn (rs1 word) (rs2 word) (b_immediate word);
}

abbrev pub u_type : ℕ → (ℕ → ℤ → Insn) → Row
u_type opcode insn = record { opcode = opcode; fixed = []; insn = λ word. insn (rd word) (u_immediate word) }

abbrev pub j_type : ℕ → (ℕ → ℤ → Insn) → Row
j_type opcode insn = record { opcode = opcode; fixed = []; insn = λ word. insn (rd word) (j_immediate word) }

-- FENCE: with any other bits
abbrev pub fence_type : ℕ → ℕ → (ℕ → ℕ → Insn) → Row
fence_type opcode funct3 insn = record {
  opcode = opcode;
  fixed = funct3_is funct3 ∷ [];
  insn = λ word. insn (bits word 31 15) (rd word);
}

-- one whole word
abbrev pub whole_word : ℕ → Insn → Row
whole_word word insn = record {
  opcode = word % 2 ^ 7;
  fixed = record { high = 31; low = 7; value = word / 2 ^ 7 } ∷ [];
  insn = λ _. insn;
}

-- ---- the table: opcode, funct7 (or bits 31:26), funct3, instruction

abbrev pub table : List Row
table =
    u_type 0x37 Lui
    ∷ u_type 0x17 Auipc
    ∷ j_type 0x6f Jal
    ∷ i_type 0x67 0 Jalr
    ∷ b_type 0x63 0 (Branch Beq)
    ∷ b_type 0x63 1 (Branch Bne)
    ∷ b_type 0x63 4 (Branch Blt)
    ∷ b_type 0x63 5 (Branch Bge)
    ∷ b_type 0x63 6 (Branch Bltu)
    ∷ b_type 0x63 7 (Branch Bgeu)
    ∷ i_type 0x03 0 (Load 1 true)
    ∷ i_type 0x03 1 (Load 2 true)
    ∷ i_type 0x03 2 (Load 4 true)
    ∷ i_type 0x03 3 (Load 8 true)
    ∷ i_type 0x03 4 (Load 1 false)
    ∷ i_type 0x03 5 (Load 2 false)
    ∷ i_type 0x03 6 (Load 4 false)
    ∷ s_type 0x23 0 (Store 1)
    ∷ s_type 0x23 1 (Store 2)
    ∷ s_type 0x23 2 (Store 4)
    ∷ s_type 0x23 3 (Store 8)
    ∷ i_type 0x13 0 (OpImm Add)
    ∷ i_type 0x13 2 (OpImm Slt)
    ∷ i_type 0x13 3 (OpImm Sltu)
    ∷ i_type 0x13 4 (OpImm Xor)
    ∷ i_type 0x13 6 (OpImm Or)
    ∷ i_type 0x13 7 (OpImm And)
    ∷ shift_type 0x13 0x00 1 (OpImm Sll)
    ∷ shift_type 0x13 0x00 5 (OpImm Srl)
    ∷ shift_type 0x13 0x10 5 (OpImm Sra)
    ∷ i_type 0x1b 0 (OpImm Addw)
    ∷ shift_w_type 0x1b 0x00 1 (OpImm Sllw)
    ∷ shift_w_type 0x1b 0x00 5 (OpImm Srlw)
    ∷ shift_w_type 0x1b 0x20 5 (OpImm Sraw)
    ∷ r_type 0x33 0x00 0 (Op Add)
    ∷ r_type 0x33 0x20 0 (Op Sub)
    ∷ r_type 0x33 0x00 1 (Op Sll)
    ∷ r_type 0x33 0x00 2 (Op Slt)
    ∷ r_type 0x33 0x00 3 (Op Sltu)
    ∷ r_type 0x33 0x00 4 (Op Xor)
    ∷ r_type 0x33 0x00 5 (Op Srl)
    ∷ r_type 0x33 0x20 5 (Op Sra)
    ∷ r_type 0x33 0x00 6 (Op Or)
    ∷ r_type 0x33 0x00 7 (Op And)
    ∷ r_type 0x33 0x01 0 (Op Mul)
    ∷ r_type 0x33 0x01 1 (Op Mulh)
    ∷ r_type 0x33 0x01 2 (Op Mulhsu)
    ∷ r_type 0x33 0x01 3 (Op Mulhu)
    ∷ r_type 0x33 0x01 4 (Op Div)
    ∷ r_type 0x33 0x01 5 (Op Divu)
    ∷ r_type 0x33 0x01 6 (Op Rem)
    ∷ r_type 0x33 0x01 7 (Op Remu)
    ∷ r_type 0x3b 0x00 0 (Op Addw)
    ∷ r_type 0x3b 0x20 0 (Op Subw)
    ∷ r_type 0x3b 0x00 1 (Op Sllw)
    ∷ r_type 0x3b 0x00 5 (Op Srlw)
    ∷ r_type 0x3b 0x20 5 (Op Sraw)
    ∷ r_type 0x3b 0x01 0 (Op Mulw)
    ∷ r_type 0x3b 0x01 4 (Op Divw)
    ∷ r_type 0x3b 0x01 5 (Op Divuw)
    ∷ r_type 0x3b 0x01 6 (Op Remw)
    ∷ r_type 0x3b 0x01 7 (Op Remuw)
    ∷ fence_type 0x0f 0 Fence
    ∷ whole_word 0x00000073 Ecall
    ∷ whole_word 0x00100073 Ebreak
    ∷ []

-- ---- what it says

-- A row of the table fits the word, and makes this instruction of it.
pub record Decodes (word : ℕ) (insn : Insn) : Type 0 where
  pub row : Row
  pub listed : Contains table row
  pub fitting : IsTrue (fits row word)
  pub made : row.insn word ≡ insn

-- what the first row that fits makes of the word; none is an illegal word
unfoldable pub instruction_of : ℕ → Option Insn
instruction_of word = option_map (λ row. row.insn word) (find (λ row. fits row word) table)

-- some word of 32 bits is this instruction
abbrev pub IsValid : Insn → Type 0
IsValid insn = (word : ℕ) × (word < 2 ^ 32) × (instruction_of word ≡ Some insn)

-- ---- what an instruction of the table has

abbrev pub IsEven : ℤ → Type 0
IsEven z = unsigned_abs z % 2 ≡ 0

-- registers below 32, widths of an access, even offsets
abbrev pub IsWellFormed : Insn → Type 0
IsWellFormed (Lui d imm) = d < 32
IsWellFormed (Auipc d imm) = d < 32
IsWellFormed (Jal d offset) = (d < 32) × IsEven offset
IsWellFormed (Jalr d a imm) = (d < 32) × (a < 32)
IsWellFormed (Branch c a b offset) = (a < 32) × (b < 32) × IsEven offset
IsWellFormed (Load width s d a imm) = (d < 32) × (a < 32) × IsTrue (is_width width)
IsWellFormed (Store width a b imm) = (a < 32) × (b < 32) × IsTrue (is_width width)
IsWellFormed (OpImm op d a imm) = (d < 32) × (a < 32)
IsWellFormed (Op op d a b) = (d < 32) × (a < 32) × (b < 32)
IsWellFormed (Fence high d) = d < 32
IsWellFormed Ecall = ⊤
IsWellFormed Ebreak = ⊤
