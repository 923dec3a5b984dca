-- What the words of an instruction have in their fields.
use Rattle.std.specs.Prelude.{ℕ, ◌<◌, ◌*◌, ◌%◌, ◌^◌, Bool, if◌then◌else◌, Some, ◌≡◌, ℤ, bit_or}
use Rattle.std.specs.Int.{w32, cast_unsigned}
use Rattle.rv_insn.specs.Word.{bits, opcode, funct3, funct7, fields_of}
use Rattle.rv_insn.specs.Table.{instruction_of}
use Rattle.rv_insn.specs.declared.encoding.OpCode.{OpCode}
use Rattle.rv_insn.specs.declared.fields.Fields.{Fields}
use Rattle.rv_insn.specs.declared.insn.AluOp.{AluOp}
use Rattle.rv_insn.specs.declared.insn.Cond.{Cond}
use Rattle.rv_insn.specs.declared.insn.Insn.{Insn}
use Rattle.rv_insn.specs.declared.insn.Insn.TheVariants.{Branch, Load, Store, OpImm, Op}

-- A word that is the instruction has these fields.
pub record IsFieldsOf (insn : Insn) (fields : Fields) : Type 0 where
  pub same : (word : ℕ) → word < 2 ^ 32 → instruction_of word ≡ Some insn → fields ≡ fields_of word

-- A word that is a branch by the condition has this funct3.
pub record IsBranchCode (cond : Cond) (code : ℕ) : Type 0 where
  pub same : (word a b : ℕ) (offset : ℤ) → word < 2 ^ 32 → instruction_of word ≡ Some (Branch cond a b offset) → funct3 word ≡ code

-- A word that is such a load has this funct3.
pub record IsLoadCode (width : ℕ) (signed : Bool) (code : ℕ) : Type 0 where
  pub same : (word d a : ℕ) (imm : ℤ) → word < 2 ^ 32 → instruction_of word ≡ Some (Load width signed d a imm) → funct3 word ≡ code

-- A word that is such a store has this funct3.
pub record IsStoreCode (width code : ℕ) : Type 0 where
  pub same : (word a b : ℕ) (imm : ℤ) → word < 2 ^ 32 → instruction_of word ≡ Some (Store width a b imm) → funct3 word ≡ code

-- What is fixed in a word that is the operation on two registers.
pub record IsRegisterCode (code : OpCode) (word : ℕ) : Type 0 where
  pub opcode_is : opcode word ≡ (if code.word then 0x3b else 0x33)
  pub funct7_is : funct7 word ≡ code.funct7
  pub funct3_is : funct3 word ≡ code.funct3

-- What is fixed in a word that is its immediate form: a shift has its funct7 above the amount.
pub record IsImmediateCode (code : OpCode) (imm : ℤ) (word : ℕ) : Type 0 where
  pub opcode_is : opcode word ≡ (if code.word then 0x1b else 0x13)
  pub funct3_is : funct3 word ≡ code.funct3
  pub low_is : bits word 31 20 ≡ bit_or (code.funct7 * 2 ^ 5 % 2 ^ 32) (cast_unsigned w32 imm) % 2 ^ 12

pub record IsOpCode (op : AluOp) (code : OpCode) : Type 0 where
  pub register : (word d a b : ℕ) → word < 2 ^ 32 → instruction_of word ≡ Some (Op op d a b) → IsRegisterCode code word
  pub immediate : (word d a : ℕ) (imm : ℤ) → word < 2 ^ 32 → instruction_of word ≡ Some (OpImm op d a imm) → IsImmediateCode code imm word
