-- What the table says of the words of each instruction: the rows, one after another.
use Rattle.std.proofs.Common.{◌≡◌, ℕ, zero, suc, ◌+◌, ◌*◌, ◌<◌, ◌%◌, ◌^◌, Bool, true, false, cond, eqb, ◌&&◌, List, [], ◌∷◌, Option, Some, None, IfSome, w32, of_z, bit_or, refl, sym, ◌∙◌, subst, arith, lit<}
use Rattle.std.specs.List.{AllByRecursion, Contains}
use Rattle.std.proofs.lemmas.Bool.{and_parts, eqb-true}
use Rattle.std.proofs.lemmas.Nat.{or_shifted}
use Rattle.rv_insn.specs.declared.insn.Insn.{Insn}
use Rattle.rv_insn.specs.declared.insn.AluOp.{AluOp}
use Rattle.rv_insn.specs.declared.insn.Cond.{Cond}
use Rattle.rv_insn.specs.declared.insn.Insn.TheVariants.{Lui, Auipc, Jal, Jalr, Branch, Load, Store, OpImm, Op, Fence, Ecall, Ebreak}
use Rattle.rv_insn.specs.declared.insn.Cond.TheVariants.{Beq, Bne, Blt, Bge, Bltu, Bgeu}
use Rattle.rv_insn.specs.declared.insn.AluOp.TheVariants.{Add, Sub, Sll, Slt, Sltu, Xor, Srl, Sra, Or, And, Mul, Mulh, Mulhsu, Mulhu, Div, Divu, Rem, Remu, Addw, Subw, Sllw, Srlw, Sraw, Mulw, Divw, Divuw, Remw, Remuw}
use Rattle.rv_insn.specs.declared.encoding.OpCode.{OpCode}
use Rattle.rv_insn.specs.Word.{bits, opcode, rd, funct3, rs1, rs2, funct7, i_immediate, s_immediate, b_immediate, u_immediate, j_immediate}
use Rattle.rv_insn.specs.Table.{Row, fits, table, u_type, j_type, i_type, b_type, s_type, r_type, shift_type, shift_w_type, fence_type, whole_word, instruction_of, IsWellFormed}
use Rattle.pl_base.specs.Width.{is_width}
use Rattle.rv_insn.specs.Codes.{IsBranchCode, IsLoadCode, IsStoreCode, IsRegisterCode, IsImmediateCode, IsOpCode}
use Rattle.rv_insn.proofs.Apart.{some_row}
use Rattle.rv_insn.proofs.Immediates.{i_bits, b_even, j_even}

-- ---- the codes of names

abbrev pub branch_code : Cond → ℕ
branch_code Beq = 0
branch_code Bne = 1
branch_code Blt = 4
branch_code Bge = 5
branch_code Bltu = 6
branch_code Bgeu = 7

abbrev pub load_code : ℕ → Bool → ℕ
load_code width true = cond (eqb width 1) 0 (cond (eqb width 2) 1 (cond (eqb width 4) 2 (cond (eqb width 8) 3 6)))
load_code width false = cond (eqb width 1) 4 (cond (eqb width 2) 5 6)

abbrev pub store_code : ℕ → ℕ
store_code width = cond (eqb width 1) 0 (cond (eqb width 2) 1 (cond (eqb width 4) 2 3))

abbrev code : Bool → ℕ → ℕ → OpCode
code word funct7 funct3 = record { word = word; funct7 = funct7; funct3 = funct3 }

abbrev pub op_code : AluOp → OpCode
op_code Add = code false 0x00 0
op_code Sub = code false 0x20 0
op_code Sll = code false 0x00 1
op_code Slt = code false 0x00 2
op_code Sltu = code false 0x00 3
op_code Xor = code false 0x00 4
op_code Srl = code false 0x00 5
op_code Sra = code false 0x20 5
op_code Or = code false 0x00 6
op_code And = code false 0x00 7
op_code Mul = code false 0x01 0
op_code Mulh = code false 0x01 1
op_code Mulhsu = code false 0x01 2
op_code Mulhu = code false 0x01 3
op_code Div = code false 0x01 4
op_code Divu = code false 0x01 5
op_code Rem = code false 0x01 6
op_code Remu = code false 0x01 7
op_code Addw = code true 0x00 0
op_code Subw = code true 0x20 0
op_code Sllw = code true 0x00 1
op_code Srlw = code true 0x00 5
op_code Sraw = code true 0x20 5
op_code Mulw = code true 0x01 0
op_code Divw = code true 0x01 4
op_code Divuw = code true 0x01 5
op_code Remw = code true 0x01 6
op_code Remuw = code true 0x01 7

-- ---- what a word that is an instruction has

abbrev pub Spelled : Insn → ℕ → Type 0
Spelled (Lui d imm) word = (opcode word ≡ 0x37) × (d ≡ rd word) × (imm ≡ u_immediate word)
Spelled (Auipc d imm) word = (opcode word ≡ 0x17) × (d ≡ rd word) × (imm ≡ u_immediate word)
Spelled (Jal d offset) word = (opcode word ≡ 0x6f) × (d ≡ rd word) × (offset ≡ j_immediate word)
Spelled (Jalr d a imm) word = (opcode word ≡ 0x67) × (funct3 word ≡ 0) × (d ≡ rd word) × (a ≡ rs1 word) × (imm ≡ i_immediate word)
Spelled (Branch c a b offset) word = (opcode word ≡ 0x63) × (funct3 word ≡ branch_code c) × (a ≡ rs1 word) × (b ≡ rs2 word) × (offset ≡ b_immediate word)
Spelled (Load w s d a imm) word = (opcode word ≡ 0x03) × (funct3 word ≡ load_code w s) × (d ≡ rd word) × (a ≡ rs1 word) × (imm ≡ i_immediate word) × (is_width w ≡ true)
Spelled (Store w a b imm) word = (opcode word ≡ 0x23) × (funct3 word ≡ store_code w) × (a ≡ rs1 word) × (b ≡ rs2 word) × (imm ≡ s_immediate word) × (is_width w ≡ true)
Spelled (OpImm op d a imm) word = IsImmediateCode (op_code op) imm word × (d ≡ rd word) × (a ≡ rs1 word)
Spelled (Op op d a b) word = IsRegisterCode (op_code op) word × (d ≡ rd word) × (a ≡ rs1 word) × (b ≡ rs2 word)
Spelled (Fence high d) word = (opcode word ≡ 0x0f) × (funct3 word ≡ 0) × (high ≡ bits word 31 15) × (d ≡ rd word)
Spelled Ecall word = word ≡ 0x73
Spelled Ebreak word = word ≡ 0x100073

abbrev RowHolds : Row → Type 0
RowHolds row = (word : ℕ) → word < 2 ^ 32 → fits row word ≡ true → Spelled (row.insn word) word

-- ---- each format

code_of : (word code : ℕ) (rest : Bool) → (eqb (opcode word) code && rest) ≡ true → (opcode word ≡ code) × (rest ≡ true)
code_of word code rest f = let parts = and_parts (eqb (opcode word) code) rest f in (eqb-true (opcode word) code parts.0, parts.1)

field_of : (n value : ℕ) (rest : Bool) → (eqb n value && rest) ≡ true → (n ≡ value) × (rest ≡ true)
field_of n value rest f = let parts = and_parts (eqb n value) rest f in (eqb-true n value parts.0, parts.1)

lui_row : RowHolds (u_type 0x37 Lui)
lui_row word small f = ((code_of word 0x37 true f).0, refl, refl)

auipc_row : RowHolds (u_type 0x17 Auipc)
auipc_row word small f = ((code_of word 0x17 true f).0, refl, refl)

jal_row : RowHolds (j_type 0x6f Jal)
jal_row word small f = ((code_of word 0x6f true f).0, refl, refl)

jalr_row : RowHolds (i_type 0x67 0 Jalr)
jalr_row word small f =
    let first = code_of word 0x67 (eqb (funct3 word) 0 && true) f in
    (first.0, (field_of (funct3 word) 0 true first.1).0, refl, refl, refl)

branch_row : (c : Cond) → RowHolds (b_type 0x63 (branch_code c) (Branch c))
branch_row c word small f =
    let first = code_of word 0x63 (eqb (funct3 word) (branch_code c) && true) f in
    (first.0, (field_of (funct3 word) (branch_code c) true first.1).0, refl, refl, refl)

load_row : (w : ℕ) (s : Bool) → is_width w ≡ true → RowHolds (i_type 0x03 (load_code w s) (Load w s))
load_row w s width word small f =
    let first = code_of word 0x03 (eqb (funct3 word) (load_code w s) && true) f in
    (first.0, (field_of (funct3 word) (load_code w s) true first.1).0, refl, refl, refl, width)

store_row : (w : ℕ) → is_width w ≡ true → RowHolds (s_type 0x23 (store_code w) (Store w))
store_row w width word small f =
    let first = code_of word 0x23 (eqb (funct3 word) (store_code w) && true) f in
    (first.0, (field_of (funct3 word) (store_code w) true first.1).0, refl, refl, refl, width)

register_row : (op : AluOp) → RowHolds (r_type (cond (op_code op).word 0x3b 0x33) (op_code op).funct7 (op_code op).funct3 (Op op))
register_row op word small f =
    let c = op_code op in
    let first = code_of word (cond c.word 0x3b 0x33) (eqb (funct7 word) c.funct7 && (eqb (funct3 word) c.funct3 && true)) f in
    let second = field_of (funct7 word) c.funct7 (eqb (funct3 word) c.funct3 && true) first.1 in
    (record { opcode_is = first.0; funct7_is = second.0; funct3_is = (field_of (funct3 word) c.funct3 true second.1).0 }, refl, refl, refl)

fence_row : RowHolds (fence_type 0x0f 0 Fence)
fence_row word small f =
    let first = code_of word 0x0f (eqb (funct3 word) 0 && true) f in
    (first.0, (field_of (funct3 word) 0 true first.1).0, refl, refl)

ecall_row : RowHolds (whole_word 0x00000073 Ecall)
ecall_row word small f =
    let first = code_of word 0x73 (eqb (bits word 31 7) 0 && true) f in
    let second = (field_of (bits word 31 7) 0 true first.1).0 in
    omega (arith, first.0, second)

ebreak_row : RowHolds (whole_word 0x00100073 Ebreak)
ebreak_row word small f =
    let first = code_of word 0x73 (eqb (bits word 31 7) 8192 && true) f in
    let second = (field_of (bits word 31 7) 8192 true first.1).0 in
    omega (arith, first.0, second)

-- ---- immediate operations: bits 31:20 from the immediate and the code

shifted_up : (word high a k b : ℕ) → high ≡ a * 2 ^ k → b < 2 ^ k → bits word 31 20 ≡ a * 2 ^ k + b → bits word 31 20 ≡ bit_or high b % 2 ^ 12
shifted_up word high a k b e h parts = rw (e, or_shifted a k b h) (omega (arith, parts))

plain_row : (op : AluOp) → (op_code op).funct7 ≡ 0 → RowHolds (i_type (cond (op_code op).word 0x1b 0x13) (op_code op).funct3 (OpImm op))
plain_row op plain word small f =
    let c = op_code op in
    let first = code_of word (cond c.word 0x1b 0x13) (eqb (funct3 word) c.funct3 && true) f in
    let low : bits word 31 20 ≡ bit_or (c.funct7 * 2 ^ 5 % 2 ^ 32) (of_z w32 (i_immediate word)) % 2 ^ 12 = rw plain (i_bits word (of_z w32 (i_immediate word)) refl) in
    (record { opcode_is = first.0; funct3_is = (field_of (funct3 word) c.funct3 true first.1).0; low_is = low }, refl, refl)

shift_row : (op : AluOp) (top : ℕ) → (op_code op).word ≡ false → (op_code op).funct7 ≡ top * 2 → top < 2 ^ 6 → RowHolds (shift_type 0x13 top (op_code op).funct3 (OpImm op))
shift_row op top wide high fits word small f =
    let c = op_code op in
    let first = code_of word 0x13 (eqb (funct3 word) c.funct3 && (eqb (bits word 31 26) top && true)) f in
    let second = field_of (funct3 word) c.funct3 (eqb (bits word 31 26) top && true) first.1 in
    let third = (field_of (bits word 31 26) top true second.1).0 in
    let low : bits word 31 20 ≡ bit_or (c.funct7 * 2 ^ 5 % 2 ^ 32) (bits word 25 20) % 2 ^ 12 = shifted_up word (c.funct7 * 2 ^ 5 % 2 ^ 32) top 6 (bits word 25 20) (omega (arith, high)) (omega arith) (omega (arith, third)) in
    (record { opcode_is = rw wide first.0; funct3_is = second.0; low_is = low }, refl, refl)

shift_w_row : (op : AluOp) → (op_code op).word ≡ true → (op_code op).funct7 < 2 ^ 7 → RowHolds (shift_w_type 0x1b (op_code op).funct7 (op_code op).funct3 (OpImm op))
shift_w_row op narrow fits word small f =
    let c = op_code op in
    let first = code_of word 0x1b (eqb (funct3 word) c.funct3 && (eqb (funct7 word) c.funct7 && true)) f in
    let second = field_of (funct3 word) c.funct3 (eqb (funct7 word) c.funct7 && true) first.1 in
    let third = (field_of (funct7 word) c.funct7 true second.1).0 in
    let low : bits word 31 20 ≡ bit_or (c.funct7 * 2 ^ 5 % 2 ^ 32) (rs2 word) % 2 ^ 12 = shifted_up word (c.funct7 * 2 ^ 5 % 2 ^ 32) c.funct7 5 (rs2 word) (omega arith) (omega arith) (omega (arith, third)) in
    (record { opcode_is = rw narrow first.0; funct3_is = second.0; low_is = low }, refl, refl)

-- ---- the table, row by row

infixr 5 ◌⨾◌
abbrev ◌⨾◌ : {A B : Type 0} → A → B → A × B
first ⨾ others = (first, others)

rows_hold : AllByRecursion RowHolds table
rows_hold =
    lui_row ⨾ auipc_row ⨾ jal_row ⨾ jalr_row
    ⨾ branch_row Beq ⨾ branch_row Bne ⨾ branch_row Blt ⨾ branch_row Bge ⨾ branch_row Bltu ⨾ branch_row Bgeu
    ⨾ load_row 1 true refl ⨾ load_row 2 true refl ⨾ load_row 4 true refl ⨾ load_row 8 true refl ⨾ load_row 1 false refl ⨾ load_row 2 false refl ⨾ load_row 4 false refl
    ⨾ store_row 1 refl ⨾ store_row 2 refl ⨾ store_row 4 refl ⨾ store_row 8 refl
    ⨾ plain_row Add refl ⨾ plain_row Slt refl ⨾ plain_row Sltu refl ⨾ plain_row Xor refl ⨾ plain_row Or refl ⨾ plain_row And refl
    ⨾ shift_row Sll 0 refl refl (lit< tt) ⨾ shift_row Srl 0 refl refl (lit< tt) ⨾ shift_row Sra 0x10 refl refl (lit< tt)
    ⨾ plain_row Addw refl ⨾ shift_w_row Sllw refl (lit< tt) ⨾ shift_w_row Srlw refl (lit< tt) ⨾ shift_w_row Sraw refl (lit< tt)
    ⨾ register_row Add ⨾ register_row Sub ⨾ register_row Sll ⨾ register_row Slt ⨾ register_row Sltu ⨾ register_row Xor ⨾ register_row Srl ⨾ register_row Sra ⨾ register_row Or ⨾ register_row And
    ⨾ register_row Mul ⨾ register_row Mulh ⨾ register_row Mulhsu ⨾ register_row Mulhu ⨾ register_row Div ⨾ register_row Divu ⨾ register_row Rem ⨾ register_row Remu
    ⨾ register_row Addw ⨾ register_row Subw ⨾ register_row Sllw ⨾ register_row Srlw ⨾ register_row Sraw ⨾ register_row Mulw ⨾ register_row Divw ⨾ register_row Divuw ⨾ register_row Remw ⨾ register_row Remuw
    ⨾ fence_row ⨾ ecall_row ⨾ ebreak_row ⨾ tt

holds_at : {X : Type 0} (P : X → Type 0) (xs : List X) (x : X) → AllByRecursion P xs → Contains xs x → P x
holds_at P [] x all member = absurd (omega (arith, member.1))
holds_at P (y ∷ xs) x all (zero, below, same) = subst P same all.0
holds_at P (y ∷ xs) x all (suc k, below, same) = holds_at P xs x all.1 (k, omega arith, same)

pub spelled : (word : ℕ) (insn : Insn) → word < 2 ^ 32 → instruction_of word ≡ Some insn → Spelled insn word
spelled word insn small e =
    let d = some_row word insn e in
    subst (λ i. Spelled i word) d.made (holds_at RowHolds table d.row rows_hold d.listed word small d.fitting)

-- ---- the codes

pub branch_codes : (c : Cond) (n : ℕ) → n ≡ branch_code c → IsBranchCode c n
branch_codes c n e = record { same = λ word a b offset small is. (spelled word (Branch c a b offset) small is).1 ∙ sym e }

pub load_codes : (w : ℕ) (s : Bool) (n : ℕ) → n ≡ load_code w s → IsLoadCode w s n
load_codes w s n e = record { same = λ word d a imm small is. (spelled word (Load w s d a imm) small is).1 ∙ sym e }

pub store_codes : (w n : ℕ) → n ≡ store_code w → IsStoreCode w n
store_codes w n e = record { same = λ word a b imm small is. (spelled word (Store w a b imm) small is).1 ∙ sym e }

pub op_codes : (op : AluOp) (c : OpCode) → c ≡ op_code op → IsOpCode op c
op_codes op c e = subst (λ x. IsOpCode op x) (sym e) (record {
  register = λ word d a b small is. (spelled word (Op op d a b) small is).0;
  immediate = λ word d a imm small is. (spelled word (OpImm op d a imm) small is).0;
})

-- ---- registers, widths and offsets

well_formed : (word : ℕ) (insn : Insn) → Spelled insn word → IsWellFormed insn
well_formed word (Lui d imm) s = omega (arith, s.1)
well_formed word (Auipc d imm) s = omega (arith, s.1)
well_formed word (Jal d offset) s = (omega (arith, s.1), rw s.2 (j_even word))
well_formed word (Jalr d a imm) s = (omega (arith, s.2), omega (arith, s.3))
well_formed word (Branch c a b offset) s = (omega (arith, s.2), omega (arith, s.3), rw s.4 (b_even word))
well_formed word (Load w t d a imm) s = (omega (arith, s.2), omega (arith, s.3), s.5)
well_formed word (Store w a b imm) s = (omega (arith, s.2), omega (arith, s.3), s.5)
well_formed word (OpImm op d a imm) s = (omega (arith, s.1), omega (arith, s.2))
well_formed word (Op op d a b) s = (omega (arith, s.1), omega (arith, s.2), omega (arith, s.3))
well_formed word (Fence high d) s = omega (arith, s.3)
well_formed word Ecall s = tt
well_formed word Ebreak s = tt

pub all_well_formed : (word : ℕ) (r : Option Insn) → word < 2 ^ 32 → r ≡ instruction_of word → IfSome r IsWellFormed
all_well_formed word None small e = tt
all_well_formed word (Some insn) small e = well_formed word insn (spelled word insn small (sym e))
