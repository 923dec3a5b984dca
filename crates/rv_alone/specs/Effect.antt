-- What an instruction does to the registers and to pc, and which access, call or trap it is (RISC-V Unprivileged ISA, RV64I and M).
use Rattle.std.specs.Prelude.{◌≡◌, ℕ, ℤ, pos, ◌+ℤ◌, ◌+◌, ◌*◌, ◌/◌, ◌%◌, ◌^◌, ◌<◌, ◌==◌, Bool, if◌then◌else◌, List, slice_index, slice_set, IsTrue}
use Rattle.std.specs.Option.{option_map_or}
use Rattle.pl_base.specs.Width.{is_width}
use Rattle.rv_insn.specs.declared.insn.Insn.{Insn}
use Rattle.rv_insn.specs.declared.insn.Insn.TheVariants as insn
use Rattle.rv_insn.specs.Table.{instruction_of}
use Rattle.rv_insn.specs.Word.{signed}
use Rattle.rv_alu.specs.Values.{wrapped, alu_value, is_taken}
use Rattle.rv_alone.specs.declared.step.Act.{Act}
use Rattle.rv_alone.specs.declared.step.Act.TheVariants.{Set, Load, Store, Call, Trap}
use Rattle.rv_alone.specs.declared.step.Context.{Context}

-- x0 reads 0
abbrev pub register : List ℕ → ℕ → ℕ
register regs at = if at == 0 then 0 else slice_index regs at

-- a write to x0 is dropped
abbrev pub with_register : Context → ℕ → ℕ → Context
with_register context at value = if at == 0 then context else record context { regs = slice_set context.regs at value }

-- the next instruction is 4 bytes on
abbrev pub advanced : Context → Context
advanced context = record context { pc = (context.pc + 4) % 2 ^ 64 }

-- an address or a register and a sign-extended immediate, modulo 2^64
abbrev pub sum_of : ℕ → ℤ → ℕ
sum_of a imm = wrapped 64 (pos a +ℤ imm)

-- the value goes into rd
abbrev pub sets : Context → ℕ → ℕ → Act
sets context rd value = Set (advanced (with_register context rd value))

-- a jump to a target with bit 1 set traps with cause 0 (instruction address misaligned)
abbrev pub goes_to : Context → ℕ → Act
goes_to context target = if target / 2 % 2 == 1 then Trap 0 target else Set (record context { pc = target })

-- the address of the instruction behind goes into rd
abbrev pub links : Context → ℕ → ℕ → Act
links context rd target = goes_to (with_register context rd ((context.pc + 4) % 2 ^ 64)) target

-- a load or store, which traps at an address that is no multiple of its width: with cause 4 or 6
abbrev pub load_act : ℕ → ℕ → Bool → ℕ → Act
load_act address width is_signed rd = if address % width == 0 then Load address width is_signed rd else Trap 4 address

abbrev pub store_act : ℕ → ℕ → ℕ → Act
store_act address width value = if address % width == 0 then Store address width value else Trap 6 address

-- the effect of an instruction; every ECALL is a call with a7 and a0
abbrev pub effect_of : Context → Insn → Act
effect_of context (insn.Lui rd imm) = sets context rd (wrapped 64 imm)
effect_of context (insn.Auipc rd imm) = sets context rd (sum_of context.pc imm)
effect_of context (insn.Jal rd offset) = links context rd (sum_of context.pc offset)
effect_of context (insn.Jalr rd rs1 imm) = links context rd (sum_of (register context.regs rs1) imm / 2 * 2)
effect_of context (insn.Branch cond rs1 rs2 offset) =
    if is_taken cond (register context.regs rs1) (register context.regs rs2) then goes_to context (sum_of context.pc offset) else Set (advanced context)
effect_of context (insn.Load width is_signed rd rs1 imm) = load_act (sum_of (register context.regs rs1) imm) width is_signed rd
effect_of context (insn.Store width rs1 rs2 imm) = store_act (sum_of (register context.regs rs1) imm) width (register context.regs rs2)
effect_of context (insn.OpImm op rd rs1 imm) = sets context rd (alu_value op (register context.regs rs1) (wrapped 64 imm))
effect_of context (insn.Op op rd rs1 rs2) = sets context rd (alu_value op (register context.regs rs1) (register context.regs rs2))
effect_of context (insn.Fence high rd) = Set (advanced context)
effect_of context insn.Ecall = Call (register context.regs 17) (register context.regs 10)
effect_of context insn.Ebreak = Trap 3 context.pc

-- what a word does; an illegal one traps with cause 2
abbrev pub act_of : Context → ℕ → Act
act_of context word = option_map_or (effect_of context) (instruction_of word) (Trap 2 word)

-- what a load of so many bytes puts into its register: the low bytes of raw, sign-extended or not
abbrev pub loaded_value : ℕ → Bool → ℕ → ℕ
loaded_value width is_signed raw =
    let low = raw % 2 ^ (8 * width) in
    if is_signed then wrapped 64 (signed (8 * width) low) else low

-- the context after a load
abbrev pub loaded : Context → ℕ → ℕ → Bool → ℕ → Context
loaded context rd width is_signed raw = advanced (with_register context rd (loaded_value width is_signed raw))

-- the next instruction, where there is one, is at a multiple of 4
abbrev pub IsAligned : Act → Type 0
IsAligned (Set context) = context.pc % 4 ≡ 0
IsAligned _ = Unit {0}

-- an access is of 1, 2, 4 or 8 bytes at a multiple of its width, and a load's register is below 32
abbrev pub IsAccess : Act → Type 0
IsAccess (Load address width is_signed rd) = IsTrue (is_width width) × (address % width ≡ 0) × (rd < 32)
IsAccess (Store address width value) = IsTrue (is_width width) × (address % width ≡ 0)
IsAccess _ = Unit {0}
