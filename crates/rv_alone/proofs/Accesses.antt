-- An instruction of the table gives an access that is aligned.
use Rattle.std.proofs.Common.{◌≡◌, ◌<◌, ◌+◌, ◌*◌, ◌/◌, ◌%◌, ◌^◌, ℕ, Bool, true, false, cond, eqb, inl, inr}
use Rattle.std.proofs.lemmas.Bool.{cases_Bool, eqb-true}
use Rattle.rv_insn.specs.declared.insn.Insn.{Insn}
use Rattle.rv_insn.specs.declared.insn.Insn.TheVariants.{Lui, Auipc, Jal, Jalr, Branch, Load, Store, OpImm, Op, Fence, Ecall, Ebreak}
use Rattle.pl_base.specs.Width.{is_width}
use Rattle.rv_insn.specs.Table.{IsWellFormed}
use Rattle.rv_alu.specs.Values.{is_taken}
use Rattle.rv_alone.specs.declared.step.Act.TheVariants.{Set, Trap}
use Rattle.rv_alone.specs.declared.step.Context.{Context}
use Rattle.rv_alone.specs.Effect.{IsAccess, advanced, effect_of, goes_to, load_act, register, store_act, sum_of, with_register}

no_access : (context : Context) (target : ℕ) → IsAccess (goes_to context target)
no_access context target = elim (eqb (target / 2 % 2) 1) as (λ t. IsAccess (cond t (Trap 0 target) (Set (record context { pc = target })))) [ true ↦ tt | false ↦ tt ]

of_load : (address width : ℕ) (is_signed : Bool) (rd : ℕ) → is_width width ≡ true → rd < 32 → IsAccess (load_act address width is_signed rd)
of_load address width is_signed rd w r = elim (cases_Bool (eqb (address % width) 0)) [
  | inl whole ↦ rw whole (w, eqb-true (address % width) 0 whole, r)
  | inr part ↦ rw part tt
]

of_store : (address width value : ℕ) → is_width width ≡ true → IsAccess (store_act address width value)
of_store address width value w = elim (cases_Bool (eqb (address % width) 0)) [
  | inl whole ↦ rw whole (w, eqb-true (address % width) 0 whole)
  | inr part ↦ rw part tt
]

pub access_of : (context : Context) (insn : Insn) → IsWellFormed insn → IsAccess (effect_of context insn)
access_of context (Lui d imm) h = tt
access_of context (Auipc d imm) h = tt
access_of context (Jal d offset) h = no_access (with_register context d ((context.pc + 4) % 2 ^ 64)) (sum_of context.pc offset)
access_of context (Jalr d a imm) h = no_access (with_register context d ((context.pc + 4) % 2 ^ 64)) (sum_of (register context.regs a) imm / 2 * 2)
access_of context (Branch c a b offset) h =
    let goes = no_access context (sum_of context.pc offset) in
    elim (is_taken c (register context.regs a) (register context.regs b)) as (λ t. IsAccess (cond t (goes_to context (sum_of context.pc offset)) (Set (advanced context)))) [ true ↦ goes | false ↦ tt ]
access_of context (Load width s d a imm) h = of_load _ width s d h.2 h.0
access_of context (Store width a b imm) h = of_store _ width _ h.2
access_of context (OpImm op d a imm) h = tt
access_of context (Op op d a b) h = tt
access_of context (Fence high d) h = tt
access_of context Ecall h = tt
access_of context Ebreak h = tt
