-- pc stays a multiple of 4, and accesses are of a width and aligned.
use Rattle.std.proofs.Common.{◌≡◌, ℕ, suc, ◌+◌, ◌-◌, ◌*◌, ◌/◌, ◌%◌, ◌^◌, ◌<◌, Bool, true, false, cond, eqb, set, Option, Some, None, refl, ap, ◌∙◌, arith, inl, inr}
use Rattle.std.specs.Prelude.{ℤ, pos, negsuc, ◌+ℤ◌}
use Rattle.std.specs.Option.{IfSome, option_map_or}
use Rattle.std.proofs.lemmas.Bool.{cases_Bool, eqb-false}
use Rattle.std.proofs.lemmas.Int.{ints}
use Rattle.rv_insn.specs.declared.insn.Insn.{Insn}
use Rattle.rv_insn.specs.declared.insn.Insn.TheVariants.{Lui, Auipc, Jal, Jalr, Branch, Load, Store, OpImm, Op, Fence, Ecall, Ebreak}
use Rattle.rv_insn.specs.Table.{IsEven, IsWellFormed, instruction_of}
use Rattle.rv_insn.proofs.Spelled.{all_well_formed}
use Rattle.rv_alu.specs.Values.{is_taken, wrapped}
use Rattle.rv_alone.specs.declared.step.Act.TheVariants as act_is
use Rattle.rv_alone.specs.declared.step.Context.{Context}
use Rattle.rv_alone.specs.Effect.{IsAccess, IsAligned, act_of, advanced, effect_of, goes_to, load_act, register, store_act, sum_of, with_register}
use Rattle.rv_alone.proofs.Accesses.{access_of}

-- ---- the next pc

pub next_aligned : (pc : ℕ) → pc % 4 ≡ 0 → (pc + 4) % 2 ^ 64 % 4 ≡ 0
next_aligned pc aligned = omega arith

kept_pc : (context : Context) (at value : ℕ) → (with_register context at value).pc ≡ context.pc
kept_pc context at value = elim (eqb at 0) as (λ t. (cond t context (record context { regs = set context.regs at value })).pc ≡ context.pc) [ true ↦ refl | false ↦ refl ]

pub register_aligned : (context : Context) (at value : ℕ) → context.pc % 4 ≡ 0 → (advanced (with_register context at value)).pc % 4 ≡ 0
register_aligned context at value aligned = next_aligned (with_register context at value).pc (ap (λ n. n % 4) (kept_pc context at value) ∙ aligned)

-- ---- the target of a jump

even_sum : (pc : ℕ) (offset : ℤ) → pc % 4 ≡ 0 → IsEven offset → IsEven (pos pc +ℤ offset)
even_sum pc offset aligned even = omega (arith, ints)

even_wrapped : (z : ℤ) → IsEven z → wrapped 64 z % 2 ≡ 0
even_wrapped (pos a) even = let h : a % 2 ≡ 0 = even in let goal : a % 2 ^ 64 % 2 ≡ 0 = omega arith in goal
even_wrapped (negsuc a) even = let h : suc a % 2 ≡ 0 = even in let goal : (2 ^ 64 - 1 - a % 2 ^ 64) % 2 ≡ 0 = omega arith in goal

target_even : (pc : ℕ) (offset : ℤ) → pc % 4 ≡ 0 → IsEven offset → sum_of pc offset % 2 ≡ 0
target_even pc offset aligned even = even_wrapped (pos pc +ℤ offset) (even_sum pc offset aligned even)

whole_target : (target : ℕ) → target % 2 ≡ 0 → eqb (target / 2 % 2) 1 ≡ false → target % 4 ≡ 0
whole_target target even test = let other = eqb-false (target / 2 % 2) 1 test in omega arith

goes_aligned : (context : Context) (target : ℕ) → target % 2 ≡ 0 → IsAligned (goes_to context target)
goes_aligned context target even = elim (cases_Bool (eqb (target / 2 % 2) 1)) [
  | inl odd ↦ rw odd tt
  | inr whole ↦ rw whole (whole_target target even whole)
]

-- ---- an instruction

load_aligned : (address width : ℕ) (is_signed : Bool) (rd : ℕ) → IsAligned (load_act address width is_signed rd)
load_aligned address width is_signed rd = elim (eqb (address % width) 0) as (λ t. IsAligned (cond t (act_is.Load address width is_signed rd) (act_is.Trap 4 address))) [ true ↦ tt | false ↦ tt ]

store_aligned : (address width value : ℕ) → IsAligned (store_act address width value)
store_aligned address width value = elim (eqb (address % width) 0) as (λ t. IsAligned (cond t (act_is.Store address width value) (act_is.Trap 6 address))) [ true ↦ tt | false ↦ tt ]

even_half : (n : ℕ) → n / 2 * 2 % 2 ≡ 0
even_half n = omega arith

aligned_of : (context : Context) (insn : Insn) → IsWellFormed insn → context.pc % 4 ≡ 0 → IsAligned (effect_of context insn)
aligned_of context (Lui d imm) h aligned = register_aligned context d (wrapped 64 imm) aligned
aligned_of context (Auipc d imm) h aligned = register_aligned context d (sum_of context.pc imm) aligned
aligned_of context (Jal d offset) h aligned = goes_aligned (with_register context d ((context.pc + 4) % 2 ^ 64)) (sum_of context.pc offset) (target_even context.pc offset aligned h.1)
aligned_of context (Jalr d a imm) h aligned =
    goes_aligned (with_register context d ((context.pc + 4) % 2 ^ 64)) (sum_of (register context.regs a) imm / 2 * 2) (even_half (sum_of (register context.regs a) imm))
aligned_of context (Branch c a b offset) h aligned =
    let goes = goes_aligned context (sum_of context.pc offset) (target_even context.pc offset aligned h.2) in
    let next = next_aligned context.pc aligned in
    elim (is_taken c (register context.regs a) (register context.regs b)) as (λ t. IsAligned (cond t (goes_to context (sum_of context.pc offset)) (act_is.Set (advanced context)))) [ true ↦ goes | false ↦ next ]
aligned_of context (Load width s d a imm) h aligned = load_aligned (sum_of (register context.regs a) imm) width s d
aligned_of context (Store width a b imm) h aligned = store_aligned (sum_of (register context.regs a) imm) width (register context.regs b)
aligned_of context (OpImm op d a imm) h aligned = register_aligned context d _ aligned
aligned_of context (Op op d a b) h aligned = register_aligned context d _ aligned
aligned_of context (Fence high d) h aligned = next_aligned context.pc aligned
aligned_of context Ecall h aligned = tt
aligned_of context Ebreak h aligned = tt

-- of any word of 32 bits
pub word_aligned : (context : Context) (word : ℕ) → word < 2 ^ 32 → context.pc % 4 ≡ 0 → IsAligned (act_of context word)
word_aligned context word small aligned = from (instruction_of word) (all_well_formed word (instruction_of word) small refl)
  where
    from : (o : Option Insn) → IfSome o IsWellFormed → IsAligned (option_map_or (effect_of context) o (act_is.Trap 2 word))
    from None h = tt
    from (Some insn) h = aligned_of context insn h aligned

pub word_access : (context : Context) (word : ℕ) → word < 2 ^ 32 → IsAccess (act_of context word)
word_access context word small = from (instruction_of word) (all_well_formed word (instruction_of word) small refl)
  where
    from : (o : Option Insn) → IfSome o IsWellFormed → IsAccess (option_map_or (effect_of context) o (act_is.Trap 2 word))
    from None h = tt
    from (Some insn) h = access_of context insn h
