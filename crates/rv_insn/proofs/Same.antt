-- Instructions that compare equal are one.
use Rattle.std.proofs.Common.{◌≡◌, ℕ, Bool, true, false, eqb, ◌&&◌, ℤ, Option, Some, None, refl, ap, ◌∙◌, rules}
use Rattle.std.specs.Option.{option_eq}
use Rattle.std.specs.Ordering.{int_eq}
use Rattle.std.proofs.lemmas.Bool.{and_parts, eqb-true, false≢true}
use denote.Enum.Bare.{sameb, same_true}
use Rattle.rv_insn.specs.contracts.insn.Cond.{the_type as the_cond}
use Rattle.rv_insn.specs.contracts.insn.AluOp.{the_type as the_op}
use Rattle.rv_insn.specs.contracts.insn.InsnEq.TheImpl.Laws.{laws-law}
use Rattle.std.specs.Bool.{beq}
use Rattle.std.proofs.lemmas.Bool.Decides.{Decides-int_eq}
use Rattle.rv_insn.specs.declared.insn.Insn.{Insn}
use Rattle.rv_insn.specs.declared.insn.Insn.TheVariants.{Lui, Auipc, Jal, Jalr, Branch, Load, Store, OpImm, Op, Fence, Ecall, Ebreak}
use Rattle.rv_insn.specs.contracts.insn.InsnPartialEq.TheImpl as derived

abbrev eq : Insn → Insn → Bool
eq = derived.eq-value.it

-- ---- the tests of fields, one after another

number : (a b : ℕ) (rest : Bool) → (eqb a b && rest) ≡ true → (a ≡ b) × (rest ≡ true)
number a b rest h = let p = and_parts (eqb a b) rest h in (eqb-true a b p.0, p.1)

last : (i j : ℤ) → int_eq i j ≡ true → i ≡ j
last i j h = (Decides-int_eq i j).0 h

two : (a b : ℕ) (i j : ℤ) → (eqb a b && int_eq i j) ≡ true → (a ≡ b) × (i ≡ j)
two a b i j h = let p = number a b (int_eq i j) h in (p.0, last i j p.1)

three : (a b c d : ℕ) (i j : ℤ) → (eqb a b && (eqb c d && int_eq i j)) ≡ true → (a ≡ b) × (c ≡ d) × (i ≡ j)
three a b c d i j h =
    let p = number a b (eqb c d && int_eq i j) h in
    let q = two c d i j p.1 in
    (p.0, q.0, q.1)

flag : (a b : Bool) → beq a b ≡ true → a ≡ b
flag true true h = refl
flag false false h = refl
flag true false h = absurd (false≢true h)
flag false true h = absurd (false≢true h)

same : (a b : Insn) → eq a b ≡ true → a ≡ b
same (Lui d i) (Lui e j) h = let p = two d e i j h in cc
same (Lui d i) _ h = absurd (false≢true h)
same (Auipc d i) (Auipc e j) h = let p = two d e i j h in cc
same (Auipc d i) _ h = absurd (false≢true h)
same (Jal d i) (Jal e j) h = let p = two d e i j h in cc
same (Jal d i) _ h = absurd (false≢true h)
same (Jalr d a i) (Jalr e b j) h = let p = three d e a b i j h in cc
same (Jalr d a i) _ h = absurd (false≢true h)
same (Branch c a b i) (Branch c' a' b' i') h =
    let p = and_parts (sameb the_cond c c') (eqb a a' && (eqb b b' && int_eq i i')) h in
    let first = same_true the_cond (search rules) c c' p.0 in
    let others = three a a' b b' i i' p.1 in
    cc
same (Branch c a b i) _ h = absurd (false≢true h)
same (Load w s d a i) (Load w' s' d' a' i') h =
    let p = number w w' (beq s s' && (eqb d d' && (eqb a a' && int_eq i i'))) h in
    let q = and_parts (beq s s') (eqb d d' && (eqb a a' && int_eq i i')) p.1 in
    let second = flag s s' q.0 in
    let others = three d d' a a' i i' q.1 in
    cc
same (Load w s d a i) _ h = absurd (false≢true h)
same (Store w a b i) (Store w' a' b' i') h =
    let p = number w w' (eqb a a' && (eqb b b' && int_eq i i')) h in
    let others = three a a' b b' i i' p.1 in
    cc
same (Store w a b i) _ h = absurd (false≢true h)
same (OpImm op d a i) (OpImm op' d' a' i') h =
    let p = and_parts (sameb the_op op op') (eqb d d' && (eqb a a' && int_eq i i')) h in
    let first = same_true the_op (search rules) op op' p.0 in
    let others = three d d' a a' i i' p.1 in
    cc
same (OpImm op d a i) _ h = absurd (false≢true h)
same (Op op d a b) (Op op' d' a' b') h =
    let p = and_parts (sameb the_op op op') (eqb d d' && (eqb a a' && eqb b b')) h in
    let first = same_true the_op (search rules) op op' p.0 in
    let q = number d d' (eqb a a' && eqb b b') p.1 in
    let r = number a a' (eqb b b') q.1 in
    let final = eqb-true b b' r.1 in
    cc
same (Op op d a b) _ h = absurd (false≢true h)
same (Fence n d) (Fence m e) h =
    let p = number n m (eqb d e) h in
    let final = eqb-true d e p.1 in
    cc
same (Fence n d) _ h = absurd (false≢true h)
same Ecall Ecall h = refl
same Ecall _ h = absurd (false≢true h)
same Ebreak Ebreak h = refl
same Ebreak _ h = absurd (false≢true h)

-- what the code's test of an answer tells
pub told : (o : Option Insn) (insn : Insn) → option_eq eq o (Some insn) ≡ true → o ≡ Some insn
told None insn h = absurd (false≢true h)
told (Some a) insn h = ap Some (same a insn h)

pub tells : (o : Option Insn) (insn : Insn) → o ≡ Some insn → option_eq eq o (Some insn) ≡ true
tells o insn e = ap (λ x. option_eq eq x (Some insn)) e ∙ laws-law.refl insn
