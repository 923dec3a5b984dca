-- The table, opcode by opcode.
use Rattle.std.proofs.Common.{◌≡◌, ◌≢◌, ℕ, Bool, true, false, ◌&&◌, cond, eqb, List, [], ◌∷◌, Option, Some, None, find, filter, refl, ap, ◌∙◌}
use Rattle.std.specs.List.{list_all}
use Rattle.std.specs.Option.{option_map}
use Rattle.std.proofs.lemmas.Bool.Decides.{nat_tests}
use Rattle.std.proofs.lemmas.Bool.{ne_eqb}
use Rattle.rv_insn.specs.declared.insn.Insn.{Insn}
use Rattle.rv_insn.specs.Word.{opcode}
use Rattle.rv_insn.specs.Table.{Row, has, table, instruction_of}

find-filter : {X : Type 0} (p q : X → Bool) (xs : List X) → find (λ x. p x && q x) xs ≡ find q (filter p xs)
find-filter p q [] = refl
find-filter p q (x ∷ xs) =
    elim (p x) as (λ b. cond (b && q x) (Some x) (find (λ y. p y && q y) xs) ≡ find q (cond b (x ∷ filter p xs) (filter p xs))) [
      | true ↦ ap (cond (q x) (Some x)) (find-filter p q xs)
      | false ↦ find-filter p q xs
    ]

-- what the rows of an opcode make of a word
abbrev pub at_opcode : ℕ → ℕ → Option Insn
at_opcode code word = option_map (λ (row : Row). row.insn word) (find (λ (row : Row). list_all (has word) row.fixed) (filter (λ (row : Row). eqb code row.opcode) table))

pub by_opcode : (code word : ℕ) → opcode word ≡ code → instruction_of word ≡ at_opcode code word
unfolding instruction_of
by_opcode code word e =
    ap (option_map (λ (row : Row). row.insn word)) (find-filter (λ (row : Row). eqb (opcode word) row.opcode) (λ row. list_all (has word) row.fixed) table)
    ∙ ap (λ k. at_opcode k word) e

-- ---- for the tactics: each opcode alone, with what a test tells

pub branches-at : (word : ℕ) → opcode word ≡ 99 → instruction_of word ≡ at_opcode 99 word
branches-at word e = by_opcode 99 word e

pub loads-at : (word : ℕ) → opcode word ≡ 3 → instruction_of word ≡ at_opcode 3 word
loads-at word e = by_opcode 3 word e

pub stores-at : (word : ℕ) → opcode word ≡ 35 → instruction_of word ≡ at_opcode 35 word
stores-at word e = by_opcode 35 word e

pub jumps-at : (word : ℕ) → opcode word ≡ 103 → instruction_of word ≡ at_opcode 103 word
jumps-at word e = by_opcode 103 word e

pub immediates-at : (word : ℕ) → opcode word ≡ 19 → instruction_of word ≡ at_opcode 19 word
immediates-at word e = by_opcode 19 word e

pub operations-at : (word : ℕ) → opcode word ≡ 51 → instruction_of word ≡ at_opcode 51 word
operations-at word e = by_opcode 51 word e

pub word_immediates-at : (word : ℕ) → opcode word ≡ 27 → instruction_of word ≡ at_opcode 27 word
word_immediates-at word e = by_opcode 27 word e

pub word_operations-at : (word : ℕ) → opcode word ≡ 59 → instruction_of word ≡ at_opcode 59 word
word_operations-at word e = by_opcode 59 word e

pub fences-at : (word : ℕ) → opcode word ≡ 15 → instruction_of word ≡ at_opcode 15 word
fences-at word e = by_opcode 15 word e

pub calls-at : (word : ℕ) → opcode word ≡ 115 → instruction_of word ≡ at_opcode 115 word
calls-at word e = by_opcode 115 word e

pub uppers-at : (word : ℕ) → opcode word ≡ 55 → instruction_of word ≡ at_opcode 55 word
uppers-at word e = by_opcode 55 word e

pub pc_uppers-at : (word : ℕ) → opcode word ≡ 23 → instruction_of word ≡ at_opcode 23 word
pc_uppers-at word e = by_opcode 23 word e

pub links-at : (word : ℕ) → opcode word ≡ 111 → instruction_of word ≡ at_opcode 111 word
links-at word e = by_opcode 111 word e

pub ruleset branches = (nat_tests, branches-at)

pub ruleset loads = (nat_tests, loads-at)

pub ruleset stores = (nat_tests, stores-at)

pub ruleset jumps = (nat_tests, jumps-at)

pub ruleset immediates = (nat_tests, immediates-at)

pub ruleset operations = (nat_tests, operations-at)

pub ruleset word_immediates = (nat_tests, word_immediates-at)

pub ruleset word_operations = (nat_tests, word_operations-at)

pub ruleset fences = (nat_tests, fences-at)

pub ruleset calls = (nat_tests, calls-at)

pub ruleset uppers = (nat_tests, uppers-at)

pub ruleset pc_uppers = (nat_tests, pc_uppers-at)

pub ruleset links = (nat_tests, links-at)

-- ---- no row has another opcode

pub unlisted : (word : ℕ) → opcode word ≢ 55 → opcode word ≢ 23 → opcode word ≢ 111 → opcode word ≢ 103 → opcode word ≢ 99 → opcode word ≢ 3 → opcode word ≢ 35
    → opcode word ≢ 19 → opcode word ≢ 27 → opcode word ≢ 51 → opcode word ≢ 59 → opcode word ≢ 15 → opcode word ≢ 115 → instruction_of word ≡ None
unlisted word a b c d e f g h i j k l m =
    by_opcode (opcode word) word refl ∙ simp (
      ne_eqb (opcode word) 55 a,
      ne_eqb (opcode word) 23 b,
      ne_eqb (opcode word) 111 c,
      ne_eqb (opcode word) 103 d,
      ne_eqb (opcode word) 99 e,
      ne_eqb (opcode word) 3 f,
      ne_eqb (opcode word) 35 g,
      ne_eqb (opcode word) 19 h,
      ne_eqb (opcode word) 27 i,
      ne_eqb (opcode word) 51 j,
      ne_eqb (opcode word) 59 k,
      ne_eqb (opcode word) 15 l,
      ne_eqb (opcode word) 115 m,
    )
