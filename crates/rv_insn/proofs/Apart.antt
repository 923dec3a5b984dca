-- No word fits two rows of the table: each two rows fix some field to different values.
use Rattle.std.proofs.Common.{◌≡◌, ◌↔◌, ℕ, zero, suc, ◌<◌, Bool, true, not, ◌&&◌, ◌||◌, cond, eqb, List, [], ◌∷◌, length, get_or, Option, Some, None, find, sym, refl, ap, ◌∙◌, arith, inl, inr}
use Rattle.std.specs.List.{list_all, list_any, Contains}
use Rattle.std.specs.Option.{option_map}
use Rattle.std.proofs.lemmas.Bool.{and_parts, or_cases, false≢true, cases_Bool, eqb-true, eqb-false, not-true}
use Rattle.rv_insn.specs.declared.insn.Insn.{Insn}
use Rattle.rv_insn.specs.Word.{opcode, bits}
use Rattle.rv_insn.specs.Table.{Field, Row, has, fits, table, instruction_of, Decodes}

-- ---- lists

both : {X : Type 0} (p q : X → Bool) (xs : List X) → list_any p xs ≡ true → list_all q xs ≡ true → (x : X) × (p x ≡ true) × (q x ≡ true)
both p q [] any all = absurd (false≢true any)
both p q (x ∷ xs) any all =
    let parts = and_parts (q x) (list_all q xs) all in
    elim (or_cases (p x) (list_any p xs) any) [
      | inl here ↦ (x, here, parts.0)
      | inr there ↦ both p q xs there parts.1
    ]

all_at : {X : Type 0} (p : X → Bool) (xs : List X) (k : ℕ) (d : X) → list_all p xs ≡ true → k < length xs → p (get_or xs k d) ≡ true
all_at p [] k d all h = absurd (omega arith)
all_at p (x ∷ xs) zero d all h = (and_parts (p x) (list_all p xs) all).0
all_at p (x ∷ xs) (suc k) d all h = all_at p xs k d (and_parts (p x) (list_all p xs) all).1 (omega arith)

found : {X : Type 0} (p : X → Bool) (xs : List X) (y : X) → find p xs ≡ Some y → Contains xs y × (p y ≡ true)
found p [] y e = cc
found p (x ∷ xs) y e =
    elim (cases_Bool (p x)) [
      | inl passes ↦
          let same : x ≡ y = let h : cond (p x) (Some x) (find p xs) ≡ Some y = e in let k = rw passes at h in cc in
          ((zero, omega arith, same), ap p (sym same) ∙ passes)
      | inr fails ↦
          let h : cond (p x) (Some x) (find p xs) ≡ Some y = e in
          let rest = found p xs y (rw fails at h) in
          ((suc rest.0.0, omega (arith, rest.0.1), rest.0.2), rest.1)
    ]

-- ---- rows

-- the two fix one field to different values
abbrev differs : Field → Field → Bool
differs f g = eqb f.high g.high && (eqb f.low g.low && not (eqb f.value g.value))

abbrev apart : Row → Row → Bool
apart r s = not (eqb r.opcode s.opcode) || list_any (λ f. list_any (differs f) s.fixed) r.fixed

abbrev all_apart : List Row → Bool
all_apart [] = true
all_apart (r ∷ rows) = list_all (apart r) rows && all_apart rows

table_apart : all_apart table ≡ true
table_apart = refl

clash : (word : ℕ) (f g : Field) → differs f g ≡ true → has word f ≡ true → has word g ≡ true → ⊥
clash word f g d hf hg =
    let outer = and_parts (eqb f.high g.high) (eqb f.low g.low && not (eqb f.value g.value)) d in
    let inner = and_parts (eqb f.low g.low) (not (eqb f.value g.value)) outer.1 in
    let high : f.high ≡ g.high = eqb-true f.high g.high outer.0 in
    let low : f.low ≡ g.low = eqb-true f.low g.low inner.0 in
    let at_f : bits word f.high f.low ≡ f.value = eqb-true (bits word f.high f.low) f.value hf in
    let at_g : bits word g.high g.low ≡ g.value = eqb-true (bits word g.high g.low) g.value hg in
    let same : f.value ≡ g.value = sym at_f ∙ ap (λ h. bits word h f.low) high ∙ ap (λ l. bits word g.high l) low ∙ at_g in
    eqb-false f.value g.value (not-true (eqb f.value g.value) inner.1) same

-- a word that fits one of two rows apart doesn't fit the other
only_one : (r s : Row) (word : ℕ) → apart r s ≡ true → fits r word ≡ true → fits s word ≡ true → ⊥
only_one r s word a fr fs =
    let at_r = and_parts (eqb (opcode word) r.opcode) (list_all (has word) r.fixed) fr in
    let at_s = and_parts (eqb (opcode word) s.opcode) (list_all (has word) s.fixed) fs in
    elim (or_cases (not (eqb r.opcode s.opcode)) (list_any (λ f. list_any (differs f) s.fixed) r.fixed) a) [
      | inl opcodes ↦
          eqb-false r.opcode s.opcode (not-true (eqb r.opcode s.opcode) opcodes) (sym (eqb-true (opcode word) r.opcode at_r.0) ∙ eqb-true (opcode word) s.opcode at_s.0)
      | inr fields ↦
          let f = both (λ f. list_any (differs f) s.fixed) (has word) r.fixed fields at_r.1 in
          let g = both (differs f.0) (has word) s.fixed f.1 at_s.1 in
          clash word f.0 g.0 g.1 f.2 g.2
    ]

finds : (rows : List Row) (k : ℕ) (r : Row) (word : ℕ) → all_apart rows ≡ true → k < length rows → get_or rows k r ≡ r → fits r word ≡ true → find (λ row. fits row word) rows ≡ Some r
finds [] k r word a h e f = absurd (omega arith)
finds (x ∷ rows) zero r word a h e f = let same : x ≡ r = e in rw (ap (λ y. fits y word) same ∙ f) (ap Some same)
finds (x ∷ rows) (suc k) r word a h e f =
    let parts = and_parts (list_all (apart x) rows) (all_apart rows) a in
    let apart_from : apart x r ≡ true = ap (apart x) (sym e) ∙ all_at (apart x) rows k r parts.0 (omega arith) in
    elim (cases_Bool (fits x word)) [
      | inl passes ↦ absurd (only_one x r word apart_from passes f)
      | inr fails ↦ rw fails (finds rows k r word parts.1 (omega arith) e f)
    ]

-- ---- the two directions

pub only_row : (word : ℕ) (insn : Insn) → Decodes word insn → instruction_of word ≡ Some insn
unfolding instruction_of
only_row word insn d =
    ap (option_map (λ (row : Row). row.insn word)) (finds table d.listed.0 d.row word table_apart d.listed.1 d.listed.2 d.fitting) ∙ ap Some d.made

option_map-some : {A B : Type 0} (f : A → B) (o : Option A) (y : B) → option_map f o ≡ Some y → (x : A) × (o ≡ Some x) × (f x ≡ y)
option_map-some f None y e = cc
option_map-some f (Some x) y e = (x, refl, cc)

pub some_row : (word : ℕ) (insn : Insn) → instruction_of word ≡ Some insn → Decodes word insn
unfolding instruction_of
some_row word insn e =
    let row = option_map-some (λ (r : Row). r.insn word) (find (λ r. fits r word) table) insn e in
    let at = found (λ r. fits r word) table row.0 row.1 in
    record { row = row.0; listed = at.0; fitting = at.1; made = row.2 }

pub exact_rows : (word : ℕ) (r : Option Insn) → r ≡ instruction_of word → (insn : Insn) → (r ≡ Some insn) ↔ Decodes word insn
exact_rows word r e insn = (λ h. some_row word insn (sym e ∙ h), λ d. e ∙ only_row word insn d)
