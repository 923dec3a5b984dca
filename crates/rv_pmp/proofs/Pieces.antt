-- The eight-byte pieces of a page: which one an address is in.
use Rattle.std.proofs.Common.{◌≡◌, ℕ, zero, suc, Bool, List, [], ◌∷◌, refl, add-zero, zero-add, ◌+◌, ◌*◌, ◌/◌, ◌-◌, ◌%◌, ◌<◌, ◌≤◌, true, eqb, subst, sym, inl, inr, arith}
use Rattle.std.proofs.lemmas.Bool.{cases_Bool, eqb-true, and_parts, and_from}
use Rattle.std.specs.List.{list_all, range_with_len}
use Rattle.std.proofs.lemmas.Bool.Decides.{nat_tests}
use Rattle.pl_base.specs.Width.{is_width}
use Rattle.pl_base.specs.declared.access.Kind.{Kind}
use Rattle.pl_base.specs.declared.access.Kind.TheVariants.{Fetch, Load, Store}
use Rattle.rv_pmp.specs.declared.rule.Rule.{Rule}
use Rattle.rv_pmp.specs.Pmp.{permits, pieces_allowed}
use Rattle.pl_base.specs.Span.{span, covers}

-- the number of the piece that an address is in, in a page at `start`
pub piece_of : ℕ → ℕ → ℕ
piece_of start at = at / 8 - start / 8

pub piece_of-lt : (start at : ℕ) → start % 8 ≡ 0 → at < start + 4096 → piece_of start at < 512
unfolding piece_of
piece_of-lt start at s h = omega arith

-- an aligned address is where its piece begins
pub piece_begins : (start at : ℕ) → start % 8 ≡ 0 → at % 8 ≡ 0 → start ≤ at → start + 8 * piece_of start at ≡ at
unfolding piece_of
piece_begins start at s a h = omega arith

-- what holds of 1, 2, 4 and 8 holds of each width
at_width : (P : ℕ → Type 0) → P 1 → P 2 → P 4 → P 8 → (width : ℕ) → is_width width ≡ true → P width
at_width P one two four eight width w = elim (cases_Bool (eqb width 1)) [
  | inl is ↦ subst P (sym (eqb-true width 1 is)) one
  | inr no_1 ↦ elim (cases_Bool (eqb width 2)) [
    | inl is ↦ subst P (sym (eqb-true width 2 is)) two
    | inr no_2 ↦ elim (cases_Bool (eqb width 4)) [
      | inl is ↦ subst P (sym (eqb-true width 4 is)) four
      | inr no_4 ↦ subst P (sym (eqb-true width 8 (rw (no_1, no_2, no_4) at w))) eight
    ]
  ]
]

within_eight : (pa width : ℕ) → is_width width ≡ true → pa % width ≡ 0 → pa % 8 + width ≤ 8
within_eight pa width w = at_width (λ n. pa % n ≡ 0 → pa % 8 + n ≤ 8) (λ a. omega arith) (λ a. omega arith) (λ a. omega arith) (λ a. omega arith) width w

width_positive : (width : ℕ) → is_width width ≡ true → 0 < width
width_positive width w = at_width (λ n. 0 < n) (omega arith) (omega arith) (omega arith) (omega arith) width w

-- an aligned access is some bytes of the piece that it begins in
pub piece_covers : (start pa width : ℕ) → start % 8 ≡ 0 → start ≤ pa → is_width width ≡ true → pa % width ≡ 0
    → (pa < pa + width) × (covers (span (start + 8 * piece_of start pa) (start + 8 * piece_of start pa + 8)) (span pa (pa + width)) ≡ true)
unfolding piece_of
piece_covers start pa width s h w a =
    let fits = within_eight pa width w a in
    let some = width_positive width w in
    (omega arith, grind (arith, nat_tests))

-- ---- the test over the pieces of a page

all_counted : (p : ℕ → Bool) (start count : ℕ) → ((k : ℕ) → k < count → p (start + k) ≡ true) → list_all p (range_with_len start count) ≡ true
all_counted p start zero each = refl
all_counted p start (suc count) each =
    and_from (p start) (list_all p (range_with_len (start + 1) count)) (rw add-zero at (each 0 (omega arith)))
    (all_counted p (start + 1) count (λ k below. subst (λ n. p n ≡ true) (omega arith) (each (suc k) (omega arith))))

each_counted : (p : ℕ → Bool) (start count : ℕ) → list_all p (range_with_len start count) ≡ true → (k : ℕ) → k < count → p (start + k) ≡ true
each_counted p start zero all k below = absurd (omega arith)
each_counted p start (suc count) all zero below = rw add-zero (and_parts (p start) (list_all p (range_with_len (start + 1) count)) all).0
each_counted p start (suc count) all (suc k) below =
    subst (λ n. p n ≡ true) (omega arith) (each_counted p (start + 1) count (and_parts (p start) (list_all p (range_with_len (start + 1) count)) all).1 k (omega arith))

-- a test of each kind is a test of all three
all_kinds : (g : Kind → Bool) → ((kind : Kind) → g kind ≡ true) → list_all g (Fetch ∷ Load ∷ Store ∷ []) ≡ true
all_kinds g each = rw (each Fetch, each Load, each Store) refl

each_kind : (g : Kind → Bool) → list_all g (Fetch ∷ Load ∷ Store ∷ []) ≡ true → (kind : Kind) → g kind ≡ true
each_kind g all Fetch = (and_parts _ _ all).0
each_kind g all Load = (and_parts _ _ (and_parts (g Fetch) _ all).1).0
each_kind g all Store = (and_parts _ _ (and_parts (g Load) _ (and_parts (g Fetch) _ all).1).1).0

pub pieces_allowed-from : (rules : List Rule) (start count : ℕ) → ((piece : ℕ) → piece < count → (kind : Kind) → permits rules (start + 8 * piece) 8 kind ≡ true)
    → pieces_allowed rules start count ≡ true
unfolding pieces_allowed
pieces_allowed-from rules start count each =
    all_counted (λ piece. list_all (permits rules (start + 8 * piece) 8) (Fetch ∷ Load ∷ Store ∷ [])) 0 count
    (λ k below. rw zero-add (all_kinds (permits rules (start + 8 * k) 8) (each k below)))

pub pieces_allowed-each : (rules : List Rule) (start count : ℕ) → pieces_allowed rules start count ≡ true
    → (piece : ℕ) → piece < count → (kind : Kind) → permits rules (start + 8 * piece) 8 kind ≡ true
unfolding pieces_allowed
pieces_allowed-each rules start count all piece below =
    each_kind (permits rules (start + 8 * piece) 8)
    (rw zero-add at (each_counted (λ k. list_all (permits rules (start + 8 * k) 8) (Fetch ∷ Load ∷ Store ∷ [])) 0 count all piece below))
