-- What the words of tables say, bit by bit.
use Rattle.std.proofs.Common.{◌≡◌, ℕ, suc, ◌+◌, ◌*◌, ◌/◌, ◌%◌, ◌^◌, ◌<◌, ◌==◌, ◌&&◌, Bool, true, false, not, nat_lt, refl, ap, sym, ◌∙◌, subst, arith, inl, inr, lit<}
use Rattle.std.proofs.lemmas.Bool.{and_parts, eqb-true, ltb-true, or_cases}
use Rattle.std.proofs.lemmas.Bool.Decides.{nat_tests}
use Rattle.std.proofs.lemmas.Nat.Bits.{bit_at_cat_low}
use Rattle.pl_base.specs.Perms.{grants, are_page_perms}
use Rattle.pl_base.specs.declared.access.Kind.{Kind}
use Rattle.pl_base.specs.declared.access.Kind.TheVariants.{Fetch, Load, Store}
use Rattle.pl_base.specs.declared.access.Mode.{Mode}
use Rattle.pl_base.specs.declared.access.Mode.TheVariants.{Super, User}
use Rattle.pl_base.specs.declared.perms.Perms.{Perms}
use Rattle.rv_sv39.specs.Walk.{leads_on, translates}
use Rattle.rv_sv39.specs.Word.{has, is_aligned, ppn_of, perms_of}
use Rattle.mon_tables.specs.SpaceWalks.{same_mode}
use Rattle.mon_tables.specs.Words.{dirty_bit, leaf_word, pointer_word, ppn_of_page, user_bit}

low_bit : (n c i : ℕ) → i < 10 → has (n * 1024 + c) i ≡ has c i
low_bit n c i small = ap (λ b. b == 1) (bit_at_cat_low n 10 c i small)

pub ppn_of-pointer : (page : ℕ) → page < 2 ^ 32 → ppn_of (pointer_word page) ≡ ppn_of_page page
ppn_of-pointer page small = omega arith

no_zero : (level : ℕ) → (suc level == 0) ≡ false
no_zero level = grind (arith, nat_tests)

high_bits : (n c : ℕ) → n < 2 ^ 44 → c < 1024 → ((n * 1024 + c) / 2 ^ 54 == 0) ≡ true
high_bits n c small low = let e : (n * 1024 + c) / 2 ^ 54 ≡ 0 = omega arith in ap (λ q. q == 0) e

pub pointer_leads : (level page : ℕ) → page < 2 ^ 32 → leads_on (suc level) (pointer_word page) ≡ true
pointer_leads level page small =
    let n : ℕ = ppn_of_page page in
    rw (
      low_bit n 1 0 (lit< tt),
      low_bit n 1 1 (lit< tt),
      low_bit n 1 2 (lit< tt),
      low_bit n 1 3 (lit< tt),
      low_bit n 1 4 (lit< tt),
      low_bit n 1 6 (lit< tt),
      low_bit n 1 7 (lit< tt),
      high_bits n 1 (omega arith) (lit< tt),
      no_zero level,
    ) refl

permits : (n c : ℕ) → c < 1024 → (n * 1024 + c) / 2 % 8 ≡ (0 * 1024 + c) / 2 % 8
permits n c low = omega arith

aligned : (word : ℕ) → is_aligned 0 word ≡ true
aligned word = let whole : word / 2 ^ 10 % 2 ^ 44 % 1 ≡ 0 = omega arith in ap (λ r. r == 0) whole

-- the number of the page doesn't matter to what a leaf lets through
translates_low : (n c : ℕ) (kind : Kind) (mode : Mode) → n < 2 ^ 44 → c < 1024 → translates 0 (n * 1024 + c) kind mode ≡ translates 0 (0 * 1024 + c) kind mode
translates_low n c Fetch Super small low =
    rw (low_bit n c 0 (lit< tt), low_bit n c 1 (lit< tt), low_bit n c 2 (lit< tt), low_bit n c 3 (lit< tt), low_bit n c 4 (lit< tt), low_bit n c 6 (lit< tt), high_bits n c small low, permits n c low, aligned (n * 1024 + c)) (
    rw (low_bit 0 c 0 (lit< tt), low_bit 0 c 1 (lit< tt), low_bit 0 c 2 (lit< tt), low_bit 0 c 3 (lit< tt), low_bit 0 c 4 (lit< tt), low_bit 0 c 6 (lit< tt), high_bits 0 c (lit< tt) low, aligned (0 * 1024 + c)) refl)
translates_low n c Fetch User small low =
    rw (low_bit n c 0 (lit< tt), low_bit n c 1 (lit< tt), low_bit n c 2 (lit< tt), low_bit n c 3 (lit< tt), low_bit n c 4 (lit< tt), low_bit n c 6 (lit< tt), high_bits n c small low, permits n c low, aligned (n * 1024 + c)) (
    rw (low_bit 0 c 0 (lit< tt), low_bit 0 c 1 (lit< tt), low_bit 0 c 2 (lit< tt), low_bit 0 c 3 (lit< tt), low_bit 0 c 4 (lit< tt), low_bit 0 c 6 (lit< tt), high_bits 0 c (lit< tt) low, aligned (0 * 1024 + c)) refl)
translates_low n c Load Super small low =
    rw (low_bit n c 0 (lit< tt), low_bit n c 1 (lit< tt), low_bit n c 2 (lit< tt), low_bit n c 3 (lit< tt), low_bit n c 4 (lit< tt), low_bit n c 6 (lit< tt), high_bits n c small low, permits n c low, aligned (n * 1024 + c)) (
    rw (low_bit 0 c 0 (lit< tt), low_bit 0 c 1 (lit< tt), low_bit 0 c 2 (lit< tt), low_bit 0 c 3 (lit< tt), low_bit 0 c 4 (lit< tt), low_bit 0 c 6 (lit< tt), high_bits 0 c (lit< tt) low, aligned (0 * 1024 + c)) refl)
translates_low n c Load User small low =
    rw (low_bit n c 0 (lit< tt), low_bit n c 1 (lit< tt), low_bit n c 2 (lit< tt), low_bit n c 3 (lit< tt), low_bit n c 4 (lit< tt), low_bit n c 6 (lit< tt), high_bits n c small low, permits n c low, aligned (n * 1024 + c)) (
    rw (low_bit 0 c 0 (lit< tt), low_bit 0 c 1 (lit< tt), low_bit 0 c 2 (lit< tt), low_bit 0 c 3 (lit< tt), low_bit 0 c 4 (lit< tt), low_bit 0 c 6 (lit< tt), high_bits 0 c (lit< tt) low, aligned (0 * 1024 + c)) refl)
translates_low n c Store Super small low =
    rw (low_bit n c 0 (lit< tt), low_bit n c 1 (lit< tt), low_bit n c 2 (lit< tt), low_bit n c 3 (lit< tt), low_bit n c 4 (lit< tt), low_bit n c 6 (lit< tt), low_bit n c 7 (lit< tt), high_bits n c small low, permits n c low, aligned (n * 1024 + c)) (
    rw (low_bit 0 c 0 (lit< tt), low_bit 0 c 1 (lit< tt), low_bit 0 c 2 (lit< tt), low_bit 0 c 3 (lit< tt), low_bit 0 c 4 (lit< tt), low_bit 0 c 6 (lit< tt), low_bit 0 c 7 (lit< tt), high_bits 0 c (lit< tt) low, aligned (0 * 1024 + c)) refl)
translates_low n c Store User small low =
    rw (low_bit n c 0 (lit< tt), low_bit n c 1 (lit< tt), low_bit n c 2 (lit< tt), low_bit n c 3 (lit< tt), low_bit n c 4 (lit< tt), low_bit n c 6 (lit< tt), low_bit n c 7 (lit< tt), high_bits n c small low, permits n c low, aligned (n * 1024 + c)) (
    rw (low_bit 0 c 0 (lit< tt), low_bit 0 c 1 (lit< tt), low_bit 0 c 2 (lit< tt), low_bit 0 c 3 (lit< tt), low_bit 0 c 4 (lit< tt), low_bit 0 c 6 (lit< tt), low_bit 0 c 7 (lit< tt), high_bits 0 c (lit< tt) low, aligned (0 * 1024 + c)) refl)

-- the bits of a leaf below its page number
pub leaf_code : Perms → Mode → ℕ
leaf_code perms mode = dirty_bit perms + 64 + user_bit mode + 2 * perms.0 + 1

leaf_word-code : (page : ℕ) (perms : Perms) (mode : Mode) → leaf_word page perms mode ≡ ppn_of_page page * 1024 + leaf_code perms mode
unfolding leaf_code
leaf_word-code page perms mode = omega arith

by_perms : (P : Perms → Type 0) → P (record { 0 = 1 }) → P (record { 0 = 3 }) → P (record { 0 = 5 }) → P (record { 0 = 7 }) → (perms : Perms) → are_page_perms perms ≡ true → P perms
by_perms P one three five seven perms are = elim (or_cases (perms.0 == 1) _ are) [
  | inl is ↦ at 1 one is
  | inr later ↦ elim (or_cases (perms.0 == 3) _ later) [
    | inl is ↦ at 3 three is
    | inr last ↦ elim (or_cases (perms.0 == 5) _ last) [ inl is ↦ at 5 five is | inr is ↦ at 7 seven is ]
  ]
]
  where
    at : (n : ℕ) → P (record { 0 = n }) → (perms.0 == n) ≡ true → P perms
    at n here is = subst (λ b. P (record { 0 = b })) (sym (eqb-true perms.0 n is)) here

-- ---- leaves, by a test of the few codes that there are

same_bool : Bool → Bool → Bool
same_bool true b = b
same_bool false b = not b

same_bool-true : (a b : Bool) → same_bool a b ≡ true → a ≡ b
unfolding same_bool
same_bool-true true b is = sym is
same_bool-true false true is = is
same_bool-true false false is = refl

in_modes : (Mode → Bool) → Bool
in_modes p = p Super && p User

in_kinds : (Kind → Bool) → Bool
in_kinds p = p Fetch && (p Load && p Store)

in_modes-at : (p : Mode → Bool) → in_modes p ≡ true → (mode : Mode) → p mode ≡ true
unfolding in_modes
in_modes-at p all Super = (and_parts (p Super) (p User) all).0
in_modes-at p all User = (and_parts (p Super) (p User) all).1

in_kinds-at : (p : Kind → Bool) → in_kinds p ≡ true → (kind : Kind) → p kind ≡ true
unfolding in_kinds
in_kinds-at p all Fetch = (and_parts (p Fetch) _ all).0
in_kinds-at p all Load = (and_parts (p Load) (p Store) (and_parts (p Fetch) _ all).1).0
in_kinds-at p all Store = (and_parts (p Load) (p Store) (and_parts (p Fetch) _ all).1).1

lets_through : Perms → Mode → Mode → Kind → Bool
lets_through perms owner mode kind = same_bool (translates 0 (0 * 1024 + leaf_code perms owner) kind mode) (same_mode owner mode && grants perms kind)

lets_all_through : Perms → Bool
lets_all_through perms = in_modes (λ owner. in_modes (λ mode. in_kinds (λ kind. lets_through perms owner mode kind)))

all_let_through : (perms : Perms) → are_page_perms perms ≡ true → lets_all_through perms ≡ true
unfolding lets_all_through lets_through in_modes in_kinds same_bool leaf_code
all_let_through = by_perms (λ perms. lets_all_through perms ≡ true) refl refl refl refl

code_fits : Perms → Mode → Bool
code_fits perms owner = nat_lt (leaf_code perms owner) 1024 && (0 * 1024 + leaf_code perms owner) / 2 % 8 == perms.0

all_codes_fit : (perms : Perms) → are_page_perms perms ≡ true → in_modes (code_fits perms) ≡ true
unfolding in_modes code_fits leaf_code
all_codes_fit = by_perms (λ perms. in_modes (code_fits perms) ≡ true) refl refl refl refl

module _ (page : ℕ) (perms : Perms) (owner : Mode) (small : page < 2 ^ 32) (are : are_page_perms perms ≡ true) where
  code_is : (leaf_code perms owner < 1024) × ((0 * 1024 + leaf_code perms owner) / 2 % 8 ≡ perms.0)
  unfolding code_fits
  code_is =
      let both = and_parts (nat_lt (leaf_code perms owner) 1024) _ (in_modes-at (code_fits perms) (all_codes_fit perms are) owner) in
      (ltb-true (leaf_code perms owner) 1024 both.0, eqb-true _ perms.0 both.1)

  pub leaf_translates : (mode : Mode) (kind : Kind) → translates 0 (leaf_word page perms owner) kind mode ≡ (same_mode owner mode && grants perms kind)
  unfolding lets_all_through lets_through
  leaf_translates mode kind =
      let low : leaf_code perms owner < 1024 = code_is.0 in
      ap (λ word. translates 0 word kind mode) (leaf_word-code page perms owner)
      ∙ (translates_low (ppn_of_page page) (leaf_code perms owner) kind mode (omega arith) low
      ∙ same_bool-true _ _ (in_kinds-at (lets_through perms owner mode) (in_modes-at (λ m. in_kinds (lets_through perms owner m))
      (in_modes-at (λ o. in_modes (λ m. in_kinds (lets_through perms o m))) (all_let_through perms are) owner) mode) kind))

  pub ppn_of-leaf : ppn_of (leaf_word page perms owner) ≡ ppn_of_page page
  ppn_of-leaf =
      let low : leaf_code perms owner < 1024 = code_is.0 in
      let is : leaf_word page perms owner ≡ ppn_of_page page * 1024 + leaf_code perms owner = leaf_word-code page perms owner in
      ap ppn_of is ∙ omega arith

  pub perms_of-leaf : perms_of (leaf_word page perms owner) ≡ perms
  perms_of-leaf =
      let number : leaf_word page perms owner / 2 % 8 ≡ perms.0 = ap (λ word. word / 2 % 8) (leaf_word-code page perms owner) ∙ (permits (ppn_of_page page) (leaf_code perms owner) code_is.0 ∙ code_is.1) in
      ap (λ b. let p : Perms = record { 0 = b } in p) number
