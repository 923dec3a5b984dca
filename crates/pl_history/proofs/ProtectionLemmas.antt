-- The entries that a setup has are ones that the standard has.
use Rattle.std.proofs.Common.{◌≡◌, ℕ, ◌+◌, eqb, leb, true, List, [], ◌∷◌, length, Some, find, ap, sym, ◌∙◌, inl, inr}
use Rattle.std.proofs.lemmas.Bool.{cases_Bool, and_parts}
use Rattle.rv_pmp.specs.declared.rule.Rule.{Rule}
use Rattle.rv_pmp.specs.Rule.{is_valid}
use Rattle.pl_history.specs.Rules.{is_within, are_entries, is_protection}

found_after : (before number : ℕ) (entries : List (ℕ × Rule)) (entry : ℕ × Rule) → are_entries before entries ≡ true → find (λ (e : ℕ × Rule). eqb e.0 number) entries ≡ Some entry → is_valid entry.1 ≡ true
found_after before number [] entry all found = cc
found_after before number (first ∷ entries) entry all found =
    let rest = and_parts (is_valid first.1) (are_entries first.0 entries) (and_parts (is_within (before + 1) 12 first.0) _ all).1 in
    elim (cases_Bool (eqb first.0 number)) [
      | inl same ↦ (let is : Some first ≡ Some entry = rw same at found in let e : first ≡ entry = cc in ap (λ (x : ℕ × Rule). is_valid x.1) (sym e) ∙ rest.0)
      | inr other ↦ found_after first.0 number entries entry rest.1 (rw other at found)
    ]

pub found_valid : (number : ℕ) (entries : List (ℕ × Rule)) (entry : ℕ × Rule) → is_protection entries ≡ true → find (λ (e : ℕ × Rule). eqb e.0 number) entries ≡ Some entry → is_valid entry.1 ≡ true
found_valid number entries entry all found = found_after 1 number entries entry (and_parts (leb (length entries) 11) (are_entries 1 entries) all).1 found
