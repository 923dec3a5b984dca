-- Each entry that a text gives has a number from 2 to 12 and a valid rule.
use Rattle.std.proofs.Common.{◌≡◌, ℕ, ◌&&◌, true, List, [], ◌∷◌, Some, refl}
use Rattle.pl_io.specs.Numbers.{hex_value, dec_value}
use Rattle.rv_pmp.specs.declared.rule.Rule.{Rule}
use Rattle.rv_pmp.specs.Rule.{is_valid}
use Rattle.pl_history.specs.Rules.{is_within}
use Rattle.world_lines.specs.Words.{words_of}
use Rattle.world_lines.specs.Arguments.{within}
use Rattle.world_lines.specs.Forms.{all_three}
use Rattle.world_lines.specs.Entries.{cfg_of, valid_entry, entry_of_three, entry_of_words, entry_of}
use Rattle.world_lines.proofs.FormLemmas.{within_passes}
use Rattle.world_lines.proofs.Passes.{Passes, none_passes, some_passes, guarded_passes, then_passes, three_pass}

valid_passes : (entry : ℕ × Rule) → is_within 2 12 entry.0 ≡ true → Passes (λ (e : ℕ × Rule). is_within 2 12 e.0 && is_valid e.1) (valid_entry entry)
valid_passes entry number =
    let test = λ (e : ℕ × Rule). is_within 2 12 e.0 && is_valid e.1 in
    guarded_passes test (is_valid entry.1) (Some entry) (λ valid. some_passes test entry (rw (number, valid) refl))

three_passes : (number cfg addr : List ℕ) → Passes (λ (e : ℕ × Rule). is_within 2 12 e.0 && is_valid e.1) (entry_of_three number cfg addr)
unfolding entry_of_three
three_passes number cfg addr =
    let made : ℕ → ℕ → ℕ → ℕ × Rule = λ n c a. (n, record { cfg = c; addr = a }) in
    then_passes (λ (e : ℕ × Rule). is_within 2 12 e.0 && is_valid e.1) valid_entry (all_three made (within 2 12 (dec_value number)) (cfg_of cfg) (hex_value addr)) (λ entry is.
    valid_passes entry (three_pass (λ (e : ℕ × Rule). is_within 2 12 e.0) made (within 2 12 (dec_value number)) (cfg_of cfg) (hex_value addr)
    (λ n c a is_number _. within_passes 2 12 (dec_value number) n is_number) entry is))

words_pass : (words : List (List ℕ)) → Passes (λ (e : ℕ × Rule). is_within 2 12 e.0 && is_valid e.1) (entry_of_words words)
words_pass [] = none_passes (λ (e : ℕ × Rule). is_within 2 12 e.0 && is_valid e.1)
words_pass (a ∷ []) = none_passes (λ (e : ℕ × Rule). is_within 2 12 e.0 && is_valid e.1)
words_pass (a ∷ b ∷ []) = none_passes (λ (e : ℕ × Rule). is_within 2 12 e.0 && is_valid e.1)
words_pass (a ∷ b ∷ c ∷ []) = three_passes a b c
words_pass (a ∷ b ∷ c ∷ d ∷ more) = none_passes (λ (e : ℕ × Rule). is_within 2 12 e.0 && is_valid e.1)

pub entry_is_valid : (text : List ℕ) (entry : ℕ × Rule) → entry_of text ≡ Some entry → is_within 2 12 entry.0 && is_valid entry.1 ≡ true
unfolding entry_of
entry_is_valid text = words_pass (words_of text)
