-- A protection entry: its number, its configuration and its address register.
use Rattle.std.specs.Prelude.{ℕ, ◌==◌, List, [], ◌∷◌, length, Option, Some, None, option_and_then, if◌then◌else◌}
use Rattle.pl_io.specs.Numbers.{hex_value, dec_value}
use Rattle.rv_pmp.specs.declared.rule.Rule.{Rule}
use Rattle.rv_pmp.specs.Rule.{is_valid}
use Rattle.world_lines.specs.Words.{words_of}
use Rattle.world_lines.specs.Arguments.{within}
use Rattle.world_lines.specs.Forms.{all_three}

-- two hexadecimal digits
abbrev pub cfg_of : List ℕ → Option ℕ
cfg_of text = if length text == 2 then within 0 255 (hex_value text) else None

abbrev pub valid_entry : ℕ × Rule → Option (ℕ × Rule)
valid_entry entry = if is_valid entry.1 then Some entry else None

-- the entry's number is 2 to 12, and its rule is valid
unfoldable pub entry_of_three : List ℕ → List ℕ → List ℕ → Option (ℕ × Rule)
entry_of_three number cfg addr =
    option_and_then valid_entry (all_three (λ n c a. (n, record { cfg = c; addr = a })) (within 2 12 (dec_value number)) (cfg_of cfg) (hex_value addr))

-- `entry cfg addr`
abbrev pub entry_of_words : List (List ℕ) → Option (ℕ × Rule)
entry_of_words (number ∷ cfg ∷ addr ∷ []) = entry_of_three number cfg addr
entry_of_words _ = None

-- the entry that a text is
unfoldable pub entry_of : List ℕ → Option (ℕ × Rule)
entry_of text = entry_of_words (words_of text)
