-- The forms of lines, as tables of a word, its arguments and the line that they give.
use Rattle.std.specs.Prelude.{ℕ, List, [], ◌∷◌, codes, Option, Some, None, option_map, if◌then◌else◌}
use Rattle.std.specs.Str.{bytes_eq}
use Rattle.pl_io.specs.Numbers.{hex_value}
use Rattle.pl_history.specs.declared.line.Line.{Line}
use Rattle.pl_history.specs.declared.line.Line.TheVariants as line
use Rattle.pl_history.specs.declared.line.AttackLine.{AttackLine}
use Rattle.pl_history.specs.declared.line.AttackLine.TheVariants as attack
use Rattle.world_lines.specs.Words.{words_of}
use Rattle.world_lines.specs.Arguments.{small_number_of, short_of, enclave_of, budget_of, length_of, address_of, perms_of_text, hex_bytes_of, name_of}
use Rattle.world_lines.specs.PageLists.{page_list_of}

-- what two arguments give, where each is of its kind
abbrev pub both : {A B C : Type 0} → (A → B → C) → Option A → Option B → Option C
both f (Some a) (Some b) = Some (f a b)
both f _ _ = None

-- the same of three
abbrev pub all_three : {A B C D : Type 0} → (A → B → C → D) → Option A → Option B → Option C → Option D
all_three f (Some a) (Some b) (Some c) = Some (f a b c)
all_three f _ _ _ = None

-- ---- of a hart

unfoldable pub line_of_one : List ℕ → List ℕ → Option Line
line_of_one word a =
    if bytes_eq word (codes "load") then option_map (λ va. line.Load va) (address_of a)
    else if bytes_eq word (codes "unmap") then option_map (λ va. line.Unmap va) (address_of a)
    else if bytes_eq word (codes "take") then option_map (λ e. line.Take e) (enclave_of a)
    else if bytes_eq word (codes "destroy") then option_map (λ e. line.Destroy e) (enclave_of a)
    else if bytes_eq word (codes "drop") then option_map (λ s. line.Drop s) (enclave_of a)
    else None

unfoldable pub line_of_two : List ℕ → List ℕ → List ℕ → Option Line
line_of_two word a b =
    if bytes_eq word (codes "store") then both (λ va w. line.Store va w) (address_of a) (hex_value b)
    else if bytes_eq word (codes "grant") then both (λ e page. line.Grant e page) (enclave_of a) (small_number_of b)
    else if bytes_eq word (codes "run") then both (λ e budget. line.Run e budget) (enclave_of a) (budget_of b)
    else if bytes_eq word (codes "resume") then both (λ e budget. line.Resume e budget) (enclave_of a) (budget_of b)
    else if bytes_eq word (codes "send") then both (λ e w. line.Send e w) (enclave_of a) (hex_value b)
    else if bytes_eq word (codes "after") then both (λ j k. line.After j k) (short_of a) (small_number_of b)
    else None

abbrev pub map_line_of : List ℕ → List ℕ → List ℕ → Option Line
map_line_of a b c = all_three (λ va page perms. line.Map va page perms) (address_of a) (small_number_of b) (perms_of_text c)

-- with a list of pages as the last argument
abbrev pub line_of_pages : List ℕ → List ℕ → List ℕ → Option (List ℕ) → Option Line
line_of_pages word a b pages =
    if bytes_eq word (codes "create") then all_three (λ e image pages. line.Create e image pages) (enclave_of a) (short_of b) pages
    else if bytes_eq word (codes "shadow") then all_three (λ e image pages. line.Shadow e image pages) (enclave_of a) (short_of b) pages
    else if bytes_eq word (codes "fork") then all_three (λ s e pages. line.Fork s e pages) (enclave_of a) (enclave_of b) pages
    else None

unfoldable pub line_of_three : List ℕ → List ℕ → List ℕ → List ℕ → Option Line
line_of_three word a b c = if bytes_eq word (codes "map") then map_line_of a b c else line_of_pages word a b (page_list_of c)

abbrev pub line_of_words : List (List ℕ) → Option Line
line_of_words (word ∷ a ∷ []) = line_of_one word a
line_of_words (word ∷ a ∷ b ∷ []) = line_of_two word a b
line_of_words (word ∷ a ∷ b ∷ c ∷ []) = line_of_three word a b c
line_of_words _ = None

-- the line of a hart that a text is
unfoldable pub line_of : List ℕ → Option Line
line_of text = line_of_words (words_of text)

-- ---- of the attacker

abbrev pub attack_line_of_one : List ℕ → List ℕ → Option AttackLine
attack_line_of_one word a = if bytes_eq word (codes "back") then option_map (λ name. attack.Back name) (name_of a) else None

abbrev pub after_line_of : List ℕ → List ℕ → Option AttackLine
after_line_of a b = both (λ j k. attack.After j k) (short_of a) (small_number_of b)

abbrev pub attack_line_of_two : List ℕ → List ℕ → List ℕ → Option AttackLine
attack_line_of_two word a b =
    if bytes_eq word (codes "after") then after_line_of a b
    else if bytes_eq word (codes "write") then both (λ pa bytes. attack.Write pa bytes) (hex_value a) (hex_bytes_of b)
    else None

abbrev pub attack_line_of_three : List ℕ → List ℕ → List ℕ → List ℕ → Option AttackLine
attack_line_of_three word a b c =
    if bytes_eq word (codes "keep") then all_three (λ name pa len. attack.Keep name pa len) (name_of a) (hex_value b) (length_of c) else None

abbrev pub attack_line_of_words : List (List ℕ) → Option AttackLine
attack_line_of_words (word ∷ a ∷ []) = attack_line_of_one word a
attack_line_of_words (word ∷ a ∷ b ∷ []) = attack_line_of_two word a b
attack_line_of_words (word ∷ a ∷ b ∷ c ∷ []) = attack_line_of_three word a b c
attack_line_of_words _ = None

-- the line of the attacker that a text is
unfoldable pub attack_line_of : List ℕ → Option AttackLine
attack_line_of text = attack_line_of_words (words_of text)
