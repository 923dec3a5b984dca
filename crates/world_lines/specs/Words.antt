-- A text, cut at each of a byte.
use Rattle.std.specs.Prelude.{◌≡◌, ℕ, ◌==◌, ◌&&◌, nat_le, false, List, [], ◌∷◌, length, Option}
use Rattle.std.specs.List.{slice_split}
use Rattle.std.specs.Option.{option_map_or}
use Rattle.world_lines.specs.declared.words.FewWords.{FewWords}
use Rattle.world_lines.specs.declared.words.FewWords.TheVariants.{Two, Three, Four, Other}

-- what stands between the places of a byte, empty parts too
abbrev pub parts_of : ℕ → List ℕ → List (List ℕ)
parts_of byte = slice_split (λ b. b == byte)

-- what stands between spaces
abbrev pub words_of : List ℕ → List (List ℕ)
words_of = parts_of 32

-- of a text that may be there
abbrev pub words_after : Option (List ℕ) → List (List ℕ)
words_after rest = option_map_or words_of rest []

-- the same of parts
abbrev pub parts_after : ℕ → Option (List ℕ) → List (List ℕ)
parts_after byte rest = option_map_or (parts_of byte) rest []

-- two, three or four words as they are, or another number of them
abbrev pub AreFew : FewWords → List (List ℕ) → Type 0
AreFew (Two word a) words = words ≡ word.now ∷ a.now ∷ []
AreFew (Three word a b) words = words ≡ word.now ∷ a.now ∷ b.now ∷ []
AreFew (Four word a b c) words = words ≡ word.now ∷ a.now ∷ b.now ∷ c.now ∷ []
AreFew Other words = nat_le 2 (length words) && nat_le (length words) 4 ≡ false
