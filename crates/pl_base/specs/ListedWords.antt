-- Words of pages in a list: page, offset in the page, and value of each.
use Rattle.std.specs.Prelude.{ℕ, ◌≡◌, ◌<◌, ◌%◌, ◌==◌, ◌&&◌, Bool, false, List, find, All, AllPairs}
use Rattle.std.specs.Option.{option_map_or}

-- the word stands in a page at an offset
abbrev pub stands_at : ℕ → ℕ → ℕ × ℕ × ℕ → Bool
stands_at page offset w = w.0 == page && w.1 == offset

-- the value of the word that stands there; 0 where none does
abbrev pub listed_word : List (ℕ × ℕ × ℕ) → ℕ → ℕ → ℕ
listed_word words page offset = option_map_or (λ (w : ℕ × ℕ × ℕ). w.2) (find (stands_at page offset) words) 0

-- words of so many pages, at offsets that are multiples of 8, no two at one place
pub record AreWordsOf (pages : ℕ) (words : List (ℕ × ℕ × ℕ)) : Type 0 where
  pub inside : All (λ (w : ℕ × ℕ × ℕ). w.0 < pages) words
  pub offsets : All (λ (w : ℕ × ℕ × ℕ). w.1 < 4096) words
  pub aligned : All (λ (w : ℕ × ℕ × ℕ). w.1 % 8 ≡ 0) words
  pub apart : AllPairs (λ (v : ℕ × ℕ × ℕ) (w : ℕ × ℕ × ℕ). stands_at w.0 w.1 v ≡ false) words
