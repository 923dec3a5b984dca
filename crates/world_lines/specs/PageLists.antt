-- A list of pages: numbers and ranges, with commas between.
use Rattle.std.specs.Prelude.{ℕ, ◌+◌, ◌-◌, nat_le, List, [], ◌∷◌, codes, Option, Some, None, option_map, option_and_then, if◌then◌else◌, sum_by}
use Rattle.std.specs.List.{flat_map, range_with_len}
use Rattle.std.specs.Str.{bytes_eq}
use Rattle.world_lines.specs.Words.{parts_of}
use Rattle.world_lines.specs.Arguments.{small_number_of}
use Rattle.world_lines.specs.declared.page_lists.PageRange.{PageRange}

-- the pages from the first to the last
abbrev pub range_from : Option ℕ → Option ℕ → Option PageRange
range_from (Some first) (Some last) = if nat_le first last then Some (record { first = first; last = last }) else None
range_from _ _ = None

-- `a`, or `a-b`
abbrev pub range_of_parts : List (List ℕ) → Option PageRange
range_of_parts (page ∷ []) = range_from (small_number_of page) (small_number_of page)
range_of_parts (first ∷ last ∷ []) = range_from (small_number_of first) (small_number_of last)
range_of_parts _ = None

-- cut at `-`
abbrev pub range_of : List ℕ → Option PageRange
range_of text = range_of_parts (parts_of 45 text)

-- a range for each text
abbrev pub all_ranges : List (List ℕ) → Option (List PageRange)
all_ranges [] = Some []
all_ranges (text ∷ texts) = option_and_then (λ range. option_map (λ ranges. range ∷ ranges) (all_ranges texts)) (range_of text)

-- how many pages a range has
abbrev pub range_length : PageRange → ℕ
range_length range = range.last + 1 - range.first

abbrev pub range_pages : PageRange → List ℕ
range_pages range = range_with_len range.first (range_length range)

-- the pages of all ranges, at most 512
abbrev pub pages_of_ranges : List PageRange → Option (List ℕ)
pages_of_ranges ranges = if nat_le (sum_by range_length ranges) 512 then Some (flat_map range_pages ranges) else None

-- `-`, or ranges with commas between
abbrev pub page_list_of : List ℕ → Option (List ℕ)
page_list_of text = if bytes_eq text (codes "-") then Some [] else option_and_then pages_of_ranges (all_ranges (parts_of 44 text))
