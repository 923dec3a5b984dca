-- Lists of page numbers.
use Rattle.std.specs.Prelude.{ℕ, Bool, ◌==◌, nat_lt, List, count_by, find, Option}
use Rattle.std.specs.List.{list_any}

-- a page is in the list
abbrev pub is_among : List ℕ → ℕ → Bool
is_among pages page = list_any (λ other. other == page) pages

-- the first page in a list that stands in it more than once
abbrev pub first_twice : List ℕ → Option ℕ
first_twice pages = find (λ page. nat_lt 1 (count_by (λ other. other == page) pages)) pages

-- how many spares a number may be given since it was made
abbrev pub most_spares : ℕ
most_spares = 256
