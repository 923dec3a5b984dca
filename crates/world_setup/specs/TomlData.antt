-- Walks over the untyped data that `toml` parses a text to.
use Rattle.std.specs.Prelude.{ℕ, pos, ◌&&◌, nat_le, Bool, List, [], ◌∷◌, Option, Some, None, is_some, option_and_then, if◌then◌else◌}
use Rattle.std.specs.List.{list_all, list_any}
use Rattle.std.specs.Str.{bytes_eq, is_utf8}
use Rattle.toml.specs.Data.{Data, integer, array, table, Items, no_items, item, Members, no_members, member, get_member, as_str, as_table}
use Rattle.toml.specs.Parse.{parse_document}

-- the table of a text, which is UTF-8
abbrev pub table_of : List ℕ → Option Members
table_of bytes = if is_utf8 bytes then parse_document bytes else None

abbrev pub list_of : Items → List Data
list_of no_items = []
list_of (item d ds) = d ∷ list_of ds

abbrev pub keys_of : Members → List (List ℕ)
keys_of no_members = []
keys_of (member k d ms) = k ∷ keys_of ms

-- each key is one of these
abbrev pub has_only : List (List ℕ) → Members → Bool
has_only names t = list_all (λ k. list_any (bytes_eq k) names) (keys_of t)

-- the members of a table, and none of anything else
abbrev pub members_in : Data → Members
members_in (table ms) = ms
members_in _ = no_members

-- the items of an array, and none of anything else
abbrev pub items_at : Option Data → List Data
items_at (Some (array ds)) = list_of ds
items_at _ = []

-- the text at a key
abbrev pub text_at : List ℕ → Members → Option (List ℕ)
text_at key t = option_and_then as_str (get_member key t)

-- a whole number from `low` to `high`
abbrev pub number_in : ℕ → ℕ → Option Data → Option ℕ
number_in low high (Some (integer (pos n))) = if nat_le low n && nat_le n high then Some n else None
number_in low high _ = None

abbrev pub is_table : Data → Bool
is_table d = is_some (as_table d)

abbrev pub is_text : Data → Bool
is_text d = is_some (as_str d)
