-- Rules 4 to 11: the numbers of a setup, and the choice.
use Rattle.std.specs.Prelude.{ℕ, nat_lt, List, Option, Some, None, codes, if◌then◌else◌, option_and_then, Ok}
use Rattle.std.specs.Str.{bytes_eq}
use Rattle.toml.specs.Data.{Members, get_member}
use Rattle.pl_history.specs.declared.setup.ChoiceName.{ChoiceName}
use Rattle.pl_history.specs.declared.setup.ChoiceName.TheVariants.{Oldest, Least}
use Rattle.pl_history.specs.Rules.{guarded_of, pages_of}
use Rattle.world_setup.specs.declared.numbers.Numbers.{Numbers}
use Rattle.world_setup.specs.Checked.{Checked, ◌>>=◌, unless, some_of}
use Rattle.world_setup.specs.TomlData.{number_in, text_at}

-- the whole number at a key, from `low` to `high`
abbrev pub number_at : List ℕ → ℕ → ℕ → Members → Option ℕ
number_at key low high t = number_in low high (get_member key t)

abbrev pub choice_of : List ℕ → Option ChoiceName
choice_of text = if bytes_eq text (codes "oldest") then Some Oldest else if bytes_eq text (codes "least") then Some Least else None

unfoldable pub numbers_of : Members → Checked Numbers
numbers_of t = do
  _ ← some_of (number_at (codes "version") 1 1 t) 4
  harts ← some_of (number_at (codes "harts") 1 8 t) 5
  zones ← some_of (number_at (codes "zones") 1 64 t) 6
  slots ← some_of (number_at (codes "slots") 1 64 t) 7
  tables ← some_of (number_at (codes "tables") 1 32 t) 8
  enclaves ← some_of (number_at (codes "enclaves") 1 64 t) 9
  _ ← unless (nat_lt (guarded_of tables enclaves) (pages_of zones)) 10
  choice ← some_of (option_and_then choice_of (text_at (codes "choice") t)) 11
  Ok (record { harts = harts; zones = zones; slots = slots; tables = tables; enclaves = enclaves; choice = choice })
