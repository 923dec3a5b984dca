-- Rules 12 and 13: the protection entries, and the order of the first turns.
use Rattle.std.specs.Prelude.{ℕ, ◌+◌, List, [], ◌∷◌, codes, Option, Some, None, option_and_then, if◌then◌else◌, Result, Ok, Err}
use Rattle.std.specs.Option.{option_map_or}
use Rattle.toml.specs.Data.{Data, string, array, Members, get_member, as_str}
use Rattle.pl_base.specs.declared.actor.Actor.{Actor}
use Rattle.rv_pmp.specs.declared.rule.Rule.{Rule}
use Rattle.pl_history.specs.Rules.{is_within}
use Rattle.world_lines.specs.Entries.{entry_of}
use Rattle.world_lines.specs.Order.{order_of}
use Rattle.world_setup.specs.Checked.{Checked}
use Rattle.world_setup.specs.TomlData.{list_of}

-- its number is above `before`
abbrev pub if_above : ℕ → ℕ × Rule → Option (ℕ × Rule)
if_above before entry = if is_within (before + 1) 12 entry.0 then Some entry else None

-- the entry of a string, above the one before
abbrev pub entry_above : ℕ → Data → Option (ℕ × Rule)
entry_above before d = option_and_then (if_above before) (option_and_then entry_of (as_str d))

-- an entry before others
abbrev pub entry_then : ℕ × Rule → Checked (List (ℕ × Rule)) → Checked (List (ℕ × Rule))
entry_then entry (Ok entries) = Ok (entry ∷ entries)
entry_then entry (Err fault) = Err fault

-- The entries of the items from position `at` on, or the position of the first that is none above the one before.
-- As their numbers ascend up to 12, the twelfth item is bad where the eleven before it are good.
abbrev pub entries_from : ℕ → ℕ → List Data → Checked (List (ℕ × Rule))
entries_from before at [] = Ok []
entries_from before at (d ∷ ds) = option_map_or (λ entry. entry_then entry (entries_from entry.0 (at + 1) ds)) (entry_above before d) (Err (12, at))

-- absent is none
abbrev pub entries_of : Option Data → Checked (List (ℕ × Rule))
entries_of None = Ok []
entries_of (Some (array ds)) = entries_from 1 0 (list_of ds)
entries_of (Some _) = Err (12, 0)

unfoldable pub protection_of : Members → Checked (List (ℕ × Rule))
protection_of t = entries_of (get_member (codes "pmp") t)

-- ---- the order

-- the position is that of rule 13's item
abbrev pub by_rule_13 : Result (List Actor) ℕ → Checked (List Actor)
by_rule_13 (Ok actors) = Ok actors
by_rule_13 (Err at) = Err (13, at)

abbrev pub order_in : ℕ → Option Data → Checked (List Actor)
order_in harts None = Ok []
order_in harts (Some (string text)) = by_rule_13 (order_of harts text)
order_in harts (Some _) = Err (13, 0)

unfoldable pub order_at : ℕ → Members → Checked (List Actor)
order_at harts t = order_in harts (get_member (codes "order") t)
