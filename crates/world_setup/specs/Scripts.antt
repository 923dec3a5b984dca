-- Rules 19 to 22: the scripts of the harts, and that of the attacker.
use Rattle.std.specs.Prelude.{◌≡◌, sum_by, ℕ, ◌+◌, ◌==◌, ◌&&◌, nat_le, not, Bool, true, false, List, length, map, codes, Option, Some, None, is_some, option_map, Ok}
use Rattle.std.specs.List.{list_all, filter_map, flat_map, position_from}
use Rattle.toml.specs.Data.{Data, array, Members, get_member, as_str}
use Rattle.pl_history.specs.declared.line.Line.{Line}
use Rattle.pl_history.specs.declared.line.AttackLine.{AttackLine}
use Rattle.world_lines.specs.Forms.{line_of, attack_line_of}
use Rattle.world_setup.specs.declared.scripts.Scripts.{Scripts}
use Rattle.world_setup.specs.Checked.{Checked, ◌>>=◌, unless, none_at}
use Rattle.world_setup.specs.TomlData.{list_of, members_in, items_at, is_text}
use Rattle.world_setup.specs.Keys.{harts_in}

-- ---- arrays of strings

abbrev pub script_at : Data → Option Data
script_at hart = get_member (codes "lines") (members_in hart)

abbrev pub is_script : Option Data → Bool
is_script (Some (array ds)) = list_all is_text (list_of ds)
is_script _ = false

abbrev pub has_script : Data → Bool
has_script hart = is_script (script_at hart)

-- an array of so many tables, each with a script
abbrev pub is_hart_array : ℕ → Option Data → Bool
is_hart_array harts (Some (array ds)) = length (list_of ds) == harts && list_all has_script (list_of ds)
is_hart_array harts _ = false

-- absent, or an array of strings
abbrev pub is_attack_array : Option Data → Bool
is_attack_array None = true
is_attack_array (Some d) = is_script (Some d)

-- ---- their texts

abbrev pub texts_in : Option Data → List (List ℕ)
texts_in value = filter_map as_str (items_at value)

abbrev pub hart_texts : Data → List (List ℕ)
hart_texts hart = texts_in (script_at hart)

-- those of hart 0, then of hart 1, and so on
abbrev pub script_texts : Members → List (List ℕ)
script_texts t = flat_map hart_texts (harts_in t)

abbrev pub attack_texts : Members → List (List ℕ)
attack_texts t = texts_in (get_member (codes "attacker") t)

abbrev pub has_no_form : List ℕ → Bool
has_no_form text = not (is_some (line_of text))

abbrev pub has_no_attack_form : List ℕ → Bool
has_no_attack_form text = not (is_some (attack_line_of text))

-- ---- the rules, and the scripts from the same readers

unfoldable pub scripts_hold : ℕ → Members → Checked (Unit {0})
scripts_hold harts t = do
  _ ← unless (is_hart_array harts (get_member (codes "hart") t)) 19
  unless (is_attack_array (get_member (codes "attacker") t)) 20

-- the attacker's lines come after all others
unfoldable pub forms_hold : List (List ℕ) → List (List ℕ) → Checked (Unit {0})
forms_hold scripts attacks = do
  _ ← none_at (position_from has_no_form 0 scripts) 22
  none_at (option_map (λ at. length scripts + at) (position_from has_no_attack_form 0 attacks)) 22

abbrev pub hart_lines : Data → List Line
hart_lines hart = filter_map line_of (hart_texts hart)

abbrev pub attack_script : Members → List AttackLine
attack_script t = filter_map attack_line_of (attack_texts t)

unfoldable pub scripts_of : ℕ → Members → Checked Scripts
scripts_of harts t = do
  _ ← scripts_hold harts t
  _ ← unless (nat_le (length (script_texts t) + length (attack_texts t)) 65536) 21
  _ ← forms_hold (script_texts t) (attack_texts t)
  Ok (record { lines = map hart_lines (harts_in t); attacker = attack_script t })

-- each text became a line
pub record IsRead (t : Members) (s : Scripts) : Type 0 where
  pub lines : sum_by length s.lines ≡ length (script_texts t)
  pub attacks : length s.attacker ≡ length (attack_texts t)
