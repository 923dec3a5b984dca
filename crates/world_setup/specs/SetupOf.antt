-- The setup of a text: the first of rules 1 to 24 that fails, or its parts.
use Rattle.std.specs.Prelude.{ℕ, ◌+◌, ◌≤◌, nat_le, List, length, option_map, sum_by, Ok}
use Rattle.toml.specs.Data.{Members}
use Rattle.pl_base.specs.declared.actor.Actor.{Actor}
use Rattle.mon_image.specs.declared.image.Image.{Image}
use Rattle.rv_pmp.specs.declared.rule.Rule.{Rule}
use Rattle.pl_history.specs.declared.setup.SetupParts.{SetupParts}
use Rattle.pl_history.specs.Rules.{counts_of}
use Rattle.world_setup.specs.declared.numbers.Numbers.{Numbers}
use Rattle.world_setup.specs.declared.scripts.Scripts.{Scripts}
use Rattle.world_setup.specs.Checked.{Checked, ◌>>=◌, unless, some_of, none_at}
use Rattle.world_setup.specs.TomlData.{table_of}
use Rattle.world_setup.specs.Keys.{has_known_keys}
use Rattle.world_setup.specs.Numbers.{numbers_of}
use Rattle.world_setup.specs.Protection.{protection_of, order_at}
use Rattle.world_setup.specs.Images.{images_of}
use Rattle.world_setup.specs.Scripts.{scripts_of}
use Rattle.world_setup.specs.References.{first_unknown, first_wait, first_attack}

-- Rules 23 and 24, over lines that were read: first the lines of the harts, then those of the attacker.
unfoldable pub lines_known : Numbers → ℕ → Scripts → Checked (Unit {0})
lines_known n images s = do
  _ ← none_at (first_unknown n.enclaves images s.lines) 23
  _ ← none_at (first_wait (counts_of s.lines s.attacker) s.lines) 24
  none_at (option_map (λ at. sum_by length s.lines + at) (first_attack n.zones (counts_of s.lines s.attacker) n.harts s.attacker)) 24

-- what rules 23 and 24 stand on: rules 14, 19 and 21 hold
pub record AreFew (count : ℕ) (s : Scripts) : Type 0 where
  pub images : count ≤ 64
  pub harts : length s.lines ≤ 8
  pub lines : sum_by length s.lines + length s.attacker ≤ 65536

abbrev pub parts_of : Numbers → List (ℕ × Rule) → List Actor → List Image → Scripts → SetupParts
parts_of n pmp order images s = record {
  harts = n.harts;
  zones = n.zones;
  slots = n.slots;
  tables = n.tables;
  enclaves = n.enclaves;
  choice = n.choice;
  pmp = pmp;
  order = order;
  images = images;
  lines = s.lines;
  attacker = s.attacker;
}

unfoldable pub setup_of_table : Members → Checked SetupParts
setup_of_table t = do
  _ ← unless (has_known_keys t) 3
  n ← numbers_of t
  pmp ← protection_of t
  order ← order_at n.harts t
  images ← images_of t
  scripts ← scripts_of n.harts t
  _ ← lines_known n (length images) scripts
  Ok (parts_of n pmp order images scripts)

-- at most 16 MiB, which are TOML
abbrev pub setup_of : List ℕ → Checked SetupParts
setup_of bytes = do
  _ ← unless (nat_le (length bytes) 16777216) 1
  t ← some_of (table_of bytes) 2
  setup_of_table t
