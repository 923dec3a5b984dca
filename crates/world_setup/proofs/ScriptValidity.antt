-- The scripts that rules 19 to 22 let through.
use Rattle.std.proofs.Common.{◌≡◌, ℕ, ◌+◌, ◌≤◌, ◌==◌, nat_le, leb-true, true, List, [], ◌∷◌, length, map, Option, Some, None, Ok, codes, sum_by, refl, subst, ◌∙◌, arith, length-append}
use Rattle.std.specs.List.{list_all, flat_map}
use Rattle.std.proofs.lemmas.Bool.{and_parts}
use Rattle.std.proofs.lemmas.Bool.Decides.{nat_tests}
use Rattle.std.proofs.lemmas.List.{length-map}
use Rattle.std.proofs.lemmas.List.Sums.{sum_by-cons}
use Rattle.toml.specs.Data.{Data, string, integer, float, boolean, datetime, array, table, Members, get_member}
use Rattle.pl_history.specs.Rules.{is_line, is_attack_line}
use Rattle.world_lines.specs.Forms.{line_of, attack_line_of}
use Rattle.world_lines.proofs.FormLemmas.{line_has_form, attack_line_has_form}
use Rattle.world_setup.specs.declared.scripts.Scripts.{Scripts}
use Rattle.world_setup.specs.TomlData.{list_of, items_at}
use Rattle.world_setup.specs.Keys.{harts_in}
use Rattle.world_setup.specs.Scripts.{has_script, is_hart_array, hart_texts, script_texts, attack_texts, scripts_hold, forms_hold, hart_lines, attack_script, scripts_of}
use Rattle.world_setup.proofs.Chains.{unless_held, held}
use Rattle.world_setup.proofs.Choices.{ok_same, fewer, all_chosen}

-- as many scripts as harts
harts_fit : (harts : ℕ) (d : Option Data) → is_hart_array harts d ≡ true → length (items_at d) ≡ harts
harts_fit harts (Some (array ds)) e = let both = and_parts (length (list_of ds) == harts) (list_all has_script (list_of ds)) e in grind (arith, nat_tests)
harts_fit harts (Some (string s)) e = cc
harts_fit harts (Some (integer z)) e = cc
harts_fit harts (Some (float f)) e = cc
harts_fit harts (Some (boolean b)) e = cc
harts_fit harts (Some (datetime t)) e = cc
harts_fit harts (Some (table ms)) e = cc
harts_fit harts None e = cc

-- no more lines than texts
pub few_lines : (harts : List Data) → sum_by length (map hart_lines harts) ≤ length (flat_map hart_texts harts)
few_lines [] = omega arith
few_lines (hart ∷ harts) =
    omega (arith, sum_by-cons length (hart_lines hart) (map hart_lines harts), length-append (hart_texts hart) (flat_map hart_texts harts), fewer line_of (hart_texts hart), few_lines harts)

all_lines : (harts : List Data) → list_all (list_all is_line) (map hart_lines harts) ≡ true
all_lines [] = refl
all_lines (hart ∷ harts) = rw (all_chosen is_line line_of (hart_texts hart) line_has_form, all_lines harts) refl

pub record AreScripts (harts : ℕ) (s : Scripts) : Type 0 where
  pub scripts : length s.lines ≡ harts
  pub few : sum_by length s.lines + length s.attacker ≤ 65536
  pub lines : list_all (list_all is_line) s.lines ≡ true
  pub attacks : list_all is_attack_line s.attacker ≡ true

as_many : (harts : ℕ) (t : Members) → scripts_hold harts t ≡ Ok tt → length (harts_in t) ≡ harts
unfolding scripts_hold
as_many harts t is = harts_fit harts (get_member (codes "hart") t) (unless_held (is_hart_array harts (get_member (codes "hart") t)) 19 _ tt is).0

pub scripts_valid : (harts : ℕ) (t : Members) (s : Scripts) → scripts_of harts t ≡ Ok s → AreScripts harts s
unfolding scripts_of
scripts_valid harts t s is =
    let first = held (scripts_hold harts t) _ s is in
    let count = unless_held (nat_le (length (script_texts t) + length (attack_texts t)) 65536) 21 _ s first.2 in
    let then' = held (forms_hold (script_texts t) (attack_texts t)) _ s count.1 in
    let made : Scripts = record { lines = map hart_lines (harts_in t); attacker = attack_script t } in
    subst (AreScripts harts) (ok_same made s then'.2) (record {
      scripts = length-map (harts_in t) hart_lines ∙ as_many harts t first.1;
      few = omega (arith, few_lines (harts_in t), fewer attack_line_of (attack_texts t), leb-true (length (script_texts t) + length (attack_texts t)) 65536 count.0);
      lines = all_lines (harts_in t);
      attacks = all_chosen is_attack_line attack_line_of (attack_texts t) attack_line_has_form;
    })
