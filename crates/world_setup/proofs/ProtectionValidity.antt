-- The entries and the order that rules 12 and 13 let through.
use Rattle.std.proofs.Common.{◌≡◌, ℕ, ◌+◌, ◌≤◌, ◌&&◌, nat_le, le-leb, leb-true, true, List, [], ◌∷◌, length, Option, Some, None, option_and_then, Result, Ok, Err, codes, refl, subst, arith}
use Rattle.std.specs.Option.{option_map_or}
use Rattle.std.specs.List.{list_all}
use Rattle.std.proofs.lemmas.Bool.{and_parts}
use Rattle.std.proofs.lemmas.Option.{same_Some, option_and_then_some}
use Rattle.toml.specs.Data.{Data, string, integer, float, boolean, datetime, array, table, Members, get_member, as_str}
use Rattle.pl_base.specs.declared.actor.Actor.{Actor}
use Rattle.rv_pmp.specs.declared.rule.Rule.{Rule}
use Rattle.rv_pmp.specs.Rule.{is_valid}
use Rattle.pl_history.specs.Rules.{is_within, are_entries, is_protection, is_actor}
use Rattle.world_lines.specs.Entries.{entry_of}
use Rattle.world_lines.specs.Order.{order_of}
use Rattle.world_lines.proofs.EntryLemmas.{entry_is_valid}
use Rattle.world_lines.proofs.OrderLemmas.{order_is_known}
use Rattle.world_setup.specs.Checked.{Checked}
use Rattle.world_setup.specs.TomlData.{list_of}
use Rattle.world_setup.specs.Protection.{if_above, entry_above, entry_then, entries_from, entries_of, protection_of, by_rule_13, order_in, order_at}
use Rattle.world_setup.proofs.Choices.{chosen, ok_same}

record Fits (before : ℕ) (entry : ℕ × Rule) : Type 0 where
  above : is_within (before + 1) 12 entry.0 ≡ true
  valid : is_valid entry.1 ≡ true

fits_above : (before : ℕ) (d : Data) (entry : ℕ × Rule) → entry_above before d ≡ Some entry → Fits before entry
fits_above before d entry is =
    option_and_then_some (if_above before) (option_and_then entry_of (as_str d)) entry is (λ found from kept.
    let both = chosen (is_within (before + 1) 12 found.0) (Some found) entry kept in
    subst (Fits before) (same_Some found entry both.1) (
    option_and_then_some entry_of (as_str d) found from (λ text at read. record { above = both.0; valid = (and_parts (is_within 2 12 found.0) (is_valid found.1) (entry_is_valid text found read)).1 })
    ))

record Ascend (before : ℕ) (entries : List (ℕ × Rule)) : Type 0 where
  few : length entries + before ≤ 12
  valid : are_entries before entries ≡ true

then_by : (before : ℕ) (entry : ℕ × Rule) (read : Checked (List (ℕ × Rule))) (entries : List (ℕ × Rule)) → Fits before entry → entry_then entry read ≡ Ok entries
    → ((rest : List (ℕ × Rule)) → read ≡ Ok rest → Ascend entry.0 rest) → Ascend before entries
then_by before entry (Err fault) entries fits is later = cc
then_by before entry (Ok rest) entries fits is later =
    let after = later rest refl in
    let range = and_parts (nat_le (before + 1) entry.0) (nat_le entry.0 12) fits.above in
    let low : before + 1 ≤ entry.0 = leb-true (before + 1) entry.0 range.0 in
    subst (Ascend before) (ok_same (entry ∷ rest) entries is) (record { few = omega (arith, after.few); valid = rw (fits.above, fits.valid, after.valid) refl })

above_by : (before at : ℕ) (d : Data) (ds : List Data) (o : Option (ℕ × Rule)) (entries : List (ℕ × Rule)) → entry_above before d ≡ o
    → option_map_or (λ (entry : ℕ × Rule). entry_then entry (entries_from entry.0 (at + 1) ds)) o (Err (12, at)) ≡ Ok entries
    → ((entry : ℕ × Rule) (rest : List (ℕ × Rule)) → entry.0 ≤ 12 → entries_from entry.0 (at + 1) ds ≡ Ok rest → Ascend entry.0 rest) → Ascend before entries
above_by before at d ds None entries found is later = cc
above_by before at d ds (Some entry) entries found is later =
    let fits = fits_above before d entry found in
    let range = and_parts (nat_le (before + 1) entry.0) (nat_le entry.0 12) fits.above in
    then_by before entry (entries_from entry.0 (at + 1) ds) entries fits is (λ rest read. later entry rest (leb-true entry.0 12 range.1) read)

entries_ascend : (before at : ℕ) (ds : List Data) (entries : List (ℕ × Rule)) → before ≤ 12 → entries_from before at ds ≡ Ok entries → Ascend before entries
entries_ascend before at [] entries low is = subst (Ascend before) (ok_same [] entries is) (record { few = omega arith; valid = refl })
entries_ascend before at (d ∷ ds) entries low is = above_by before at d ds (entry_above before d) entries refl is (λ entry rest most read. entries_ascend entry.0 (at + 1) ds rest most read)

protects : (entries : List (ℕ × Rule)) → Ascend 1 entries → is_protection entries ≡ true
protects entries ascend =
    let few : length entries ≤ 11 = omega (arith, ascend.few) in
    rw (le-leb (length entries) 11 few, ascend.valid) refl

entries_valid : (value : Option Data) (entries : List (ℕ × Rule)) → entries_of value ≡ Ok entries → is_protection entries ≡ true
entries_valid None entries is = subst (λ es. is_protection es ≡ true) (ok_same [] entries is) refl
entries_valid (Some (array ds)) entries is = protects entries (entries_ascend 1 0 (list_of ds) entries (omega arith) is)
entries_valid (Some (string s)) entries is = cc
entries_valid (Some (integer n)) entries is = cc
entries_valid (Some (float f)) entries is = cc
entries_valid (Some (boolean b)) entries is = cc
entries_valid (Some (datetime t)) entries is = cc
entries_valid (Some (table ms)) entries is = cc

pub protection_valid : (t : Members) (entries : List (ℕ × Rule)) → protection_of t ≡ Ok entries → is_protection entries ≡ true
unfolding protection_of
protection_valid t entries is = entries_valid (get_member (codes "pmp") t) entries is

by_rule : (read : Result (List Actor) ℕ) (actors : List Actor) → by_rule_13 read ≡ Ok actors → read ≡ Ok actors
by_rule (Ok found) actors is = cc
by_rule (Err at) actors is = cc

order_known : (harts : ℕ) (value : Option Data) (actors : List Actor) → order_in harts value ≡ Ok actors → nat_le (length actors) 100000 && list_all (is_actor harts) actors ≡ true
order_known harts None actors is = subst (λ as'. nat_le (length as') 100000 && list_all (is_actor harts) as' ≡ true) (ok_same [] actors is) refl
order_known harts (Some (string text)) actors is = order_is_known harts text actors (by_rule (order_of harts text) actors is)
order_known harts (Some (array ds)) actors is = cc
order_known harts (Some (integer n)) actors is = cc
order_known harts (Some (float f)) actors is = cc
order_known harts (Some (boolean b)) actors is = cc
order_known harts (Some (datetime t)) actors is = cc
order_known harts (Some (table ms)) actors is = cc

pub order_valid : (harts : ℕ) (t : Members) (actors : List Actor) → order_at harts t ≡ Ok actors → nat_le (length actors) 100000 && list_all (is_actor harts) actors ≡ true
unfolding order_at
order_valid harts t actors is = order_known harts (get_member (codes "order") t) actors is
