-- Where no line is refused, the lines meet what every setup's lines meet.
use Rattle.std.proofs.Common.{◌≡◌, ℕ, suc, ◌+◌, ◌&&◌, ◌≤◌, nat_lt, nat_le, not, Bool, true, false, cond, List, [], ◌∷◌, length, Option, Some, None, option_map, if◌then◌else◌, position, refl, arith}
use Rattle.std.specs.List.{list_all, position_or_len}
use Rattle.std.specs.Option.{option_or}
use Rattle.std.proofs.lemmas.Bool.Decides.{nat_tests}
use Rattle.pl_history.specs.declared.line.Line.{Line}
use Rattle.pl_history.specs.declared.line.AttackLine.{AttackLine}
use Rattle.pl_history.specs.Rules.{names_known, waits_known, all_wait, attack_length, attack_known, attacks_known}
use Rattle.world_setup.specs.References.{first_failing, first_unknown, first_wait, first_attack_from, first_attack}

-- ---- a test that no line of a list fails

first_and_rest : (b : Bool) (n k : ℕ) (rest : Bool) → suc k ≤ cond (not (not b)) (1 + n) 0 → (k ≤ n → rest ≡ true) → b && rest ≡ true
first_and_rest true n k rest none inside = inside (omega arith)
first_and_rest false n k rest none inside = absurd (omega arith)

each_passes : (test : Line → Bool) (lines : List Line) → length lines ≤ position_or_len (λ line. not (test line)) lines → list_all test lines ≡ true
each_passes test [] none = refl
each_passes test (line ∷ lines) none =
    first_and_rest (test line) (position_or_len (λ l. not (test l)) lines) (length lines) (list_all test lines) none (each_passes test lines)

at_end : (a b : ℕ) → nat_lt a b ≡ false → b ≤ a
at_end a b test = grind (arith, nat_tests)

none_by : (test : Line → Bool) (lines : List Line) (b : Bool) → nat_lt (position_or_len (λ line. not (test line)) lines) (length lines) ≡ b
    → cond b (Some (position_or_len (λ line. not (test line)) lines)) None ≡ None → list_all test lines ≡ true
none_by test lines true is none = cc
none_by test lines false is none = each_passes test lines (at_end (position_or_len (λ line. not (test line)) lines) (length lines) is)

none_fails : (test : Line → Bool) (lines : List Line) → position (λ line. not (test line)) lines ≡ None → list_all test lines ≡ true
none_fails test lines none = none_by test lines (nat_lt (position_or_len (λ line. not (test line)) lines) (length lines)) refl none

-- ---- scripts

neither : (o : Option ℕ) (f : ℕ → ℕ) (rest : Option ℕ) → option_or (option_map f o) rest ≡ None → (o ≡ None) × (rest ≡ None)
neither None f rest none = (refl, none)
neither (Some at) f rest none = cc

names_from : (enclaves images hart before : ℕ) (scripts : List (List Line)) → first_failing (λ h. names_known enclaves images) hart before scripts ≡ None
    → list_all (list_all (names_known enclaves images)) scripts ≡ true
names_from enclaves images hart before [] none = refl
names_from enclaves images hart before (lines ∷ scripts) none =
    let both = neither (position (λ line. not (names_known enclaves images line)) lines) (λ at. before + at)
    (first_failing (λ h. names_known enclaves images) (hart + 1) (before + length lines) scripts) none in
    rw (none_fails (names_known enclaves images) lines both.0, names_from enclaves images (hart + 1) (before + length lines) scripts both.1) refl

pub names_are_known : (enclaves images : ℕ) (scripts : List (List Line)) → first_unknown enclaves images scripts ≡ None → list_all (list_all (names_known enclaves images)) scripts ≡ true
unfolding first_unknown
names_are_known enclaves images scripts none = names_from enclaves images 0 0 scripts none

waits_from : (counts : List ℕ) (hart before : ℕ) (scripts : List (List Line)) → first_failing (waits_known counts) hart before scripts ≡ None → all_wait counts hart scripts ≡ true
waits_from counts hart before [] none = refl
waits_from counts hart before (lines ∷ scripts) none =
    let both = neither (position (λ line. not (waits_known counts hart line)) lines) (λ at. before + at) (first_failing (waits_known counts) (hart + 1) (before + length lines) scripts) none in
    rw (none_fails (waits_known counts hart) lines both.0, waits_from counts (hart + 1) (before + length lines) scripts both.1) refl

pub waits_are_known : (counts : List ℕ) (scripts : List (List Line)) → first_wait counts scripts ≡ None → all_wait counts 0 scripts ≡ true
unfolding first_wait
waits_are_known counts scripts none = waits_from counts 0 0 scripts none

-- ---- the attacker

known_then : (known fits : Bool) (rest : Option ℕ) (at : ℕ) (more : Bool) → (if known && fits then rest else Some at) ≡ None → (rest ≡ None → more ≡ true) → known && (fits && more) ≡ true
known_then true true rest at more none inside = inside none
known_then true false rest at more none inside = cc
known_then false fits rest at more none inside = cc

attacks_from : (zones : ℕ) (counts : List ℕ) (me : ℕ) (earlier : List AttackLine) (total at : ℕ) (lines : List AttackLine) → first_attack_from zones counts me earlier total at lines ≡ None
    → attacks_known zones counts me earlier total lines ≡ true
attacks_from zones counts me earlier total at [] none = refl
attacks_from zones counts me earlier total at (now ∷ later) none =
    known_then (attack_known zones counts me earlier now) (nat_le (total + attack_length earlier now) 4194304)
    (first_attack_from zones counts me (now ∷ earlier) (total + attack_length earlier now) (at + 1) later) at
    (attacks_known zones counts me (now ∷ earlier) (total + attack_length earlier now) later) none
    (attacks_from zones counts me (now ∷ earlier) (total + attack_length earlier now) (at + 1) later)

pub attacks_are_known : (zones : ℕ) (counts : List ℕ) (me : ℕ) (lines : List AttackLine) → first_attack zones counts me lines ≡ None → attacks_known zones counts me [] 0 lines ≡ true
unfolding first_attack
attacks_are_known zones counts me lines none = attacks_from zones counts me [] 0 0 lines none
