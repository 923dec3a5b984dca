-- How many lines there are, and where the attacker's stand.
use Rattle.std.proofs.Common.{◌≡◌, ℕ, ◌+◌, ◌<◌, ◌≤◌, ◌^◌, ◌&&◌, nat_le, Bool, true, false, List, [], ◌∷◌, length, drop, get_or, Option, Some, None, sum_by, refl, sym, ap, ◌∙◌, subst, arith, if◌then◌else◌}
use Rattle.std.specs.Option.{IfSome}
use Rattle.std.proofs.lemmas.List.{drop_more}
use Rattle.std.proofs.lemmas.List.Sums.{sum_by-cons}
use Rattle.std.proofs.lemmas.Option.{same_Some}
use Rattle.pl_history.specs.declared.line.Line.{Line}
use Rattle.pl_history.specs.declared.line.AttackLine.{AttackLine}
use Rattle.pl_history.specs.Rules.{attack_known, attack_length}
use Rattle.world_setup.specs.References.{first_attack_from, first_attack}

-- a script more
pub counted : (scripts : List (List Line)) (total at count size : ℕ) (lines : List Line) → count + sum_by length (drop at scripts) ≡ total → at < length scripts → lines ≡ get_or scripts at lines → size ≡ length lines
    → count + size + sum_by length (drop (at + 1) scripts) ≡ total
counted scripts total at count size lines so_far below item is =
    let first : drop at scripts ≡ lines ∷ drop (at + 1) scripts = drop_more scripts at lines below ∙ ap (λ l. l ∷ drop (at + 1) scripts) (sym item) in
    let now : count + sum_by length (lines ∷ drop (at + 1) scripts) ≡ total = rw first at so_far in
    omega (arith, sum_by-cons length lines (drop (at + 1) scripts))

step : (zones : ℕ) (counts : List ℕ) (me : ℕ) (earlier : List AttackLine) (total at place : ℕ) (now : AttackLine) (later : List AttackLine) (test : Bool)
    → (if test then first_attack_from zones counts me (now ∷ earlier) (total + attack_length earlier now) (at + 1) later else Some at) ≡ Some place
    → (first_attack_from zones counts me (now ∷ earlier) (total + attack_length earlier now) (at + 1) later ≡ Some place → place < at + 1 + length later) → place < at + length (now ∷ later)
step zones counts me earlier total at place now later true is rest = omega (arith, rest is)
step zones counts me earlier total at place now later false is rest = let same : at ≡ place = same_Some at place is in omega arith

within_from : (zones : ℕ) (counts : List ℕ) (me : ℕ) (earlier : List AttackLine) (total at place : ℕ) (lines : List AttackLine) → first_attack_from zones counts me earlier total at lines ≡ Some place → place < at + length lines
within_from zones counts me earlier total at place [] is = cc
within_from zones counts me earlier total at place (now ∷ later) is =
    step zones counts me earlier total at place now later (attack_known zones counts me earlier now && nat_le (total + attack_length earlier now) 4194304) is
    (within_from zones counts me (now ∷ earlier) (total + attack_length earlier now) (at + 1) place later)

attack_within : (zones : ℕ) (counts : List ℕ) (me : ℕ) (lines : List AttackLine) (place : ℕ) → first_attack zones counts me lines ≡ Some place → place < length lines
unfolding first_attack
attack_within zones counts me lines place is = omega (arith, within_from zones counts me [] 0 0 place lines is)

some_fits : (o : Option ℕ) (bound before : ℕ) → ((at : ℕ) → o ≡ Some at → at < bound) → before + bound ≤ 65536 → IfSome o (λ at. before + at < 2 ^ 32)
some_fits None bound before within fits = tt
some_fits (Some at) bound before within fits = omega (arith, within at refl)

-- its position among all lines is small
pub attack_fits : (zones : ℕ) (counts : List ℕ) (me : ℕ) (lines : List AttackLine) (before : ℕ) (found wide : Option ℕ) → found ≡ first_attack zones counts me lines → wide ≡ found → before + length lines ≤ 65536
    → IfSome wide (λ at. before + at < 2 ^ 32)
attack_fits zones counts me lines before found wide is same fits =
    subst (λ (o : Option ℕ). IfSome o (λ at. before + at < 2 ^ 32)) (sym (same ∙ is)) (some_fits (first_attack zones counts me lines) (length lines) before (attack_within zones counts me lines) fits)
