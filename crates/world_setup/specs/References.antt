-- The first line that names what isn't there, waits for too much, or has no place in memory.
use Rattle.std.specs.Prelude.{◌≡◌, ℕ, ◌+◌, ◌&&◌, nat_le, nat_eq, not, Bool, List, [], ◌∷◌, length, Option, Some, None, option_map, if◌then◌else◌, position}
use Rattle.std.specs.Borrow.{Bor}
use Rattle.std.specs.Cmp.Lexicographic.{pointwise}
use Rattle.std.specs.Option.{option_or}
use Rattle.std.specs.declared.hash.FoldHasher.{FoldHasher}
use Rattle.std.specs.declared.hash.BuildHasherDefault.{BuildHasherDefault}
use Rattle.std.specs.HashMap.{HashMap, get}
use Rattle.pl_history.specs.declared.line.Line.{Line}
use Rattle.pl_history.specs.declared.line.AttackLine.{AttackLine}
use Rattle.pl_history.specs.Rules.{names_known, waits_known, kept_length, attack_length, attack_known}

-- the position of the first line that fails a hart's test, where the lines of this hart begin at position `before`
abbrev pub first_failing : (ℕ → Line → Bool) → ℕ → ℕ → List (List Line) → Option ℕ
first_failing test hart before [] = None
first_failing test hart before (lines ∷ scripts) =
    option_or (option_map (λ at. before + at) (position (λ line. not (test hart line)) lines)) (first_failing test (hart + 1) (before + length lines) scripts)

-- the first line that names an enclave or an image that isn't there
unfoldable pub first_unknown : ℕ → ℕ → List (List Line) → Option ℕ
first_unknown enclaves images scripts = first_failing (λ hart. names_known enclaves images) 0 0 scripts

-- the first line that waits for no other actor, or for more lines than it has
unfoldable pub first_wait : List ℕ → List (List Line) → Option ℕ
first_wait counts scripts = first_failing (waits_known counts) 0 0 scripts

-- the first of the attacker's lines from position `at` on that isn't known, or with which all bytes pass 4 MiB; those `earlier` stand from the latest back
abbrev pub first_attack_from : ℕ → List ℕ → ℕ → List AttackLine → ℕ → ℕ → List AttackLine → Option ℕ
first_attack_from zones counts me earlier total at [] = None
first_attack_from zones counts me earlier total at (now ∷ later) =
    if attack_known zones counts me earlier now && nat_le (total + attack_length earlier now) 4194304
    then first_attack_from zones counts me (now ∷ earlier) (total + attack_length earlier now) (at + 1) later
    else Some at

unfoldable pub first_attack : ℕ → List ℕ → ℕ → List AttackLine → Option ℕ
first_attack zones counts me lines = first_attack_from zones counts me [] 0 0 lines

-- the lengths that were kept, by their names
abbrev pub Lengths : Type 0
Lengths = HashMap (Bor (List ℕ)) ℕ (BuildHasherDefault FoldHasher)

-- they are those that the lines `earlier`, from the latest back, kept
pub record KeepsLengths (kept : Lengths) (earlier : List AttackLine) : Type 0 where
  pub lengths : (name : Bor (List ℕ)) → get (λ x y. pointwise nat_eq x.now y.now) kept name ≡ kept_length name.now earlier
