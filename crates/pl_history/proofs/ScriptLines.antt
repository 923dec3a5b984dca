-- What a setup's lines name.
use Rattle.std.proofs.Common.{◌≡◌, ℕ, zero, suc, Bool, true, false, ◌==◌, if◌then◌else◌, List, [], ◌∷◌, length, slice_get, unwrap_or, Option, Some, None, option_map, refl, sym, ap, ◌∙◌}
use Rattle.std.specs.List.{list_all}
use Rattle.std.proofs.lemmas.Bool.{and_parts}
use Rattle.pl_history.specs.declared.line.AttackLine.{AttackLine}
use Rattle.pl_history.specs.declared.line.Line.{Line}
use Rattle.pl_history.specs.declared.setup.SetupParts.{SetupParts}
use Rattle.pl_history.specs.Legal.{line_at, of_attacker, of_hart}
use Rattle.pl_history.specs.Monitor.{script_of}
use Rattle.pl_history.specs.Rules.{IsSetup, names_known}

pub each_holds : {A : Type 0} (test : A → Bool) (xs : List A) (i : ℕ) (x : A) → list_all test xs ≡ true → slice_get xs i ≡ Some x → test x ≡ true
each_holds test [] i x all here = cc
each_holds test (y ∷ ys) zero x all here = (let e : y ≡ x = cc in ap test (sym e) ∙ (and_parts (test y) (list_all test ys) all).0)
each_holds test (y ∷ ys) (suc i) x all here = each_holds test ys i x (and_parts (test y) (list_all test ys) all).1 here

names_of : (enclaves images : ℕ) (script : Option (List Line)) (at : ℕ) (line : Line)
    → ((lines : List Line) → script ≡ Some lines → list_all (names_known enclaves images) lines ≡ true) → slice_get (unwrap_or script []) at ≡ Some line
    → names_known enclaves images line ≡ true
names_of enclaves images None at line all here = cc
names_of enclaves images (Some lines) at line all here = each_holds (names_known enclaves images) lines at line (all lines refl) here

-- a line of a script names numbers and images that there are
pub line_names : (setup : SetupParts) (hart at : ℕ) (line : Line) → IsSetup setup → slice_get (script_of setup hart) at ≡ Some line
    → names_known setup.enclaves (length setup.images) line ≡ true
line_names setup hart at line rules here =
    names_of setup.enclaves (length setup.images) (slice_get setup.lines hart) at line
    (λ lines is. each_holds (list_all (names_known setup.enclaves (length setup.images))) setup.lines hart lines rules.names is) here

-- a hart's line is of its script
pub script_line : (setup : SetupParts) (actor at : ℕ) (line : Line) → line_at setup actor at ≡ Some (of_hart line) → slice_get (script_of setup actor) at ≡ Some line
script_line setup actor at line = by_actor (actor == setup.harts) (slice_get setup.attacker at) (slice_get (script_of setup actor) at)
  where
    by_actor : (b : Bool) (attacks : Option AttackLine) (lines : Option Line) → (if b then option_map of_attacker attacks else option_map of_hart lines) ≡ Some (of_hart line)
        → lines ≡ Some line
    by_actor true None lines here = cc
    by_actor true (Some other) lines here = cc
    by_actor false attacks None here = cc
    by_actor false attacks (Some other) here = cc

pub actor_line_names : (setup : SetupParts) (actor at : ℕ) (line : Line) → IsSetup setup → line_at setup actor at ≡ Some (of_hart line)
    → names_known setup.enclaves (length setup.images) line ≡ true
actor_line_names setup actor at line rules here = line_names setup actor at line rules (script_line setup actor at line here)
