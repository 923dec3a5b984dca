-- The lines of scripts, one script after the other.
use Rattle.std.proofs.Common.{◌≡◌, ℕ, ◌+◌, ◌<◌, ◌≤◌, not, Bool, List, ◌∷◌, length, drop, get_or, Option, None, sum_by, position, sym, ap, ◌∙◌, arith}
use Rattle.std.proofs.lemmas.List.{drop_more}
use Rattle.std.proofs.lemmas.List.Sums.{sum_by-cons}
use Rattle.pl_history.specs.declared.line.Line.{Line}
use Rattle.world_setup.specs.References.{first_failing}

-- the scripts that are left decide as all of them do
pub record Decide (test : ℕ → Line → Bool) (all : Option ℕ) (hart before : ℕ) (left : List (List Line)) : Type 0 where
  pub few : before + sum_by length left ≤ 65536
  pub same : first_failing test hart before left ≡ all

left_behind : (test : ℕ → Line → Bool) (all : Option ℕ) (hart before : ℕ) (lines : List Line) (left : List (List Line)) → Decide test all hart before (lines ∷ left)
    → position (λ line. not (test hart line)) lines ≡ None → Decide test all (hart + 1) (before + length lines) left
left_behind test all hart before lines left decide pass = record {
  few = omega (arith, decide.few, sum_by-cons length lines left);
  same = rw pass at decide.same;
}

-- a script whose lines all pass is left behind
pub passes : (test : ℕ → Line → Bool) (all : Option ℕ) (hart before at size : ℕ) (scripts : List (List Line)) (lines read : List Line) → before + sum_by length (drop at scripts) ≤ 65536
    → first_failing test hart before (drop at scripts) ≡ all → at < length scripts → lines ≡ get_or scripts at lines → read ≡ lines → position (λ line. not (test hart line)) read ≡ None → size ≡ length lines
    → Decide test all (hart + 1) (before + size) (drop (at + 1) scripts)
passes test all hart before at size scripts lines read few same below item reads pass is =
    let first : drop at scripts ≡ lines ∷ drop (at + 1) scripts = drop_more scripts at lines below ∙ ap (λ l. l ∷ drop (at + 1) scripts) (sym item) in
    rw is (left_behind test all hart before lines (drop (at + 1) scripts) (record { few = rw first at few; same = rw first at same }) (rw reads at pass))
