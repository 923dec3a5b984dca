-- A line that has begun has its number in the state that it set, and no two lines have one number under way.
use Rattle.std.proofs.Common.{◌≡◌, ◌≢◌, ℕ, ◌==◌, Bool, true, false, if◌then◌else◌, Option, Some, None, refl, sym, ap, ◌∙◌, subst}
use Rattle.std.proofs.lemmas.Bool.{eqb-false, eqb-true, false≢true}
use Rattle.pl_base.specs.States.{is_under_way}
use Rattle.pl_base.specs.declared.state.State.{State}
use Rattle.pl_base.specs.declared.state.State.TheVariants as state_is
use Rattle.pl_history.specs.declared.answer.Answer.{Answer}
use Rattle.pl_history.specs.declared.answer.Answer.TheVariants as answer_is
use Rattle.pl_history.specs.declared.line.Line.TheVariants as line_is
use Rattle.pl_history.specs.declared.setup.SetupParts.{SetupParts}
use Rattle.pl_history.specs.Laws.{moved}
use Rattle.pl_history.specs.Legal.{ActorLine, line_at, of_attacker, of_hart}
use Rattle.pl_history.specs.Monitor.{Number, Progress}
use Rattle.pl_history.proofs.ProgressLemmas.{moved_one}

-- the number that a line has under way once it has begun
abbrev pub number_of_line : ActorLine → Option ℕ
number_of_line (of_hart (line_is.Create e image pages)) = Some e.0
number_of_line (of_hart (line_is.Shadow e image pages)) = Some e.0
number_of_line (of_hart (line_is.Fork shadow e pages)) = Some e.0
number_of_line (of_hart (line_is.Run e budget)) = Some e.0
number_of_line (of_hart (line_is.Resume e budget)) = Some e.0
number_of_line (of_hart (line_is.Destroy e)) = Some e.0
number_of_line line = None

-- the state and the parent of that number
abbrev pub IsWay : ActorLine → State → Option ℕ → Type 0
IsWay (of_hart (line_is.Create e image pages)) state parent = state ≡ state_is.Building
IsWay (of_hart (line_is.Shadow e image pages)) state parent = (state ≡ state_is.Building) × (parent ≡ None)
IsWay (of_hart (line_is.Fork shadow e pages)) state parent = state ≡ state_is.Building
IsWay (of_hart (line_is.Run e budget)) state parent = state ≡ state_is.On
IsWay (of_hart (line_is.Resume e budget)) state parent = state ≡ state_is.On
IsWay (of_hart (line_is.Destroy e)) state parent = state ≡ state_is.Dying
IsWay line state parent = Unit {0}

pub way_under : (line : ActorLine) (e : ℕ) (state : State) (parent : Option ℕ) → number_of_line line ≡ Some e → IsWay line state parent → is_under_way state ≡ true
way_under (of_hart (line_is.Create f image pages)) e state parent is way = ap is_under_way way
way_under (of_hart (line_is.Shadow f image pages)) e state parent is way = ap is_under_way way.0
way_under (of_hart (line_is.Fork shadow f pages)) e state parent is way = ap is_under_way way
way_under (of_hart (line_is.Run f budget)) e state parent is way = ap is_under_way way
way_under (of_hart (line_is.Resume f budget)) e state parent is way = ap is_under_way way
way_under (of_hart (line_is.Destroy f)) e state parent is way = ap is_under_way way
way_under (of_hart (line_is.Load va)) e state parent is way = cc
way_under (of_hart (line_is.Store va word)) e state parent is way = cc
way_under (of_hart (line_is.Map va page perms)) e state parent is way = cc
way_under (of_hart (line_is.Unmap va)) e state parent is way = cc
way_under (of_hart (line_is.Grant f page)) e state parent is way = cc
way_under (of_hart (line_is.Send f word)) e state parent is way = cc
way_under (of_hart (line_is.Take f)) e state parent is way = cc
way_under (of_hart (line_is.Drop f)) e state parent is way = cc
way_under (of_hart (line_is.After actor count)) e state parent is way = cc
way_under (of_attacker line) e state parent is way = cc

-- an actor that is so far has begun this line, which has this number under way
pub record IsUnder (setup : SetupParts) (progress : Progress) (actor : ℕ) (line : ActorLine) (e : ℕ) : Type 0 where
  pub begun : progress.begun ≡ true
  pub here : line_at setup actor progress.answered ≡ Some line
  pub names : number_of_line line ≡ Some e

pub record LinesStand (setup : SetupParts) (progress : ℕ → Progress) (number : ℕ → Number) : Type 0 where
  pub ways : (actor : ℕ) (line : ActorLine) (e : ℕ) → IsUnder setup (progress actor) actor line e → IsWay line (number e).state (number e).parent
  pub apart : (actor other : ℕ) (line later : ActorLine) (e : ℕ) → IsUnder setup (progress actor) actor line e → IsUnder setup (progress other) other later e → actor ≡ other

-- what an answer of an actor leaves of the numbers that others have under way, and where its line begins, of its own
pub record IsStep (setup : SetupParts) (progress : ℕ → Progress) (number : ℕ → Number) (actor : ℕ) (line : ActorLine) (now : Answer) : Type 0 where
  pub others : (other : ℕ) (later : ActorLine) (e : ℕ) → other ≢ actor → IsUnder setup (progress other) other later e → IsWay later (number e).state (number e).parent
  pub own : now ≡ answer_is.Begun → (e : ℕ) → number_of_line line ≡ Some e → IsWay line (number e).state (number e).parent
  pub unused : now ≡ answer_is.Begun → (e : ℕ) → number_of_line line ≡ Some e → (other : ℕ) (later : ActorLine) → IsUnder setup (progress other) other later e → ⊥

line_inside : (a b : ActorLine) → Some a ≡ Some b → a ≡ b
line_inside a b same = cc

-- an actor that has begun a line after an answer: the answer was Begun, to that line
under_begun : (setup : SetupParts) (p : Progress) (now : Answer) (actor : ℕ) (line later : ActorLine) (e : ℕ) → line_at setup actor p.answered ≡ Some line
    → IsUnder setup (moved p now) actor later e → (now ≡ answer_is.Begun) × (later ≡ line)
under_begun setup p answer_is.Begun actor line later e here u = (refl, line_inside later line (sym u.here ∙ here))
under_begun setup p answer_is.Ok actor line later e here u = absurd (false≢true u.begun)
under_begun setup p (answer_is.Value value) actor line later e here u = absurd (false≢true u.begun)
under_begun setup p (answer_is.Word word) actor line later e here u = absurd (false≢true u.begun)
under_begun setup p (answer_is.Left count why) actor line later e here u = absurd (false≢true u.begun)
under_begun setup p (answer_is.No cause) actor line later e here u = absurd (false≢true u.begun)
under_begun setup p (answer_is.Wrote changed pa from len) actor line later e here u = absurd (false≢true u.begun)
under_begun setup p (answer_is.Kept pa from len) actor line later e here u = absurd (false≢true u.begun)

-- the lines stand after the answer
pub step_stands : (setup : SetupParts) (progress : ℕ → Progress) (old number : ℕ → Number) (actor : ℕ) (line : ActorLine) (now : Answer) → LinesStand setup progress old
    → line_at setup actor (progress actor).answered ≡ Some line → IsStep setup progress number actor line now → LinesStand setup (moved_one progress actor now) number
step_stands setup progress old number actor line now k here step = record {
  ways = λ a la e u. ways_at a la e (a == actor) refl u;
  apart = λ a b la lb e u v. apart_at a b la lb e (a == actor) (b == actor) refl refl u v;
}
  where
    own_line : (a : ℕ) (la : ActorLine) (e : ℕ) → (a == actor) ≡ true → IsUnder setup (moved (progress actor) now) a la e → (now ≡ answer_is.Begun) × (la ≡ line)
    own_line a la e is u =
        under_begun setup (progress actor) now actor line la e here (subst (λ x. IsUnder setup (moved (progress actor) now) x la e) (eqb-true a actor is) u)

    own_number : (a : ℕ) (la : ActorLine) (e : ℕ) → (a == actor) ≡ true → IsUnder setup (moved (progress actor) now) a la e → number_of_line line ≡ Some e
    own_number a la e is u = ap number_of_line (sym (own_line a la e is u).1) ∙ u.names

    ways_at : (a : ℕ) (la : ActorLine) (e : ℕ) (b : Bool) → (a == actor) ≡ b → IsUnder setup (if b then moved (progress actor) now else progress a) a la e
        → IsWay la (number e).state (number e).parent
    ways_at a la e true is u =
        let own = own_line a la e is u in
        subst (λ l. IsWay l (number e).state (number e).parent) (sym own.1) (step.own own.0 e (own_number a la e is u))
    ways_at a la e false is u = step.others a la e (eqb-false a actor is) u

    apart_at : (a b : ℕ) (la lb : ActorLine) (e : ℕ) (s t : Bool) → (a == actor) ≡ s → (b == actor) ≡ t → IsUnder setup (if s then moved (progress actor) now else progress a) a la e
        → IsUnder setup (if t then moved (progress actor) now else progress b) b lb e → a ≡ b
    apart_at a b la lb e true true is it u v = eqb-true a actor is ∙ sym (eqb-true b actor it)
    apart_at a b la lb e true false is it u v = absurd (step.unused (own_line a la e is u).0 e (own_number a la e is u) b lb v)
    apart_at a b la lb e false true is it u v = absurd (step.unused (own_line b lb e it v).0 e (own_number b lb e it v) a la u)
    apart_at a b la lb e false false is it u v = k.apart a b la lb e u v
