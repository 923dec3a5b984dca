-- How far the actors are after an entry.
use Rattle.std.proofs.Common.{◌≡◌, ℕ, ◌==◌, Bool, true, false, if◌then◌else◌, List, [], Option, Some, None, option_map, slice_get, refl, sym, ap, ◌∙◌, subst, eq-eqb}
use Rattle.std.specs.Option.{option_map_or}
use Rattle.pl_history.specs.declared.answer.Answer.{Answer}
use Rattle.pl_history.specs.declared.answer.Answer.TheVariants as answer_is
use Rattle.pl_history.specs.declared.answer.Entry.{Entry}
use Rattle.pl_history.specs.declared.line.Line.{Line}
use Rattle.pl_history.specs.declared.line.Line.TheVariants as line_is
use Rattle.pl_history.specs.declared.line.AttackLine.{AttackLine}
use Rattle.pl_history.specs.declared.line.AttackLine.TheVariants as attack
use Rattle.pl_history.specs.declared.setup.SetupParts.{SetupParts}
use Rattle.pl_history.specs.Answering.{Changes, change_by, progressed}
use Rattle.pl_history.specs.History.{named_part}
use Rattle.pl_history.specs.Laws.{moved, AnswersMoveOneActor, LinesBeginOnce}
use Rattle.pl_history.specs.Legal.{ActorLine, of_hart, of_attacker, line_at, AllowedAnswer, AllowedAttack, AllowedLine, changes, attack_changes, after_line}
use Rattle.pl_history.specs.Monitor.{Monitor, Progress, script_of}
use Rattle.pl_history.proofs.StatesStay.{EachStays, attack_stays, line_stays}

-- ---- what an answer moves on

-- an actor is moved on by an answer, and no other
abbrev pub moved_one : (ℕ → Progress) → ℕ → Answer → ℕ → Progress
moved_one progress actor now other = if other == actor then moved (progress actor) now else progress other

-- after an answer, from a state that is as far as the one before
answer_moves : (s : Monitor) (all : Changes) (actor : ℕ) (now : Answer) → EachStays s all → (progressed (change_by all now) actor now).progress ≡ moved_one s.progress actor now
answer_moves s all actor answer_is.Begun keeps = ap (λ (p : ℕ → Progress). moved_one p actor answer_is.Begun) keeps.begun.progress
answer_moves s all actor answer_is.Ok keeps = ap (λ (p : ℕ → Progress). moved_one p actor answer_is.Ok) keeps.ok.progress
answer_moves s all actor (answer_is.Value value) keeps = ap (λ (p : ℕ → Progress). moved_one p actor (answer_is.Value value)) keeps.value.progress
answer_moves s all actor (answer_is.Word word) keeps = ap (λ (p : ℕ → Progress). moved_one p actor (answer_is.Word word)) keeps.word.progress
answer_moves s all actor (answer_is.Left count why) keeps = ap (λ (p : ℕ → Progress). moved_one p actor (answer_is.Left count why)) (keeps.left count why).progress
answer_moves s all actor (answer_is.No cause) keeps = ap (λ (p : ℕ → Progress). moved_one p actor (answer_is.No cause)) keeps.no.progress
answer_moves s all actor (answer_is.Wrote changed pa from len) keeps = ap (λ (p : ℕ → Progress). moved_one p actor (answer_is.Wrote changed pa from len)) (keeps.wrote changed pa).progress
answer_moves s all actor (answer_is.Kept pa from len) keeps = ap (λ (p : ℕ → Progress). moved_one p actor (answer_is.Kept pa from len)) keeps.kept.progress

pub line_moves : (s : Monitor) (actor : ℕ) (part : List ℕ) (now : Answer) (line : ActorLine) → (after_line s actor part now line).progress ≡ moved_one s.progress actor now
line_moves s actor part now (of_hart line) = answer_moves s (changes s actor line (s.progress actor).begun) actor now (line_stays s actor line (s.progress actor).begun)
line_moves s actor part now (of_attacker line) = answer_moves s (attack_changes s part line) actor now (attack_stays s part line)

pub answers_move : AnswersMoveOneActor
answers_move setup bytes s entry line here other =
    ap (λ (o : Option ActorLine). (option_map_or (after_line s entry.actor (named_part bytes entry.answer) entry.answer) o s).progress other) here
    ∙ ap (λ (p : ℕ → Progress). p other) (line_moves s entry.actor (named_part bytes entry.answer) entry.answer line)

-- ---- a line begins once

not_ok : answer_is.Begun ≡ answer_is.Ok → ⊥
not_ok same = cc

hart_begins_once : (setup : SetupParts) (s : Monitor) (line : Line) → AllowedAnswer setup s line true answer_is.Begun → ⊥
hart_begins_once setup s (line_is.Load va) again = again
hart_begins_once setup s (line_is.Store va word) again = again
hart_begins_once setup s (line_is.Map va page perms) again = again
hart_begins_once setup s (line_is.Unmap va) again = not_ok again
hart_begins_once setup s (line_is.Create e image pages) again = not_ok again
hart_begins_once setup s (line_is.Shadow e image pages) again = not_ok again
hart_begins_once setup s (line_is.Fork shadow e pages) again = not_ok again
hart_begins_once setup s (line_is.Grant e page) again = again
hart_begins_once setup s (line_is.Run e budget) again = again
hart_begins_once setup s (line_is.Resume e budget) again = again
hart_begins_once setup s (line_is.Send e word) again = again
hart_begins_once setup s (line_is.Take e) again = again
hart_begins_once setup s (line_is.Destroy e) again = not_ok again
hart_begins_once setup s (line_is.Drop e) again = again
hart_begins_once setup s (line_is.After actor count) again = again

attacker_never_begins : (setup : SetupParts) (bytes : List ℕ) (s : Monitor) (before : List Entry) (part : List ℕ) (line : AttackLine) (begun : Bool)
    → AllowedAttack setup bytes s before part line begun answer_is.Begun → ⊥
attacker_never_begins setup bytes s before part (attack.Write pa new) true never = never
attacker_never_begins setup bytes s before part (attack.Write pa new) false never = never
attacker_never_begins setup bytes s before part (attack.Keep name pa len) true never = never
attacker_never_begins setup bytes s before part (attack.Keep name pa len) false never = never
attacker_never_begins setup bytes s before part (attack.Back name) true never = never
attacker_never_begins setup bytes s before part (attack.Back name) false never = never
attacker_never_begins setup bytes s before part (attack.After actor count) true never = never
attacker_never_begins setup bytes s before part (attack.After actor count) false never = never

line_begins_once : (setup : SetupParts) (bytes : List ℕ) (s : Monitor) (before : List Entry) (line : ActorLine) (begun : Bool) → begun ≡ true
    → AllowedLine setup bytes s before line begun answer_is.Begun → ⊥
line_begins_once setup bytes s before (of_hart line) true is again = hart_begins_once setup s line again
line_begins_once setup bytes s before (of_hart line) false is again = cc
line_begins_once setup bytes s before (of_attacker line) begun is again = attacker_never_begins setup bytes s before [] line begun again

-- the actor after the last hart has the attacker's lines
pub attacker-line_at : (setup : SetupParts) (at : ℕ) → line_at setup setup.harts at ≡ option_map of_attacker (slice_get setup.attacker at)
attacker-line_at setup at =
    ap (λ (test : Bool). if test then option_map of_attacker (slice_get setup.attacker at) else option_map of_hart (slice_get (script_of setup setup.harts) at)) (eq-eqb setup.harts setup.harts refl)

pub no_line_of_a_hart : (o : Option AttackLine) (line : Line) → option_map of_attacker o ≡ Some (of_hart line) → ⊥
no_line_of_a_hart None line same = cc
no_line_of_a_hart (Some x) line same = cc

attackers_line : (setup : SetupParts) (bytes : List ℕ) (s : Monitor) (before : List Entry) (at : ℕ) (line : ActorLine) (begun : Bool) → line_at setup setup.harts at ≡ Some line
    → AllowedLine setup bytes s before line begun answer_is.Begun → ⊥
attackers_line setup bytes s before at (of_hart line) begun here allowed = no_line_of_a_hart (slice_get setup.attacker at) line (sym (attacker-line_at setup at) ∙ here)
attackers_line setup bytes s before at (of_attacker line) begun here allowed = attacker_never_begins setup bytes s before [] line begun allowed

pub lines_begin_once : LinesBeginOnce
lines_begin_once = record {
  once = λ setup bytes s before entry allowed begun is.
      line_begins_once setup bytes s before allowed.1.0 (s.progress entry.actor).begun begun
      (subst (AllowedLine setup bytes s before allowed.1.0 (s.progress entry.actor).begun) is allowed.1.2);
  never = λ setup bytes s before entry allowed attacker is.
      attackers_line setup bytes s before entry.line allowed.1.0 (s.progress entry.actor).begun
      (subst (λ (actor : ℕ). line_at setup actor entry.line ≡ Some allowed.1.0) attacker allowed.1.1)
      (subst (AllowedLine setup bytes s before allowed.1.0 (s.progress entry.actor).begun) is allowed.1.2);
}
