-- What one turn adds: at most one answer, to the actor's first line that isn't answered, and a move where it moves.
use Rattle.std.specs.Prelude.{◌≡◌, ◌⊎◌, ℕ, ◌+◌, ◌-◌, ◌^◌, [], ◌∷◌, ◌++◌, min}
use Rattle.pl_base.specs.declared.actor.Actor.{Actor}
use Rattle.pl_base.specs.declared.actor.Actor.TheVariants as actor_is
use Rattle.pl_history.specs.declared.answer.Answer.{Answer}
use Rattle.world_machine.specs.declared.turned.Turned.{Turned}
use Rattle.world_machine.specs.declared.turned.Turned.TheVariants as turned
use Rattle.world_machine.specs.Answering.{entry_now}
use Rattle.world_machine.specs.Worlds.{WorldData}

-- whose lines an actor's turn answers; the attacker is the actor after the last hart
abbrev pub actor_number : ℕ → Actor → ℕ
actor_number harts (actor_is.Hart h) = h.0
actor_number harts (actor_is.Ack h) = h.0
actor_number harts actor_is.Attacker = harts

-- no entry joins the history, or one does: an answer to this actor's first line that isn't answered
abbrev pub AddsAtMostOne : WorldData → ℕ → WorldData → Type 0
AddsAtMostOne old actor new =
    (new.history.entries ≡ old.history.entries) ⊎ ((now : Answer) × (new.history.entries ≡ old.history.entries ++ entry_now old actor now ∷ []))

-- an acknowledgement answers nothing
abbrev pub AnswersAtMostOne : WorldData → Actor → WorldData → Type 0
AnswersAtMostOne old (actor_is.Hart h) new = AddsAtMostOne old h.0 new
AnswersAtMostOne old (actor_is.Ack h) new = new.history.entries ≡ old.history.entries
AnswersAtMostOne old actor_is.Attacker new = AddsAtMostOne old old.setup.harts new

-- a move is counted, up to the greatest count
abbrev pub moves_after : Turned → ℕ → ℕ
moves_after turned.Moved moves = min (moves + 1) (2 ^ 64 - 1)
moves_after other moves = moves
