-- What each actor's turn needs, and the attacker's turn.
use Rattle.std.specs.Prelude.{ℕ, ◌<◌, length}
use Rattle.pl_base.specs.declared.actor.Actor.{Actor}
use Rattle.pl_base.specs.declared.actor.Actor.TheVariants as actor_is
use Rattle.world_events.specs.declared.dues.Attack.{Attack}
use Rattle.world_events.specs.declared.dues.Attack.TheVariants as attack_is
use Rattle.world_events.specs.Conditions.{CanAcknowledge, CanAnswer, CanAttack}
use Rattle.world_machine.specs.declared.turned.Turned.TheVariants as turned
use Rattle.world_machine.specs.Attacking.{attacker_waited, attacks}
use Rattle.world_machine.specs.Steps.{Turn, moves, rests, waits}
use Rattle.world_machine.specs.Worlds.{WorldData, attacker_line, hart_line, under_at}
use Rattle.world_core.specs.Steps.{CanDue}
use Rattle.world_events.specs.Dues.{attack_of, due_of}

-- what a hart's turn needs
pub record CanTurn (w : WorldData) (hart : ℕ) : Type 0 where
  pub actors : hart < length w.answered
  pub harts : hart < length w.under
  pub scripts : hart < length w.setup.lines
  pub due : CanDue w hart (due_of (hart_line w hart)) (under_at w.under hart)

abbrev pub attack_turn : WorldData → Attack → Turn
attack_turn w attack_is.Nothing = rests turned.Done
attack_turn w (attack_is.After actor count) = waits w actor count (attacker_waited w)
attack_turn w attack_is.Line = moves (attacks w)

-- what a line of the attacker needs
abbrev pub CanAttackBy : WorldData → Attack → Type 0
CanAttackBy w attack_is.Nothing = Unit {0}
CanAttackBy w (attack_is.After actor count) = CanAnswer w w.setup.harts × (actor < length w.answered)
CanAttackBy w attack_is.Line = CanAttack w

-- what the attacker's turn needs
pub record CanAttackTurn (w : WorldData) : Type 0 where
  pub actors : w.setup.harts < length w.answered
  pub due : CanAttackBy w (attack_of (attacker_line w))

-- what an actor's turn needs
abbrev pub CanActor : WorldData → Actor → Type 0
CanActor w (actor_is.Hart h) = CanTurn w h.0
CanActor w (actor_is.Ack h) = CanAcknowledge w h.0
CanActor w actor_is.Attacker = CanAttackTurn w
