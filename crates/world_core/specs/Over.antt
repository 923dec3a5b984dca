-- Which actors have no event, by their lines without pages and bytes.
use Rattle.std.specs.Prelude.{ℕ, ◌≡◌, ◌+◌, ◌==◌, nat_lt, Bool, true, false, List, [], length}
use Rattle.pl_base.specs.declared.actor.Actor.TheVariants as actor_is
use Rattle.pl_history.specs.Monitor.{line_count}
use Rattle.world_events.specs.declared.dues.Attack.{Attack}
use Rattle.world_events.specs.declared.dues.Attack.TheVariants as attack_is
use Rattle.world_events.specs.declared.dues.Due.{Due}
use Rattle.world_events.specs.declared.dues.Due.TheVariants as due_is
use Rattle.world_machine.specs.declared.under.Under.{Under}
use Rattle.world_machine.specs.declared.under.Under.TheVariants.{Idle, Seeking, Removing, Destroying, Putting, Running, Breaking}
use Rattle.world_machine.specs.Runs.{is_still}
use Rattle.world_machine.specs.Steps.{actor_turn, turned_by}
use Rattle.world_machine.specs.Worlds.{WorldData, answered_at}

-- the lists of a world have the lengths that its setup gives
pub record HasLengths (w : WorldData) : Type 0 where
  pub harts : length w.under ≡ w.setup.harts
  pub actors : length w.answered ≡ w.setup.harts + 1
  pub scripts : length w.setup.lines ≡ w.setup.harts
  pub fences : length w.fences ≡ w.setup.harts

-- a line that hasn't begun waits, or there is none
abbrev pub waits_still : WorldData → Due → Bool
waits_still w (due_is.After actor count) = nat_lt (answered_at w.answered actor) count
waits_still w due_is.Nothing = true
waits_still w due = false

-- A line has no event. A removal, a giving back or a break under way moves, or waits for acknowledgements, which then move.
abbrev pub due_still : WorldData → Due → Under → Bool
due_still w due Idle = waits_still w due
due_still w (due_is.Load va) (Seeking walk) = false
due_still w (due_is.Store va word) (Seeking walk) = false
due_still w (due_is.Unmap va) (Removing page) = false
due_still w (due_is.Create e image shadow) (Putting done) = false
due_still w (due_is.Fork s e) (Putting done) = false
due_still w (due_is.Run e budget first) (Running micro count) = false
due_still w (due_is.Run e budget first) (Breaking count index) = false
due_still w (due_is.Destroy e) Destroying = false
due_still w due under = true

abbrev pub attack_still : WorldData → Attack → Bool
attack_still w attack_is.Nothing = true
attack_still w (attack_is.After actor count) = nat_lt (answered_at w.answered actor) count
attack_still w attack_is.Line = false

-- an actor's lines are all answered
abbrev pub is_done : WorldData → ℕ → Bool
is_done w actor = answered_at w.answered actor == line_count w.setup actor

module _ (digest_of : List ℕ → List ℕ) where
  abbrev pub hart_still : WorldData → ℕ → Bool
  hart_still w h = is_still (turned_by (actor_turn digest_of w (actor_is.Hart (record { 0 = h })) []))

  abbrev pub ack_still : WorldData → ℕ → Bool
  ack_still w h = is_still (turned_by (actor_turn digest_of w (actor_is.Ack (record { 0 = h })) []))

  abbrev pub attacker_still : WorldData → Bool
  attacker_still w = is_still (turned_by (actor_turn digest_of w actor_is.Attacker []))
