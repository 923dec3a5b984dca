-- Turns: that of a line without its pages is the line's, and what a turn that moves or rests leaves.
use Rattle.std.proofs.Common.{◌≡◌, ◌≢◌, ℕ, List, [], Bool, true, false, Option, Some, None, is_some, refl, ap, ◌∙◌, sym, subst, if◌then◌else◌}
use Rattle.std.specs.Prelude.{IsTrue, nat_le}
use Rattle.pl_base.specs.declared.actor.Actor.{Actor}
use Rattle.pl_base.specs.declared.actor.Actor.TheVariants as actor_is
use Rattle.pl_base.specs.declared.number.HartSet.{HartSet}
use Rattle.mem_slots.specs.declared.slot_use.SlotUse.{SlotUse}
use Rattle.pl_history.specs.declared.line.AttackLine.{AttackLine}
use Rattle.pl_history.specs.declared.line.AttackLine.TheVariants as attack
use Rattle.pl_history.specs.declared.line.Line.{Line}
use Rattle.pl_history.specs.declared.line.Line.TheVariants as line_is
use Rattle.pl_history.specs.Rules.{is_actor}
use Rattle.world_events.specs.declared.dues.Due.{Due}
use Rattle.world_events.specs.declared.dues.Due.TheVariants as due_is
use Rattle.world_events.specs.Conditions.{pages_named}
use Rattle.world_machine.specs.declared.turned.Turned.{Turned}
use Rattle.world_machine.specs.declared.turned.Turned.TheVariants as turned
use Rattle.world_machine.specs.declared.turned.Wait.TheVariants as wait
use Rattle.world_machine.specs.declared.under.Under.{Under}
use Rattle.world_machine.specs.declared.under.Under.TheVariants.{Idle, Seeking, Removing, Destroying, Putting, Running, Breaking}
use Rattle.world_machine.specs.Acknowledging.{owed}
use Rattle.world_machine.specs.GivingBack.{ends_destroy}
use Rattle.world_machine.specs.HostMapping.{ends_unmap, lacked_by}
use Rattle.world_machine.specs.Running.{restarts}
use Rattle.world_machine.specs.Steps as step
use Rattle.world_machine.specs.Steps.{StepOf, Turn, moves, rests, actor_turn, attacker_turn, counted, due, turn_of, turned_by}
use Rattle.world_machine.specs.Worlds.{Event, WorldData, answered_at, attacker_line, hart_line, under_at}
use Rattle.world_events.specs.Turns.{IsTurn, left_by}
use Rattle.world_events.specs.Dues.{attack_of, due_of}
use Rattle.world_core.specs.Steps.{begun_turn, due_turn, say_turn}
use Rattle.world_core.specs.Turns.{attack_turn}

-- ---- lines without their pages and bytes

module _ (d : List ℕ → List ℕ) (w : WorldData) (hart : ℕ) (positions : List ℕ) where
  due_turn-line : (line : Line) (under : Under) → due_turn d w hart positions (pages_named (Some line)) (due_of (Some line)) under ≡ due d w hart positions line under
  due_turn-line (line_is.Load va) Idle = refl
  due_turn-line (line_is.Load va) (Seeking walk) = refl
  due_turn-line (line_is.Load va) (Removing page) = refl
  due_turn-line (line_is.Load va) Destroying = refl
  due_turn-line (line_is.Load va) (Putting done) = refl
  due_turn-line (line_is.Load va) (Running micro count) = refl
  due_turn-line (line_is.Load va) (Breaking count index) = refl
  due_turn-line (line_is.Store va word) Idle = refl
  due_turn-line (line_is.Store va word) (Seeking walk) = refl
  due_turn-line (line_is.Store va word) (Removing page) = refl
  due_turn-line (line_is.Store va word) Destroying = refl
  due_turn-line (line_is.Store va word) (Putting done) = refl
  due_turn-line (line_is.Store va word) (Running micro count) = refl
  due_turn-line (line_is.Store va word) (Breaking count index) = refl
  due_turn-line (line_is.Map va page perms) Idle = refl
  due_turn-line (line_is.Map va page perms) (Seeking walk) = refl
  due_turn-line (line_is.Map va page perms) (Removing now) = refl
  due_turn-line (line_is.Map va page perms) Destroying = refl
  due_turn-line (line_is.Map va page perms) (Putting done) = refl
  due_turn-line (line_is.Map va page perms) (Running micro count) = refl
  due_turn-line (line_is.Map va page perms) (Breaking count index) = refl
  due_turn-line (line_is.Unmap va) Idle = refl
  due_turn-line (line_is.Unmap va) (Seeking walk) = refl
  due_turn-line (line_is.Unmap va) (Removing page) = refl
  due_turn-line (line_is.Unmap va) Destroying = refl
  due_turn-line (line_is.Unmap va) (Putting done) = refl
  due_turn-line (line_is.Unmap va) (Running micro count) = refl
  due_turn-line (line_is.Unmap va) (Breaking count index) = refl
  due_turn-line (line_is.Create e image pages) Idle = refl
  due_turn-line (line_is.Create e image pages) (Seeking walk) = refl
  due_turn-line (line_is.Create e image pages) (Removing page) = refl
  due_turn-line (line_is.Create e image pages) Destroying = refl
  due_turn-line (line_is.Create e image pages) (Putting done) = refl
  due_turn-line (line_is.Create e image pages) (Running micro count) = refl
  due_turn-line (line_is.Create e image pages) (Breaking count index) = refl
  due_turn-line (line_is.Shadow e image pages) Idle = refl
  due_turn-line (line_is.Shadow e image pages) (Seeking walk) = refl
  due_turn-line (line_is.Shadow e image pages) (Removing page) = refl
  due_turn-line (line_is.Shadow e image pages) Destroying = refl
  due_turn-line (line_is.Shadow e image pages) (Putting done) = refl
  due_turn-line (line_is.Shadow e image pages) (Running micro count) = refl
  due_turn-line (line_is.Shadow e image pages) (Breaking count index) = refl
  due_turn-line (line_is.Fork s e pages) Idle = refl
  due_turn-line (line_is.Fork s e pages) (Seeking walk) = refl
  due_turn-line (line_is.Fork s e pages) (Removing page) = refl
  due_turn-line (line_is.Fork s e pages) Destroying = refl
  due_turn-line (line_is.Fork s e pages) (Putting done) = refl
  due_turn-line (line_is.Fork s e pages) (Running micro count) = refl
  due_turn-line (line_is.Fork s e pages) (Breaking count index) = refl
  due_turn-line (line_is.Run e budget) Idle = refl
  due_turn-line (line_is.Run e budget) (Seeking walk) = refl
  due_turn-line (line_is.Run e budget) (Removing page) = refl
  due_turn-line (line_is.Run e budget) Destroying = refl
  due_turn-line (line_is.Run e budget) (Putting done) = refl
  due_turn-line (line_is.Run e budget) (Running micro count) = refl
  due_turn-line (line_is.Run e budget) (Breaking count index) = refl
  due_turn-line (line_is.Resume e budget) Idle = refl
  due_turn-line (line_is.Resume e budget) (Seeking walk) = refl
  due_turn-line (line_is.Resume e budget) (Removing page) = refl
  due_turn-line (line_is.Resume e budget) Destroying = refl
  due_turn-line (line_is.Resume e budget) (Putting done) = refl
  due_turn-line (line_is.Resume e budget) (Running micro count) = refl
  due_turn-line (line_is.Resume e budget) (Breaking count index) = refl
  due_turn-line (line_is.Send e word) Idle = refl
  due_turn-line (line_is.Take e) Idle = refl
  due_turn-line (line_is.Grant e page) Idle = refl
  due_turn-line (line_is.Drop s) Idle = refl
  due_turn-line (line_is.Destroy e) Idle = refl
  due_turn-line (line_is.Destroy e) (Seeking walk) = refl
  due_turn-line (line_is.Destroy e) (Removing page) = refl
  due_turn-line (line_is.Destroy e) Destroying = refl
  due_turn-line (line_is.Destroy e) (Putting done) = refl
  due_turn-line (line_is.Destroy e) (Running micro count) = refl
  due_turn-line (line_is.Destroy e) (Breaking count index) = refl
  due_turn-line (line_is.After actor count) Idle = refl
  due_turn-line line (Seeking walk) = refl
  due_turn-line line (Removing page) = refl
  due_turn-line line Destroying = refl
  due_turn-line line (Putting done) = refl
  due_turn-line line (Running micro count) = refl
  due_turn-line line (Breaking count index) = refl

  nothing_due : (under : Under) → due_turn d w hart positions [] (due_of None) under ≡ rests turned.Done
  nothing_due Idle = refl
  nothing_due (Seeking walk) = refl
  nothing_due (Removing page) = refl
  nothing_due Destroying = refl
  nothing_due (Putting done) = refl
  nothing_due (Running micro count) = refl
  nothing_due (Breaking count index) = refl

  pub due_turn-hart : (line : Option Line) → due_turn d w hart positions (pages_named line) (due_of line) (under_at w.under hart) ≡ step.hart_turn d w hart positions line
  due_turn-hart None = nothing_due (under_at w.under hart)
  due_turn-hart (Some line) = due_turn-line line (under_at w.under hart)

pub attack_turn-line : (d : List ℕ → List ℕ) (w : WorldData) (line : Option AttackLine) → attack_turn w (attack_of line) ≡ attacker_turn d w line
attack_turn-line d w None = refl
attack_turn-line d w (Some (attack.After actor count)) = refl
attack_turn-line d w (Some line) = refl

-- a line that is answered at once
abbrev pub is_said : Due → Bool
is_said (due_is.Load va) = false
is_said (due_is.Store va word) = false
is_said (due_is.Map va page perms) = false
is_said (due_is.Unmap va) = false
is_said (due_is.Create e image shadow) = false
is_said (due_is.Fork s e) = false
is_said (due_is.Run e budget first) = false
is_said (due_is.Destroy e) = false
is_said due = true

pub said_turn : (gives : List SlotUse → ℕ → Type 0) (d : List ℕ → List ℕ) (w new : WorldData) (hart : ℕ) (pages : List ℕ) (due : Due) (under : Under) (answered : Turned) → is_said due ≡ true
    → IsTurn gives (λ positions. begun_turn under (say_turn w hart due)) answered w new → IsTurn gives (λ positions. due_turn d w hart positions pages due under) answered w new
said_turn gives d w new hart pages (due_is.Load va) under answered said turn = cc
said_turn gives d w new hart pages (due_is.Store va word) under answered said turn = cc
said_turn gives d w new hart pages (due_is.Map va page perms) under answered said turn = cc
said_turn gives d w new hart pages (due_is.Unmap va) under answered said turn = cc
said_turn gives d w new hart pages (due_is.Create e image shadow) under answered said turn = cc
said_turn gives d w new hart pages (due_is.Fork s e) under answered said turn = cc
said_turn gives d w new hart pages (due_is.Run e budget first) under answered said turn = cc
said_turn gives d w new hart pages (due_is.Destroy e) under answered said turn = cc
said_turn gives d w new hart pages due under answered said turn = turn

-- turns that are equal for all positions
pub turn_same : (gives : List SlotUse → ℕ → Type 0) (f g : List ℕ → Turn) (answered : Turned) (old new : WorldData) → ((positions : List ℕ) → f positions ≡ g positions)
    → IsTurn gives f answered old new → IsTurn gives g answered old new
turn_same gives f g answered old new same = subst (λ (t : List ℕ → Turn). IsTurn gives t answered old new) (λ i positions. same positions i)

-- ---- a turn rests by another answer than Moved

-- a turn moves, or rests by another answer
abbrev is_sound : Turn → Bool
is_sound (moves event) = true
is_sound (rests turned.Moved) = false
is_sound (rests why) = true

waits-sound : (w : WorldData) (actor count : ℕ) (event : Event) → is_sound (step.waits w actor count event) ≡ true
waits-sound w actor count event = by (nat_le count (answered_at w.answered actor))
  where
    by : (b : Bool) → is_sound (if b then moves event else rests (turned.Blocked (wait.After actor count))) ≡ true
    by true = refl
    by false = refl

waiting-sound : (ended : WorldData) (lacked : Option HartSet) → is_sound (step.waiting_turn ended lacked) ≡ true
waiting-sound ended None = refl
waiting-sound ended (Some harts) = refl

ack-sound : (w : WorldData) (hart : ℕ) (requester : Option ℕ) → is_sound (step.ack_turn w hart requester) ≡ true
ack-sound w hart None = refl
ack-sound w hart (Some requester) = refl

module _ (d : List ℕ → List ℕ) (w : WorldData) where
  due-sound : (hart : ℕ) (positions : List ℕ) (line : Line) (under : Under) → is_sound (due d w hart positions line under) ≡ true
  due-sound hart positions (line_is.Unmap va) Idle = refl
  due-sound hart positions (line_is.Unmap va) (Seeking walk) = refl
  due-sound hart positions (line_is.Unmap va) (Removing page) = waiting-sound (ends_unmap w hart page) (lacked_by w hart)
  due-sound hart positions (line_is.Unmap va) Destroying = refl
  due-sound hart positions (line_is.Unmap va) (Putting done) = refl
  due-sound hart positions (line_is.Unmap va) (Running micro count) = refl
  due-sound hart positions (line_is.Unmap va) (Breaking count index) = refl
  due-sound hart positions (line_is.Load va) Idle = refl
  due-sound hart positions (line_is.Load va) (Seeking walk) = refl
  due-sound hart positions (line_is.Load va) (Removing page) = refl
  due-sound hart positions (line_is.Load va) Destroying = refl
  due-sound hart positions (line_is.Load va) (Putting done) = refl
  due-sound hart positions (line_is.Load va) (Running micro count) = refl
  due-sound hart positions (line_is.Load va) (Breaking count index) = refl
  due-sound hart positions (line_is.Store va word) Idle = refl
  due-sound hart positions (line_is.Store va word) (Seeking walk) = refl
  due-sound hart positions (line_is.Store va word) (Removing page) = refl
  due-sound hart positions (line_is.Store va word) Destroying = refl
  due-sound hart positions (line_is.Store va word) (Putting done) = refl
  due-sound hart positions (line_is.Store va word) (Running micro count) = refl
  due-sound hart positions (line_is.Store va word) (Breaking count index) = refl
  due-sound hart positions (line_is.Create e image pages) Idle = refl
  due-sound hart positions (line_is.Create e image pages) (Seeking walk) = refl
  due-sound hart positions (line_is.Create e image pages) (Removing page) = refl
  due-sound hart positions (line_is.Create e image pages) Destroying = refl
  due-sound hart positions (line_is.Create e image pages) (Putting done) = refl
  due-sound hart positions (line_is.Create e image pages) (Running micro count) = refl
  due-sound hart positions (line_is.Create e image pages) (Breaking count index) = refl
  due-sound hart positions (line_is.Shadow e image pages) Idle = refl
  due-sound hart positions (line_is.Shadow e image pages) (Seeking walk) = refl
  due-sound hart positions (line_is.Shadow e image pages) (Removing page) = refl
  due-sound hart positions (line_is.Shadow e image pages) Destroying = refl
  due-sound hart positions (line_is.Shadow e image pages) (Putting done) = refl
  due-sound hart positions (line_is.Shadow e image pages) (Running micro count) = refl
  due-sound hart positions (line_is.Shadow e image pages) (Breaking count index) = refl
  due-sound hart positions (line_is.Fork s e pages) Idle = refl
  due-sound hart positions (line_is.Fork s e pages) (Seeking walk) = refl
  due-sound hart positions (line_is.Fork s e pages) (Removing page) = refl
  due-sound hart positions (line_is.Fork s e pages) Destroying = refl
  due-sound hart positions (line_is.Fork s e pages) (Putting done) = refl
  due-sound hart positions (line_is.Fork s e pages) (Running micro count) = refl
  due-sound hart positions (line_is.Fork s e pages) (Breaking count index) = refl
  due-sound hart positions (line_is.Run e budget) Idle = refl
  due-sound hart positions (line_is.Run e budget) (Seeking walk) = refl
  due-sound hart positions (line_is.Run e budget) (Removing page) = refl
  due-sound hart positions (line_is.Run e budget) Destroying = refl
  due-sound hart positions (line_is.Run e budget) (Putting done) = refl
  due-sound hart positions (line_is.Run e budget) (Running micro count) = refl
  due-sound hart positions (line_is.Run e budget) (Breaking count index) = waiting-sound (restarts w hart count) (lacked_by w hart)
  due-sound hart positions (line_is.Resume e budget) Idle = refl
  due-sound hart positions (line_is.Resume e budget) (Seeking walk) = refl
  due-sound hart positions (line_is.Resume e budget) (Removing page) = refl
  due-sound hart positions (line_is.Resume e budget) Destroying = refl
  due-sound hart positions (line_is.Resume e budget) (Putting done) = refl
  due-sound hart positions (line_is.Resume e budget) (Running micro count) = refl
  due-sound hart positions (line_is.Resume e budget) (Breaking count index) = waiting-sound (restarts w hart count) (lacked_by w hart)
  due-sound hart positions (line_is.Destroy e) Idle = refl
  due-sound hart positions (line_is.Destroy e) (Seeking walk) = refl
  due-sound hart positions (line_is.Destroy e) (Removing page) = refl
  due-sound hart positions (line_is.Destroy e) Destroying = waiting-sound (ends_destroy w hart e) (lacked_by w hart)
  due-sound hart positions (line_is.Destroy e) (Putting done) = refl
  due-sound hart positions (line_is.Destroy e) (Running micro count) = refl
  due-sound hart positions (line_is.Destroy e) (Breaking count index) = refl
  due-sound hart positions (line_is.After actor count) Idle = waits-sound w actor count _
  due-sound hart positions line Idle = refl
  due-sound hart positions line (Seeking walk) = refl
  due-sound hart positions line (Removing page) = refl
  due-sound hart positions line Destroying = refl
  due-sound hart positions line (Putting done) = refl
  due-sound hart positions line (Running micro count) = refl
  due-sound hart positions line (Breaking count index) = refl

  hart-sound : (hart : ℕ) (positions : List ℕ) (line : Option Line) → is_sound (step.hart_turn d w hart positions line) ≡ true
  hart-sound hart positions None = refl
  hart-sound hart positions (Some line) = due-sound hart positions line (under_at w.under hart)

  attacker-sound : (line : Option AttackLine) → is_sound (attacker_turn d w line) ≡ true
  attacker-sound None = refl
  attacker-sound (Some (attack.After actor count)) = waits-sound w actor count _
  attacker-sound (Some line) = refl

  actor-sound : (actor : Actor) (positions : List ℕ) → is_sound (actor_turn d w actor positions) ≡ true
  actor-sound (actor_is.Hart h) positions = hart-sound h.0 positions (hart_line w h.0)
  actor-sound (actor_is.Ack h) positions = ack-sound w h.0 (owed w.fences h.0)
  actor-sound actor_is.Attacker positions = attacker-sound (attacker_line w)

  turn-sound : (actor : Actor) (positions : List ℕ) → is_sound (turn_of d w actor positions) ≡ true
  unfolding step.turn_of
  turn-sound actor positions = by (is_some w.collision)
    where
      by : (b : Bool) → is_sound (if b then rests turned.Halted else actor_turn d w actor positions) ≡ true
      by true = refl
      by false = actor-sound actor positions

-- what a turn leaves that moved, and one that rested
moved_by : (w new : WorldData) (turn : Turn) → is_sound turn ≡ true → turned.Moved ≡ turned_by turn → counted (left_by w turn) ≡ step.world_after w turn
moved_by w new (moves event) sound is = refl
moved_by w new (rests turned.Moved) sound is = cc
moved_by w new (rests why) sound is = cc

rested_by : (w : WorldData) (turn : Turn) → turned_by turn ≢ turned.Moved → (left_by w turn ≡ w) × (w ≡ step.world_after w turn)
rested_by w (moves event) rested = absurd (rested refl)
rested_by w (rests why) rested = (refl, refl)

module _ (d : List ℕ → List ℕ) (gives : List SlotUse → ℕ → Type 0) (old mid new : WorldData) (actor : Actor) (there : IsTrue (is_actor old.setup.harts actor)) (answered : Turned)
    (turn : IsTurn gives (turn_of d old actor) answered old mid) where
  -- a step that moved is counted
  pub step_moved : answered ≡ turned.Moved → new ≡ counted mid → StepOf d gives old actor new
  unfolding step.stepped
  step_moved moved is = record {
    positions = turn.positions;
    fits = record { actor = there; positions = turn.given };
    is = is ∙ ap counted turn.is ∙ moved_by old new (turn_of d old actor turn.positions) (turn-sound d old actor turn.positions) (sym moved ∙ turn.says turn.positions);
  }

  rested : answered ≢ turned.Moved → (left_by old (turn_of d old actor turn.positions) ≡ old) × (old ≡ step.world_after old (turn_of d old actor turn.positions))
  rested other = rested_by old (turn_of d old actor turn.positions) (λ moved. other (turn.says turn.positions ∙ moved))

  pub rests_still : answered ≢ turned.Moved → mid ≡ old
  rests_still other = turn.is ∙ (rested other).0

  pub step_rested : answered ≢ turned.Moved → StepOf d gives old actor mid
  unfolding step.stepped
  step_rested other = record {
    positions = turn.positions;
    fits = record { actor = there; positions = turn.given };
    is = rests_still other ∙ (rested other).1;
  }
