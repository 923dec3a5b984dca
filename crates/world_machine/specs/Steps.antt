-- What each actor does next, and the worlds that follow.
use Rattle.std.specs.Prelude.{◌≡◌, ℕ, ◌+◌, ◌-◌, ◌^◌, nat_le, true, false, if◌then◌else◌, is_some, IsTrue, List, [], ◌∷◌, min, Option, Some, None}
use Rattle.pl_base.specs.declared.actor.Actor.{Actor}
use Rattle.pl_base.specs.declared.actor.Actor.TheVariants as actor_is
use Rattle.pl_base.specs.declared.number.HartSet.{HartSet}
use Rattle.mem_slots.specs.declared.slot_use.SlotUse.{SlotUse}
use Rattle.mem_ctl.specs.Results.{AreGiven}
use Rattle.mon_enclave.specs.Records.{enclave_at}
use Rattle.mon_fence.specs.Fences.{fence_of}
use Rattle.pl_history.specs.declared.answer.Answer.TheVariants as answer_is
use Rattle.pl_history.specs.declared.line.AttackLine.{AttackLine}
use Rattle.pl_history.specs.declared.line.AttackLine.TheVariants as attack
use Rattle.pl_history.specs.declared.line.Line.{Line}
use Rattle.pl_history.specs.declared.line.Line.TheVariants.{Load, Store, Map, Unmap, Create, Shadow, Fork, Grant, Run, Resume, Send, Take, Destroy, Drop, After}
use Rattle.pl_history.specs.Rules.{is_actor}
use Rattle.world_machine.specs.declared.turned.Turned.{Turned}
use Rattle.world_machine.specs.declared.turned.Turned.TheVariants as turned
use Rattle.world_machine.specs.declared.turned.Wait.TheVariants as wait
use Rattle.world_machine.specs.declared.under.Under.{Under}
use Rattle.world_machine.specs.declared.under.Under.TheVariants.{Idle, Seeking, Removing, Destroying, Putting, Running, Breaking}
use Rattle.world_machine.specs.Acknowledging.{acknowledged, owed}
use Rattle.world_machine.specs.Answering.{answers, quiet}
use Rattle.world_machine.specs.Attacking.{attacker_waited, attacks}
use Rattle.world_machine.specs.GivingBack.{begins_destroy, drops_shadow, ends_destroy}
use Rattle.world_machine.specs.HostAccessing.{accesses_host, begins_access, loads, stores}
use Rattle.world_machine.specs.HostMapping.{begins_unmap, ends_unmap, lacked_by, maps}
use Rattle.world_machine.specs.Making.{begin_create, begin_fork, grants_page, put_next}
use Rattle.world_machine.specs.Running.{begin_run, restarts, runs}
use Rattle.world_machine.specs.Talking.{sends_word, takes_word}
use Rattle.world_machine.specs.Worlds.{Event, WorldData, answered_at, attacker_line, hart_line, under_at}

-- what an actor's turn is: its next event, or why it makes none
pub data Turn : Type 0 where
  moves : Event → Turn
  rests : Turned → Turn

-- an `after` is done once that actor has answered so many lines
abbrev pub waits : WorldData → ℕ → ℕ → Event → Turn
waits w actor count done = if nat_le count (answered_at w.answered actor) then moves done else rests (turned.Blocked (wait.After actor count))

-- a line that posted a fence ends, in this world, once no hart's acknowledgement is lacking
abbrev pub waiting_turn : WorldData → Option HartSet → Turn
waiting_turn ended None = moves (quiet ended)
waiting_turn ended (Some harts) = rests (turned.Blocked (wait.Acks harts))

-- this hart acknowledges the fence of the lowest requester that needs it
abbrev pub ack_turn : WorldData → ℕ → Option ℕ → Turn
ack_turn w hart None = rests turned.Nothing
ack_turn w hart (Some requester) = moves (quiet (acknowledged w hart requester (fence_of w.fences requester)))

module _ (digest_of : List ℕ → List ℕ) where
  -- the event that is due for a hart with this line under way, a row for each line and how far it is. No line comes otherwise.
  abbrev pub due : WorldData → ℕ → List ℕ → Line → Under → Turn
  due w hart positions (Load va) Idle = moves (begins_access digest_of w hart positions va loads)
  due w hart positions (Load va) (Seeking walk) = moves (accesses_host digest_of w hart positions va loads walk)
  due w hart positions (Store va word) Idle = moves (begins_access digest_of w hart positions va (stores word))
  due w hart positions (Store va word) (Seeking walk) = moves (accesses_host digest_of w hart positions va (stores word) walk)
  due w hart positions (Map va page perms) Idle = moves (maps digest_of w hart positions va page perms)
  due w hart positions (Unmap va) Idle = moves (begins_unmap digest_of w hart positions va)
  due w hart positions (Unmap va) (Removing page) = waiting_turn (ends_unmap w hart page) (lacked_by w hart)
  due w hart positions (Destroy e) Idle = moves (begins_destroy w hart e)
  due w hart positions (Destroy e) Destroying = waiting_turn (ends_destroy w hart e) (lacked_by w hart)
  due w hart positions (Drop shadow) Idle = moves (drops_shadow w hart shadow.0)
  due w hart positions (Create e image pages) Idle = moves (begin_create w hart e.0 image pages false)
  due w hart positions (Create e image pages) (Putting done) = moves (put_next digest_of w hart positions e.0 image false done)
  due w hart positions (Shadow e image pages) Idle = moves (begin_create w hart e.0 image pages true)
  due w hart positions (Shadow e image pages) (Putting done) = moves (put_next digest_of w hart positions e.0 image true done)
  due w hart positions (Fork shadow e pages) Idle = moves (begin_fork w hart shadow e.0 pages)
  due w hart positions (Fork shadow e pages) (Putting done) = moves (put_next digest_of w hart positions e.0 (enclave_at w.enclaves e.0).image false done)
  due w hart positions (Grant e page) Idle = moves (grants_page w hart e.0 page)
  due w hart positions (Run e budget) Idle = moves (begin_run w hart e.0 true)
  due w hart positions (Run e budget) (Running micro count) = moves (runs digest_of w hart positions e.0 budget micro count)
  due w hart positions (Run e budget) (Breaking count index) = waiting_turn (restarts w hart count) (lacked_by w hart)
  due w hart positions (Resume e budget) Idle = moves (begin_run w hart e.0 false)
  due w hart positions (Resume e budget) (Running micro count) = moves (runs digest_of w hart positions e.0 budget micro count)
  due w hart positions (Resume e budget) (Breaking count index) = waiting_turn (restarts w hart count) (lacked_by w hart)
  due w hart positions (Send e word) Idle = moves (sends_word w hart e.0 word)
  due w hart positions (Take e) Idle = moves (takes_word w hart e.0)
  due w hart positions (After actor count) Idle = waits w actor count (quiet (answers w hart answer_is.Ok))
  due w hart positions line under = rests turned.Done

  abbrev pub hart_turn : WorldData → ℕ → List ℕ → Option Line → Turn
  hart_turn w hart positions None = rests turned.Done
  hart_turn w hart positions (Some line) = due w hart positions line (under_at w.under hart)

  abbrev pub attacker_turn : WorldData → Option AttackLine → Turn
  attacker_turn w None = rests turned.Done
  attacker_turn w (Some (attack.After actor count)) = waits w actor count (attacker_waited w)
  attacker_turn w (Some line) = moves (attacks w)

  abbrev pub actor_turn : WorldData → Actor → List ℕ → Turn
  actor_turn w (actor_is.Hart h) positions = hart_turn w h.0 positions (hart_line w h.0)
  actor_turn w (actor_is.Ack h) positions = ack_turn w h.0 (owed w.fences h.0)
  actor_turn w actor_is.Attacker positions = attacker_turn w (attacker_line w)

  -- once a collision is kept, nobody moves
  unfoldable pub turn_of : WorldData → Actor → List ℕ → Turn
  turn_of w actor positions = if is_some w.collision then rests turned.Halted else actor_turn w actor positions

-- what a turn answers
abbrev pub turned_by : Turn → Turned
turned_by (moves event) = turned.Moved
turned_by (rests why) = why

abbrev pub shown_by : Turn → List (List SlotUse)
shown_by (moves event) = event.shown
shown_by (rests why) = []

-- a move is counted, up to the greatest count
abbrev pub counted : WorldData → WorldData
counted w = record w { moves = min (w.moves + 1) (2 ^ 64 - 1) }

-- the world after a turn; an actor that makes no event leaves it as it is
abbrev pub world_after : WorldData → Turn → WorldData
world_after w (moves event) = counted event.world
world_after w (rests why) = w

-- ---- steps and replays

-- an actor, and the positions that the evictions of its event take
pub record Step : Type 0 where
  pub actor : Actor
  pub positions : List ℕ

-- any answer of a rule that names the slot to evict
abbrev pub AnyAnswer : List SlotUse → ℕ → Type 0
AnyAnswer slots position = Unit {0}

module _ (digest_of : List ℕ → List ℕ) where
  unfoldable pub stepped : WorldData → Step → WorldData
  stepped w step = world_after w (turn_of digest_of w step.actor step.positions)

  -- the actor is there, and there is a position for each eviction that is tried, which is one in the list of slots as it stands then
  pub record Fits (gives : List SlotUse → ℕ → Type 0) (w : WorldData) (step : Step) : Type 0 where
    pub actor : IsTrue (is_actor w.setup.harts step.actor)
    pub positions : AreGiven gives (shown_by (turn_of digest_of w step.actor step.positions)) step.positions

  abbrev pub replay_from : WorldData → List Step → WorldData
  replay_from w [] = w
  replay_from w (step ∷ steps) = replay_from (stepped w step) steps

  abbrev pub AllFit : WorldData → List Step → Type 0
  AllFit w [] = Unit {0}
  AllFit w (step ∷ steps) = Fits AnyAnswer w step × AllFit (stepped w step) steps

  -- a world follows another by a step of this actor, whose positions are the rule's answers
  pub record StepOf (gives : List SlotUse → ℕ → Type 0) (old : WorldData) (actor : Actor) (new : WorldData) : Type 0 where
    pub positions : List ℕ
    pub fits : Fits gives old (record { actor = actor; positions = positions })
    pub is : new ≡ stepped old (record { actor = actor; positions = positions })

  -- steps of these actors, in order
  abbrev pub Ran : (List SlotUse → ℕ → Type 0) → WorldData → List Actor → WorldData → Type 0
  Ran gives old [] new = new ≡ old
  Ran gives old (actor ∷ actors) new = (mid : WorldData) × StepOf gives old actor mid × Ran gives mid actors new
