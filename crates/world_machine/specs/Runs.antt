-- Runs: whole rounds, how a run ends, and how many events are left.
use Rattle.std.specs.Prelude.{◌≡◌, ℕ, ◌+◌, ◌-◌, ◌*◌, ◌==◌, Bool, true, false, if◌then◌else◌, is_some, List, [], ◌∷◌, ◌++◌, length, map, drop, sum_by, count_by, zero, suc, Option, Some, None}
use Rattle.std.specs.List.{list_all, range_with_len}
use Rattle.pl_base.specs.declared.actor.Actor.{Actor}
use Rattle.pl_base.specs.declared.actor.Actor.TheVariants.{Hart, Ack, Attacker}
use Rattle.pl_base.specs.declared.page.TheConstants.{MOST_IMAGE_PAGES}
use Rattle.mem_slots.specs.declared.slot_use.SlotUse.{SlotUse}
use Rattle.mon_life.specs.Putting.{steps_of}
use Rattle.rv_hart.specs.declared.walks.Micro.{Micro}
use Rattle.rv_hart.specs.declared.walks.Micro.TheVariants.{Fetching, Reaching, Faulting}
use Rattle.rv_hart.specs.declared.walks.Walk.{Walk}
use Rattle.rv_hart.specs.declared.walks.Walk.TheVariants.{Start, Level, Found}
use Rattle.mon_enclave.specs.declared.enclave.Enclave.{Enclave}
use Rattle.mon_enclave.specs.Records.{is_shared}
use Rattle.mon_fence.specs.declared.fences.Fence.{Fence}
use Rattle.mon_fence.specs.Fences.{needs}
use Rattle.pl_history.specs.declared.line.Line.{Line}
use Rattle.pl_history.specs.declared.line.Line.TheVariants as line
use Rattle.pl_history.specs.declared.setup.SetupParts.{SetupParts}
use Rattle.pl_history.specs.Monitor.{line_count, script_of}
use Rattle.world_machine.specs.declared.turned.Finished.{Finished}
use Rattle.world_machine.specs.declared.turned.Finished.TheVariants as finished
use Rattle.world_machine.specs.declared.turned.Turned.{Turned}
use Rattle.world_machine.specs.declared.turned.Turned.TheVariants.{Moved, Blocked, Nothing, Done, Halted}
use Rattle.world_machine.specs.declared.turned.Wait.TheVariants.{Acks, After}
use Rattle.world_machine.specs.declared.under.Under.{Under}
use Rattle.world_machine.specs.declared.under.Under.TheVariants.{Idle, Seeking, Removing, Destroying, Putting, Running, Breaking}
use Rattle.world_machine.specs.Making.{image_of}
use Rattle.world_machine.specs.Steps.{Ran, actor_turn, turned_by}
use Rattle.world_machine.specs.Worlds.{WorldData, answered_at, hart_line, under_at}

-- ---- rounds

abbrev pub hart_turns : ℕ → List Actor
hart_turns harts = map (λ h. Hart (record { 0 = h })) (range_with_len 0 harts)

abbrev pub acknowledgements : ℕ → List Actor
acknowledgements harts = map (λ h. Ack (record { 0 = h })) (range_with_len 0 harts)

-- every hart, every acknowledgement, and then the attacker
abbrev pub round_of : SetupParts → List Actor
round_of setup = hart_turns setup.harts ++ (acknowledgements setup.harts ++ Attacker ∷ [])

abbrev pub rounds_of : SetupParts → ℕ → List Actor
rounds_of setup zero = []
rounds_of setup (suc n) = rounds_of setup n ++ round_of setup

-- ---- how a run ends

-- the lines of every actor are answered; the attacker is the actor after the last hart
abbrev pub all_answered : WorldData → Bool
all_answered w = list_all (λ actor. answered_at w.answered actor == line_count w.setup actor) (range_with_len 0 (w.setup.harts + 1))

-- an actor that has no event: its lines are answered, or it waits for another to answer some, or nothing is to be acknowledged. A hart that
-- waits for acknowledgements isn't still, since these can be made
abbrev pub is_still : Turned → Bool
is_still Moved = false
is_still (Blocked (Acks harts)) = false
is_still (Blocked (After actor count)) = true
is_still Nothing = true
is_still Done = true
is_still Halted = true

module _ (digest_of : List ℕ → List ℕ) where
  -- no actor has an event; whether one has doesn't hang on positions
  abbrev pub nobody_moves : WorldData → Bool
  nobody_moves w = list_all (λ actor. is_still (turned_by (actor_turn digest_of w actor []))) (round_of w.setup)

  -- a collision is kept, or all lines are answered, or each actor with lines left waits for another
  unfoldable pub over_of : WorldData → Option Finished
  over_of w =
      if is_some w.collision then Some finished.Collision
      else if all_answered w then Some finished.Done
      else if nobody_moves w then Some finished.Stuck
      else None

  -- whole rounds, after which the run is over
  pub record Finishes (gives : List SlotUse → ℕ → Type 0) (old new : WorldData) (end : Finished) : Type 0 where
    pub rounds : ℕ
    pub ran : Ran digest_of gives old (rounds_of old.setup rounds) new
    pub over : over_of new ≡ Some end

  -- the turns of the setup's order, and then whole rounds
  pub record Plays (gives : List SlotUse → ℕ → Type 0) (old new : WorldData) (end : Finished) : Type 0 where
    pub rounds : ℕ
    pub ran : Ran digest_of gives old (old.setup.order ++ rounds_of old.setup rounds) new
    pub over : over_of new ≡ Some end

-- ---- how many events are left

-- How many events a page that is broken adds at most: the break and the start anew, the events of the instruction that are made again, and those of
-- an acknowledgement for each hart.
abbrev pub break_cost : ℕ → ℕ
break_cost harts = 10 + 8 * harts

-- How many events a line takes at most. An access reads three words of tables and is then made; an instruction is fetched, and may have one
-- access to data. An acknowledgement counts eight: itself, and the seven events at most that are made again after it. A `fork` counts the breaks of
-- all pages that it may share.
abbrev pub cost_of : SetupParts → Line → ℕ
cost_of setup (line.Load va) = 4
cost_of setup (line.Store va word) = 4
cost_of setup (line.Unmap va) = 2 + 8 * setup.harts
cost_of setup (line.Destroy e) = 2 + 8 * setup.harts
cost_of setup (line.Create e image pages) = 1 + steps_of false (length (image_of setup image).pages)
cost_of setup (line.Shadow e image pages) = 1 + steps_of true (length (image_of setup image).pages)
cost_of setup (line.Fork shadow e pages) = 1 + steps_of false MOST_IMAGE_PAGES + MOST_IMAGE_PAGES * break_cost setup.harts
cost_of setup (line.Run e budget) = 1 + 8 * budget
cost_of setup (line.Resume e budget) = 1 + 8 * budget
cost_of setup other = 1

-- how many words of tables a walk has read at most
abbrev pub words_read : Walk → ℕ
words_read Start = 0
words_read (Level level table) = 2 - level
words_read (Found ppn perms) = 3

-- how many events of its eight an instruction has made at most; where no page serves an access, one is left
abbrev pub events_made : Micro → ℕ
events_made (Fetching walk) = words_read walk
events_made (Reaching word walk) = 4 + words_read walk
events_made (Faulting va kind) = 7

abbrev pub line_left : SetupParts → Option Line → Under → ℕ
line_left setup None under = 0
line_left setup (Some now) Idle = cost_of setup now
line_left setup (Some (line.Load va)) (Seeking walk) = 4 - words_read walk
line_left setup (Some (line.Store va word)) (Seeking walk) = 4 - words_read walk
line_left setup (Some (line.Unmap va)) (Removing page) = 1
line_left setup (Some (line.Destroy e)) Destroying = 1
line_left setup (Some (line.Create e image pages)) (Putting done) = steps_of false (length (image_of setup image).pages) - done
line_left setup (Some (line.Shadow e image pages)) (Putting done) = steps_of true (length (image_of setup image).pages) - done
line_left setup (Some (line.Fork shadow e pages)) (Putting done) = steps_of false MOST_IMAGE_PAGES - done
line_left setup (Some (line.Run e budget)) (Running micro count) = 8 * (budget - count) - events_made micro
line_left setup (Some (line.Run e budget)) (Breaking count index) = 1 + 8 * (budget - count)
line_left setup (Some (line.Resume e budget)) (Running micro count) = 8 * (budget - count) - events_made micro
line_left setup (Some (line.Resume e budget)) (Breaking count index) = 1 + 8 * (budget - count)
line_left setup (Some now) under = 0

abbrev pub hart_left : WorldData → ℕ → ℕ
hart_left w hart =
    line_left w.setup (hart_line w hart) (under_at w.under hart) + sum_by (cost_of w.setup) (drop (answered_at w.answered hart + 1) (script_of w.setup hart))

-- each acknowledgement that is lacking
abbrev pub fence_left : ℕ → Option Fence → ℕ
fence_left harts fence = 8 * count_by (needs fence) (range_with_len 0 harts)

abbrev pub fences_left : WorldData → ℕ
fences_left w = sum_by (fence_left w.setup.harts) w.fences

abbrev pub attacker_left : WorldData → ℕ
attacker_left w = length w.setup.attacker - answered_at w.answered w.setup.harts

-- each page that is shared may be broken
abbrev pub shared_count : Enclave → ℕ
shared_count r = count_by is_shared r.pages

abbrev pub breaks_left : WorldData → ℕ
breaks_left w = break_cost w.setup.harts * sum_by shared_count w.enclaves

-- none, once a collision is kept
unfoldable pub remaining : WorldData → ℕ
remaining w = if is_some w.collision then 0 else sum_by (hart_left w) (range_with_len 0 w.setup.harts) + fences_left w + attacker_left w + breaks_left w
