-- Each turn adds at most one answer, to the actor's first line that isn't answered, and counts a move where it moves.
use Rattle.std.proofs.Common.{◌≡◌, ℕ, ◌⊎◌, Bool, true, false, if◌then◌else◌, leb, List, [], ◌∷◌, ◌++◌, Option, Some, None, is_some, slice_get, refl, sym, ap, ◌∙◌, subst, inl, inr}
use Rattle.std.specs.Option.{option_map_or}
use Rattle.pl_base.specs.declared.actor.Actor.{Actor}
use Rattle.pl_base.specs.declared.actor.Actor.TheVariants as actor_is
use Rattle.pl_base.specs.declared.number.HartSet.{HartSet}
use Rattle.mem_slots.specs.declared.slot_use.SlotUse.{SlotUse}
use Rattle.mon_enclave.specs.Records.{enclave_at, send_refusal, take_refusal}
use Rattle.mon_fence.specs.declared.fences.Fence.{Fence}
use Rattle.mon_fence.specs.Fences.{fence_of}
use Rattle.pl_history.specs.declared.answer.Answer.{Answer}
use Rattle.pl_history.specs.declared.answer.Answer.TheVariants as answer_is
use Rattle.pl_history.specs.declared.line.AttackLine.{AttackLine}
use Rattle.pl_history.specs.declared.line.AttackLine.TheVariants as attack
use Rattle.pl_history.specs.declared.line.Line.{Line}
use Rattle.pl_history.specs.declared.line.Line.TheVariants as line_is
use Rattle.pl_history.specs.Attacking.{Placed, latest_kept}
use Rattle.world_attack.specs.Attacks.{Exposed, attacked_by, entry_of, exposed, wrote_at}
use Rattle.world_machine.specs.declared.turned.Turned.{Turned}
use Rattle.world_machine.specs.declared.turned.Turned.TheVariants as turned
use Rattle.world_machine.specs.declared.turned.Wait.TheVariants as wait
use Rattle.world_machine.specs.declared.under.Under.{Under}
use Rattle.world_machine.specs.declared.under.Under.TheVariants.{Idle, Seeking, Removing, Destroying, Putting, Running, Breaking}
use Rattle.world_machine.specs.Acknowledging.{acknowledged, owed}
use Rattle.world_machine.specs.Adding.{AddsAtMostOne, AnswersAtMostOne, actor_number, moves_after}
use Rattle.world_machine.specs.Answering.{answers}
use Rattle.world_machine.specs.Attacking.{attacks}
use Rattle.world_machine.specs.GivingBack.{ends_destroy}
use Rattle.world_machine.specs.HostAccessing.{loads, stores}
use Rattle.world_machine.specs.HostMapping.{ends_unmap, lacked_by}
use Rattle.world_machine.specs.Running.{restarts}
use Rattle.world_machine.specs.Steps.{Step, StepOf, Turn, ack_turn, actor_turn, attacker_turn, due, hart_turn, moves, rests, stepped, turn_of, turned_by, waiting_turn, world_after}
use Rattle.world_machine.specs.Worlds.{Event, WorldData, answered_at, attacker_line, hart_line, under_at}
use Rattle.world_machine.proofs.HartAnswers.{Adds, access_adds, acknowledged_adds, answer_adds, begin_adds, begins_access_adds, begins_destroy_adds, begins_unmap_adds, changes_adds, create_adds, drop_adds, fork_adds, grant_adds, maps_adds, put_adds, restart_adds, run_adds}

-- what a turn adds before a move is counted, where it moves
abbrev TurnAdds : WorldData → ℕ → Turn → Type 0
TurnAdds w actor (moves event) = Adds w actor event.world
TurnAdds w actor (rests why) = moves_after why w.moves ≡ w.moves

waits_adds : (w : WorldData) (hart : ℕ) (b : Bool) (actor count : ℕ) (done : Event) → Adds w hart done.world
    → TurnAdds w hart (if b then moves done else rests (turned.Blocked (wait.After actor count)))
waits_adds w hart true actor count done adds = adds
waits_adds w hart false actor count done adds = refl

ends_adds : (w : WorldData) (hart : ℕ) (ended : WorldData) (o : Option HartSet) → Adds w hart ended → TurnAdds w hart (waiting_turn ended o)
ends_adds w hart ended None adds = adds
ends_adds w hart ended (Some harts) adds = refl

module _ (digest_of : List ℕ → List ℕ) (w : WorldData) where
  ack_adds : (hart : ℕ) (o : Option ℕ) → TurnAdds w hart (ack_turn w hart o)
  ack_adds hart None = refl
  ack_adds hart (Some requester) = acknowledged_adds digest_of w hart requester (fence_of w.fences requester)

  -- one clause a row
  due_adds : (hart : ℕ) (positions : List ℕ) (line : Line) (under : Under) → TurnAdds w hart (due digest_of w hart positions line under)
  due_adds hart positions (line_is.Load va) Idle = begins_access_adds digest_of w hart va loads positions
  due_adds hart positions (line_is.Load va) (Seeking walk) = access_adds digest_of w hart va loads positions walk
  due_adds hart positions (line_is.Store va word) Idle = begins_access_adds digest_of w hart va (stores word) positions
  due_adds hart positions (line_is.Store va word) (Seeking walk) = access_adds digest_of w hart va (stores word) positions walk
  due_adds hart positions (line_is.Map va page perms) Idle = maps_adds digest_of w hart positions va page perms
  due_adds hart positions (line_is.Unmap va) Idle = begins_unmap_adds digest_of w hart positions va
  due_adds hart positions (line_is.Unmap va) (Removing page) =
      ends_adds w hart (ends_unmap w hart page) (lacked_by w hart) (answer_adds digest_of w hart answer_is.Ok (ends_unmap w hart page) refl refl)
  due_adds hart positions (line_is.Destroy e) Idle = begins_destroy_adds digest_of w hart e
  due_adds hart positions (line_is.Destroy e) Destroying =
      ends_adds w hart (ends_destroy w hart e) (lacked_by w hart) (answer_adds digest_of w hart answer_is.Ok (ends_destroy w hart e) refl refl)
  due_adds hart positions (line_is.Drop shadow) Idle = drop_adds digest_of w hart shadow.0
  due_adds hart positions (line_is.Create e image pages) Idle = create_adds digest_of w hart e.0 image pages false
  due_adds hart positions (line_is.Create e image pages) (Putting done) = put_adds digest_of w hart positions e.0 image false done
  due_adds hart positions (line_is.Shadow e image pages) Idle = create_adds digest_of w hart e.0 image pages true
  due_adds hart positions (line_is.Shadow e image pages) (Putting done) = put_adds digest_of w hart positions e.0 image true done
  due_adds hart positions (line_is.Fork shadow e pages) Idle = fork_adds digest_of w hart shadow e.0 pages
  due_adds hart positions (line_is.Fork shadow e pages) (Putting done) = put_adds digest_of w hart positions e.0 (enclave_at w.enclaves e.0).image false done
  due_adds hart positions (line_is.Grant e page) Idle = grant_adds digest_of w hart e.0 page
  due_adds hart positions (line_is.Run e budget) Idle = begin_adds digest_of w hart e.0 true
  due_adds hart positions (line_is.Run e budget) (Running micro count) = run_adds digest_of w hart e.0 budget count (enclave_at w.enclaves e.0) positions micro
  due_adds hart positions (line_is.Run e budget) (Breaking count index) = ends_adds w hart (restarts w hart count) (lacked_by w hart) (restart_adds digest_of w hart count)
  due_adds hart positions (line_is.Resume e budget) Idle = begin_adds digest_of w hart e.0 false
  due_adds hart positions (line_is.Resume e budget) (Running micro count) = run_adds digest_of w hart e.0 budget count (enclave_at w.enclaves e.0) positions micro
  due_adds hart positions (line_is.Resume e budget) (Breaking count index) = ends_adds w hart (restarts w hart count) (lacked_by w hart) (restart_adds digest_of w hart count)
  due_adds hart positions (line_is.Send e word) Idle = changes_adds digest_of w hart (send_refusal (enclave_at w.enclaves e.0)) e.0 _ answer_is.Ok
  due_adds hart positions (line_is.Take e) Idle = changes_adds digest_of w hart (take_refusal (enclave_at w.enclaves e.0)) e.0 _ _
  due_adds hart positions (line_is.After actor count) Idle =
      waits_adds w hart (leb count (answered_at w.answered actor)) actor count _ (answer_adds digest_of w hart answer_is.Ok (answers w hart answer_is.Ok) refl refl)
  due_adds hart positions line under = refl

  hart_adds : (hart : ℕ) (positions : List ℕ) (line : Option Line) → TurnAdds w hart (hart_turn digest_of w hart positions line)
  hart_adds hart positions None = refl
  hart_adds hart positions (Some line) = due_adds hart positions line (under_at w.under hart)

  -- ---- the attacker

  abbrev at : ℕ
  at = answered_at w.answered w.setup.harts

  abbrev AttackAdds : Exposed → Type 0
  AttackAdds x = (x.history.entries ≡ w.history.entries) ⊎ ((now : Answer) × (x.history.entries ≡ w.history.entries ++ entry_of w.setup at now ∷ []))

  by_back : (o : Option Placed) → AttackAdds (option_map_or (wrote_at w.setup at (exposed w.history w.ctl.off_chip)) o (exposed w.history w.ctl.off_chip))
  by_back None = inl refl
  by_back (Some what) = inr (_, refl)

  by_line : (line : AttackLine) → AttackAdds (attacked_by w.setup at (exposed w.history w.ctl.off_chip) line)
  by_line (attack.Write pa bytes) = inr (_, refl)
  by_line (attack.Keep name pa len) = inr (_, refl)
  by_line (attack.Back name) = by_back (latest_kept w.setup w.history.bytes name w.history.entries)
  by_line (attack.After actor count) = inl refl

  by_lines : (o : Option AttackLine) → AttackAdds (option_map_or (attacked_by w.setup at (exposed w.history w.ctl.off_chip)) o (exposed w.history w.ctl.off_chip))
  by_lines None = inl refl
  by_lines (Some line) = by_line line

  attacks_add : Adds w w.setup.harts (attacks w).world
  attacks_add = record { entries = by_lines (slice_get w.setup.attacker at); moves = refl }

  attacker_adds : (line : Option AttackLine) → TurnAdds w w.setup.harts (attacker_turn digest_of w line)
  attacker_adds None = refl
  attacker_adds (Some (attack.After actor count)) =
      waits_adds w w.setup.harts (leb count (answered_at w.answered actor)) actor count _ (answer_adds digest_of w w.setup.harts answer_is.Ok _ refl refl)
  attacker_adds (Some (attack.Write pa bytes)) = attacks_add
  attacker_adds (Some (attack.Keep name pa len)) = attacks_add
  attacker_adds (Some (attack.Back name)) = attacks_add

  actor_adds : (actor : Actor) (positions : List ℕ) → TurnAdds w (actor_number w.setup.harts actor) (actor_turn digest_of w actor positions)
  actor_adds (actor_is.Hart h) positions = hart_adds h.0 positions (hart_line w h.0)
  actor_adds (actor_is.Ack h) positions = ack_adds h.0 (owed w.fences h.0)
  actor_adds actor_is.Attacker positions = attacker_adds (attacker_line w)

  halted_adds : (b : Bool) (actor : Actor) (positions : List ℕ)
      → TurnAdds w (actor_number w.setup.harts actor) (if b then rests turned.Halted else actor_turn digest_of w actor positions)
  halted_adds true actor positions = refl
  halted_adds false actor positions = actor_adds actor positions

after_adds : (w : WorldData) (actor : ℕ) (turn : Turn) → TurnAdds w actor turn → AddsAtMostOne w actor (world_after w turn)
after_adds w actor (moves event) adds = adds.entries
after_adds w actor (rests why) adds = inl refl

after_counts : (w : WorldData) (actor : ℕ) (turn : Turn) → TurnAdds w actor turn → (world_after w turn).moves ≡ moves_after (turned_by turn) w.moves
after_counts w actor (moves event) adds = ap (moves_after turned.Moved) adds.moves
after_counts w actor (rests why) adds = sym adds

-- an acknowledgement leaves the history
ack_leaves : (w : WorldData) (hart : ℕ) (o : Option ℕ) → (world_after w (ack_turn w hart o)).history.entries ≡ w.history.entries
ack_leaves w hart None = refl
ack_leaves w hart (Some requester) = by_fence (fence_of w.fences requester)
  where
    by_fence : (fence : Option Fence) → (acknowledged w hart requester fence).history.entries ≡ w.history.entries
    by_fence None = refl
    by_fence (Some fence) = refl

answers_by : (digest_of : List ℕ → List ℕ) (w : WorldData) (actor : Actor) (positions : List ℕ) (b : Bool)
    → AnswersAtMostOne w actor (world_after w (if b then rests turned.Halted else actor_turn digest_of w actor positions))
answers_by digest_of w (actor_is.Hart h) positions b = after_adds w h.0 _ (halted_adds digest_of w b (actor_is.Hart h) positions)
answers_by digest_of w (actor_is.Ack h) positions true = refl
answers_by digest_of w (actor_is.Ack h) positions false = ack_leaves w h.0 (owed w.fences h.0)
answers_by digest_of w actor_is.Attacker positions b = after_adds w w.setup.harts _ (halted_adds digest_of w b actor_is.Attacker positions)

pub one_answer : (digest_of : List ℕ → List ℕ) (w : WorldData) (step : Step) → AnswersAtMostOne w step.actor (stepped digest_of w step)
unfolding stepped turn_of
one_answer digest_of w step = answers_by digest_of w step.actor step.positions (is_some w.collision)

pub one_move : (digest_of : List ℕ → List ℕ) (w : WorldData) (step : Step)
    → (stepped digest_of w step).moves ≡ moves_after (turned_by (turn_of digest_of w step.actor step.positions)) w.moves
unfolding stepped turn_of
one_move digest_of w step = after_counts w _ _ (halted_adds digest_of w (is_some w.collision) step.actor step.positions)

-- of a step whose positions are the answers of a rule
module _ (digest_of : List ℕ → List ℕ) (gives : List SlotUse → ℕ → Type 0) (w : WorldData) (actor : Actor) (new : WorldData) (s : StepOf digest_of gives w actor new) where
  pub step_answers : AnswersAtMostOne w actor new
  step_answers = subst (AnswersAtMostOne w actor) (sym s.is) (one_answer digest_of w (record { actor = actor; positions = s.positions }))

  pub step_counts : (answer : Turned) → ((positions : List ℕ) → answer ≡ turned_by (turn_of digest_of w actor positions)) → new.moves ≡ moves_after answer w.moves
  step_counts answer is = ap (λ (v : WorldData). v.moves) s.is ∙ one_move digest_of w (record { actor = actor; positions = s.positions }) ∙ ap (λ t. moves_after t w.moves) (sym (is s.positions))
