-- A round of a run that isn't over moves some actor: whole rounds come to an end.
use Rattle.std.proofs.Common.{◌≡◌, ℕ, ◌<◌, ◌≤◌, leb, Bool, true, false, if◌then◌else◌, List, [], ◌∷◌, ◌++◌, length, get_or, Option, Some, None, is_some, refl, sym, ap, ◌∙◌, subst, arith, inl, inr}
use Rattle.std.specs.Prelude.{◌⊎◌, Contains}
use Rattle.std.specs.List.{All}
use Rattle.std.proofs.lemmas.Bool.{false≢true}
use Rattle.std.proofs.lemmas.List.Elements.{All-cons, All-contains, All-nil, Contains-append_left, Contains-append_right}
use Rattle.std.proofs.lemmas.List.FromFn.{get_or-map-range_with_len, length-map-range_with_len}
use Rattle.std.proofs.lemmas.List.Sums.{list_all-from_AllPass}
use Rattle.pl_base.specs.declared.actor.Actor.{Actor}
use Rattle.pl_base.specs.declared.actor.Actor.TheVariants as actor_is
use Rattle.pl_base.specs.declared.number.HartSet.{HartSet}
use Rattle.mem_slots.specs.declared.slot_use.SlotUse.{SlotUse}
use Rattle.pl_history.specs.declared.line.AttackLine.{AttackLine}
use Rattle.pl_history.specs.declared.line.AttackLine.TheVariants as attack
use Rattle.pl_history.specs.declared.line.Line.{Line}
use Rattle.pl_history.specs.declared.line.Line.TheVariants.{Load, Store, Map, Unmap, Create, Shadow, Fork, Grant, Run, Resume, Send, Take, Destroy, Drop, After}
use Rattle.world_machine.specs.declared.turned.Finished.{Finished}
use Rattle.world_machine.specs.declared.turned.Finished.TheVariants as finished
use Rattle.world_machine.specs.declared.turned.Turned.{Turned}
use Rattle.world_machine.specs.declared.turned.Turned.TheVariants as turned
use Rattle.world_machine.specs.declared.turned.Wait.TheVariants as wait
use Rattle.world_machine.specs.declared.under.Under.{Under}
use Rattle.world_machine.specs.declared.under.Under.TheVariants.{Idle, Seeking, Removing, Destroying, Putting, Running, Breaking}
use Rattle.world_machine.specs.Acknowledging.{owed}
use Rattle.world_machine.specs.GivingBack.{ends_destroy}
use Rattle.world_machine.specs.HostMapping.{ends_unmap, lacked_by}
use Rattle.world_machine.specs.Reached.{Reached}
use Rattle.world_machine.specs.Running.{restarts}
use Rattle.world_machine.specs.Runs.{acknowledgements, all_answered, hart_turns, is_still, nobody_moves, over_of, remaining, round_of}
use Rattle.world_machine.specs.Standing.{Kept}
use Rattle.world_machine.specs.Steps.{Ran, Step, StepOf, Turn, ack_turn, actor_turn, attacker_turn, due, hart_turn, moves, rests, stepped, turn_of, turned_by, waiting_turn, world_after}
use Rattle.world_machine.specs.Worlds.{CollisionData, Event, WorldData, answered_at, attacker_line, hart_line, under_at}
use Rattle.world_machine.proofs.Kept.{reached_kept}
use Rattle.world_machine.proofs.LessTurns.{steps_lessen}
use Rattle.world_machine.proofs.NobodyOwed.{nobody_lacking}
use Rattle.world_machine.proofs.Stepping.{reached_step}

-- where nobody is waited for, an actor that makes no event on some positions is still
abbrev StillUnlessMoves : Turn → Turn → Type 0
StillUnlessMoves (moves event) turn = Unit {0}
StillUnlessMoves (rests why) turn = is_still (turned_by turn) ≡ true

waiting : (actor count : ℕ) (done : Event) (b : Bool)
    → StillUnlessMoves (if b then moves done else rests (turned.Blocked (wait.After actor count))) (if b then moves done else rests (turned.Blocked (wait.After actor count)))
waiting actor count done true = tt
waiting actor count done false = refl

-- an actor made no event
record Rested (digest_of : List ℕ → List ℕ) (w : WorldData) (actor : Actor) : Type 0 where
  positions : List ℕ
  why : Turned
  is : actor_turn digest_of w actor positions ≡ rests why

ending : (ended : WorldData) (o : Option HartSet) → o ≡ None → StillUnlessMoves (waiting_turn ended o) (waiting_turn ended o)
ending ended None none = tt
ending ended (Some harts) none = cc

acknowledging : (w : WorldData) (hart : ℕ) (o : Option ℕ) → StillUnlessMoves (ack_turn w hart o) (ack_turn w hart o)
acknowledging w hart None = refl
acknowledging w hart (Some requester) = tt

none_owed : (w : WorldData) (hart : ℕ) (o : Option ℕ) (why : Turned) → ack_turn w hart o ≡ rests why → o ≡ None
none_owed w hart None why is = refl
none_owed w hart (Some requester) why is = cc

module _ (digest_of : List ℕ → List ℕ) (w : WorldData) (nobody : (hart : ℕ) → lacked_by w hart ≡ None) where
  due_still : (hart : ℕ) (positions : List ℕ) (line : Line) (under : Under) → StillUnlessMoves (due digest_of w hart positions line under) (due digest_of w hart [] line under)
  due_still hart positions (Load va) Idle = tt
  due_still hart positions (Load va) (Seeking walk) = tt
  due_still hart positions (Store va word) Idle = tt
  due_still hart positions (Store va word) (Seeking walk) = tt
  due_still hart positions (Map va page perms) Idle = tt
  due_still hart positions (Unmap va) Idle = tt
  due_still hart positions (Unmap va) (Removing page) = ending (ends_unmap w hart page) (lacked_by w hart) (nobody hart)
  due_still hart positions (Destroy e) Idle = tt
  due_still hart positions (Destroy e) Destroying = ending (ends_destroy w hart e) (lacked_by w hart) (nobody hart)
  due_still hart positions (Drop shadow) Idle = tt
  due_still hart positions (Create e image pages) Idle = tt
  due_still hart positions (Create e image pages) (Putting done) = tt
  due_still hart positions (Shadow e image pages) Idle = tt
  due_still hart positions (Shadow e image pages) (Putting done) = tt
  due_still hart positions (Fork shadow e pages) Idle = tt
  due_still hart positions (Fork shadow e pages) (Putting done) = tt
  due_still hart positions (Grant e page) Idle = tt
  due_still hart positions (Run e budget) Idle = tt
  due_still hart positions (Run e budget) (Running micro count) = tt
  due_still hart positions (Run e budget) (Breaking count index) = ending (restarts w hart count) (lacked_by w hart) (nobody hart)
  due_still hart positions (Resume e budget) Idle = tt
  due_still hart positions (Resume e budget) (Running micro count) = tt
  due_still hart positions (Resume e budget) (Breaking count index) = ending (restarts w hart count) (lacked_by w hart) (nobody hart)
  due_still hart positions (Send e word) Idle = tt
  due_still hart positions (Take e) Idle = tt
  due_still hart positions (After actor count) Idle = waiting actor count _ (leb count (answered_at w.answered actor))
  due_still hart positions line under = refl

  hart_still : (hart : ℕ) (positions : List ℕ) (line : Option Line) → StillUnlessMoves (hart_turn digest_of w hart positions line) (hart_turn digest_of w hart [] line)
  hart_still hart positions None = refl
  hart_still hart positions (Some line) = due_still hart positions line (under_at w.under hart)

  attacker_still : (line : Option AttackLine) → StillUnlessMoves (attacker_turn digest_of w line) (attacker_turn digest_of w line)
  attacker_still None = refl
  attacker_still (Some (attack.After actor count)) = waiting actor count _ (leb count (answered_at w.answered actor))
  attacker_still (Some (attack.Write pa bytes)) = tt
  attacker_still (Some (attack.Keep name pa len)) = tt
  attacker_still (Some (attack.Back name)) = tt

  actor_still : (actor : Actor) (positions : List ℕ) → StillUnlessMoves (actor_turn digest_of w actor positions) (actor_turn digest_of w actor [])
  actor_still (actor_is.Hart h) positions = hart_still h.0 positions (hart_line w h.0)
  actor_still (actor_is.Ack h) positions = acknowledging w h.0 (owed w.fences h.0)
  actor_still actor_is.Attacker positions = attacker_still (attacker_line w)

  rested_still : (actor : Actor) → Rested digest_of w actor → is_still (turned_by (actor_turn digest_of w actor [])) ≡ true
  rested_still actor r = subst (λ turn. StillUnlessMoves turn (actor_turn digest_of w actor [])) r.is (actor_still actor r.positions)

turn_is : (digest_of : List ℕ → List ℕ) (w : WorldData) (positions : List ℕ) (actor : Actor) → w.collision ≡ None → turn_of digest_of w actor positions ≡ actor_turn digest_of w actor positions
unfolding turn_of
turn_is digest_of w positions actor none = ap (λ o. if is_some o then rests turned.Halted else actor_turn digest_of w actor positions) none

-- less is left, or nothing was done
moved_or : (w : WorldData) (turn : Turn) → (turned_by turn ≡ turned.Moved → remaining (world_after w turn) < remaining w)
    → (remaining (world_after w turn) < remaining w) ⊎ ((world_after w turn ≡ w) × ((why : Turned) × (turn ≡ rests why)))
moved_or w (moves event) less = inl (less refl)
moved_or w (rests why) less = inr (refl, (why, refl))

-- ---- a round in which nobody moved

-- where every acknowledgement rests, nobody is waited for, and every actor that rests is still
module _ (digest_of : List ℕ → List ℕ) (w : WorldData) (k : Kept digest_of w) (rested : All (Rested digest_of w) (round_of w.setup)) where
  ack_there : (hart : ℕ) → hart < w.setup.harts → Contains (round_of w.setup) (actor_is.Ack (record { 0 = hart }))
  ack_there hart below =
      Contains-append_right (hart_turns w.setup.harts) (acknowledgements w.setup.harts ++ actor_is.Attacker ∷ []) _
      (Contains-append_left (acknowledgements w.setup.harts) (actor_is.Attacker ∷ []) _ (
        hart,
        subst (λ n. hart < n) (sym (length-map-range_with_len (λ h. actor_is.Ack (record { 0 = h })) 0 w.setup.harts)) below,
        get_or-map-range_with_len (λ h. actor_is.Ack (record { 0 = h })) 0 w.setup.harts hart hart (actor_is.Ack (record { 0 = hart })) below (omega arith),
      ))

  nobody_owed : (hart : ℕ) → hart < length w.fences → owed w.fences hart ≡ None
  nobody_owed hart below =
      let size : length w.fences ≡ w.setup.harts = k.stands.translations.fences_stand.size in
      let r : Rested digest_of w (actor_is.Ack (record { 0 = hart }))
      = All-contains (Rested digest_of w) (round_of w.setup) (actor_is.Ack (record { 0 = hart })) rested (ack_there hart (omega arith)) in
      none_owed w hart (owed w.fences hart) r.why r.is

  all_still : nobody_moves digest_of w ≡ true
  all_still = list_all-from_AllPass (λ actor. is_still (turned_by (actor_turn digest_of w actor []))) (round_of w.setup)
      (λ at actor below. rested_still digest_of w (nobody_lacking w.fences k.stands.translations.fences_stand.needs_others nobody_owed) (get_or (round_of w.setup) at actor) (rested at actor below))

module _ (digest_of : List ℕ → List ℕ) (law : (m : List ℕ) → length (digest_of m) ≡ 32) (gives : List SlotUse → ℕ → Type 0) where
  step_or : (w v : WorldData) (actor : Actor) → Reached digest_of w → w.collision ≡ None → StepOf digest_of gives w actor v → (remaining v < remaining w) ⊎ ((v ≡ w) × Rested digest_of w actor)
  unfolding stepped
  step_or w v actor reached none s =
      let step : Step = record { actor = actor; positions = s.positions } in
      let less : turned_by (turn_of digest_of w actor s.positions) ≡ turned.Moved → remaining (stepped digest_of w step) < remaining w
      = steps_lessen digest_of w step (reached_kept digest_of law w reached) s.fits.actor in
      elim (moved_or w (turn_of digest_of w actor s.positions) less) [
        | inl fewer ↦ inl (subst (λ (u : WorldData). remaining u < remaining w) (sym s.is) fewer)
        | inr same ↦ inr (s.is ∙ same.0, record { positions = s.positions; why = same.1.0; is = sym (turn_is digest_of w s.positions actor none) ∙ same.1.1 })
      ]

  -- a turn leaves no more
  no_more : (w v : WorldData) (actor : Actor) → Reached digest_of w → StepOf digest_of gives w actor v → remaining v ≤ remaining w
  unfolding stepped
  no_more w v actor reached s =
      let step : Step = record { actor = actor; positions = s.positions } in
      subst (λ (u : WorldData). remaining u ≤ remaining w) (sym s.is)
      (by_turn w (turn_of digest_of w actor s.positions) (steps_lessen digest_of w step (reached_kept digest_of law w reached) s.fits.actor))
    where
      by_turn : (w : WorldData) (turn : Turn) → (turned_by turn ≡ turned.Moved → remaining (world_after w turn) < remaining w) → remaining (world_after w turn) ≤ remaining w
      by_turn w (moves event) less = let l : remaining (world_after w (moves event)) < remaining w = less refl in omega arith
      by_turn w (rests why) less = omega arith

  ran_no_more : (w v : WorldData) (actors : List Actor) → Reached digest_of w → Ran digest_of gives w actors v → remaining v ≤ remaining w
  ran_no_more w v [] reached r = let same : remaining v ≡ remaining w = ap remaining r in omega arith
  ran_no_more w v (actor ∷ actors) reached r =
      let first : remaining r.0 ≤ remaining w = no_more w r.0 actor reached r.1 in
      let rest : remaining v ≤ remaining r.0 = ran_no_more r.0 v actors (reached_step digest_of gives w r.0 actor reached r.1) r.2 in
      omega arith

  ran_or : (w v : WorldData) (actors : List Actor) → Reached digest_of w → w.collision ≡ None → Ran digest_of gives w actors v → (remaining v < remaining w) ⊎ All (Rested digest_of w) actors
  ran_or w v [] reached none r = inr (All-nil (Rested digest_of w))
  ran_or w v (actor ∷ actors) reached none r = elim (step_or w r.0 actor reached none r.1) [
    | inl less ↦
        inl (let l : remaining r.0 < remaining w = less in
        let rest : remaining v ≤ remaining r.0 = ran_no_more r.0 v actors (reached_step digest_of gives w r.0 actor reached r.1) r.2 in omega arith)
    | inr same ↦ elim (ran_or w v actors reached none (subst (λ u. Ran digest_of gives u actors v) same.0 r.2)) [
      | inl less ↦ inl less
      | inr all ↦ inr (All-cons (Rested digest_of w) actor actors same.1 all)
    ]
  ]

  -- a run that isn't over
  no_collision : (w : WorldData) (o : Bool) (rest : Option Finished) → (if o then Some finished.Collision else rest) ≡ None → (o ≡ false) × (rest ≡ None)
  no_collision w true rest is = (cc, cc)
  no_collision w false rest is = (refl, is)

  none_kept : (o : Option CollisionData) → is_some o ≡ false → o ≡ None
  none_kept None is = refl
  none_kept (Some c) is = cc

  some_moves : (answered still : Bool) → (if answered then Some finished.Done else if still then Some finished.Stuck else None) ≡ None → still ≡ false
  some_moves true still is = cc
  some_moves false true is = cc
  some_moves false false is = refl

  pub rounds_lessen : (w v : WorldData) → Reached digest_of w → over_of digest_of w ≡ None → Ran digest_of gives w (round_of w.setup) v → remaining v < remaining w
  unfolding over_of
  rounds_lessen w v reached over r =
      let parts = no_collision w (is_some w.collision) (if all_answered w then Some finished.Done else if nobody_moves digest_of w then Some finished.Stuck else None) over in
      elim (ran_or w v (round_of w.setup) reached (none_kept w.collision parts.0) r) [
        | inl less ↦ less
        | inr all ↦ absurd (false≢true (sym (some_moves (all_answered w) (nobody_moves digest_of w) parts.1) ∙ all_still digest_of w (reached_kept digest_of law w reached) all))
      ]
