-- Each step keeps what a world keeps, and so do steps in turn.
use Rattle.std.proofs.Common.{◌≡◌, ℕ, ◌<◌, ◌≤◌, leb, Bool, true, false, if◌then◌else◌, List, [], ◌∷◌, length, Option, Some, None, is_some, refl, sym, ap, subst, arith}
use Rattle.std.specs.Prelude.{IsTrue}
use Rattle.std.proofs.lemmas.Bool.Decides.{nat_tests}
use Rattle.pl_base.specs.declared.actor.Actor.{Actor}
use Rattle.pl_base.specs.declared.actor.Actor.TheVariants as actor_is
use Rattle.pl_base.specs.declared.address.Va.{Va}
use Rattle.pl_base.specs.declared.number.EncNo.{EncNo}
use Rattle.pl_base.specs.declared.number.HartSet.{HartSet}
use Rattle.mem_ctl.specs.Laws.{CallsTell}
use Rattle.mem_ctl.proofs.TellLaws.{calls_tell}
use Rattle.mon_fence.proofs.Needs.{first_needs}
use Rattle.pl_history.specs.declared.answer.Answer.TheVariants as answer_is
use Rattle.pl_history.specs.declared.line.AttackLine.{AttackLine}
use Rattle.pl_history.specs.declared.line.AttackLine.TheVariants as attack
use Rattle.pl_history.specs.declared.line.Line.{Line}
use Rattle.pl_history.specs.declared.line.Line.TheVariants.{Load, Store, Map, Unmap, Create, Shadow, Fork, Grant, Run, Resume, Send, Take, Destroy, Drop, After}
use Rattle.pl_history.specs.Legal.{AllowedAnswer}
use Rattle.pl_history.specs.Monitor.{Progress}
use Rattle.pl_history.specs.Rules.{is_actor, names_known}
use Rattle.world_attack.proofs.RoomLemmas.{room_stays}
use Rattle.world_machine.specs.declared.under.Under.{Under}
use Rattle.world_machine.specs.declared.under.Under.TheVariants.{Idle, Seeking, Removing, Destroying, Putting, Running, Breaking}
use Rattle.world_machine.specs.Acknowledging.{owed}
use Rattle.world_machine.specs.Answering.{answers, quiet}
use Rattle.world_machine.specs.GivingBack.{ends_destroy}
use Rattle.world_machine.specs.HostAccessing.{loads, stores}
use Rattle.world_machine.specs.HostMapping.{ends_unmap, lacked_by}
use Rattle.world_machine.specs.RecordsAgree.{is_begun}
use Rattle.world_machine.specs.Running.{restarts}
use Rattle.world_machine.specs.Standing.{Kept, state_of}
use Rattle.world_machine.specs.Steps.{AllFit, AnyAnswer, Fits, Step, Turn, ack_turn, actor_turn, attacker_turn, counted, due, hart_turn, moves, replay_from, rests, stepped, turn_of, waiting_turn, world_after}
use Rattle.world_machine.specs.Worlds.{CollisionData, WorldData, answered_at, attacker_line, hart_line, under_at}
use Rattle.world_machine.proofs.AckRows.{acknowledged_kept}
use Rattle.world_machine.proofs.AttackRows.{attacker_waited_kept, attacks_kept}
use Rattle.world_machine.proofs.BeginRunRows.{begin_run_kept}
use Rattle.world_machine.proofs.CreateRows.{begin_create_kept}
use Rattle.world_machine.proofs.DestroyEnds.{ends_destroy_kept}
use Rattle.world_machine.proofs.DestroyRows.{begins_destroy_kept}
use Rattle.world_machine.proofs.DropRows.{drop_kept}
use Rattle.world_machine.proofs.ForkPuts.{put_table_kept}
use Rattle.world_machine.proofs.ForkRows.{begin_fork_kept}
use Rattle.world_machine.proofs.GrantRows.{grant_kept}
use Rattle.world_machine.proofs.HostAccessRows.{accesses_host_kept, begins_access_kept}
use Rattle.world_machine.proofs.MapRows.{maps_kept}
use Rattle.world_machine.proofs.MakeRows.{put_next_kept}
use Rattle.world_machine.proofs.QuietRows.{answers_kept}
use Rattle.world_machine.proofs.RestartRows.{restart_kept}
use Rattle.world_machine.proofs.RowKept.{beside_kept}
use Rattle.world_machine.proofs.RunEvents.{runs_kept}
use Rattle.world_machine.proofs.RunMoves.{run_line}
use Rattle.world_machine.proofs.SetupFacts.{line_names}
use Rattle.world_machine.proofs.LineTranslations.{isnt_waiting}
use Rattle.world_machine.proofs.UnmapEnds.{ends_unmap_kept}
use Rattle.world_machine.proofs.UnmapRows.{begins_unmap_kept}
use Rattle.world_machine.proofs.WordRows.{send_kept, take_kept}

-- counting a move changes no part
counted_kept : (digest_of : List ℕ → List ℕ) (w : WorldData) → Kept digest_of w → Kept digest_of (counted w)
counted_kept digest_of w k = beside_kept digest_of w w.collision (counted w).moves k k.collision

-- a turn that moves leaves a world that keeps all parts
abbrev KeptTurn : (List ℕ → List ℕ) → Turn → Type 0
KeptTurn digest_of (moves event) = Kept digest_of event.world
KeptTurn digest_of (rests why) = Unit {0}

waits_kept : (digest_of : List ℕ → List ℕ) (w : WorldData) (actor count : ℕ) (done : Rattle.world_machine.specs.Worlds.Event) (b : Bool)
    → leb count (answered_at w.answered actor) ≡ b → (count ≤ answered_at w.answered actor → Kept digest_of done.world)
    → KeptTurn digest_of (if b then moves done else rests (Rattle.world_machine.specs.declared.turned.Turned.TheVariants.Blocked (Rattle.world_machine.specs.declared.turned.Wait.TheVariants.After actor count)))
waits_kept digest_of w actor count done true is kept = kept (grind (arith, nat_tests))
waits_kept digest_of w actor count done false is kept = tt

module _ (digest_of : List ℕ → List ℕ) (law : (m : List ℕ) → length (digest_of m) ≡ 32) (w : WorldData) (k : Kept digest_of w) (none : w.collision ≡ None) where
  tells : CallsTell digest_of
  tells = calls_tell digest_of law

  module _ (hart : ℕ) (below : hart < w.setup.harts) (positions : List ℕ) where
    number_there : (line : Line) (e : ℕ) → hart_line w hart ≡ Some line → (names_known w.setup.enclaves (length w.setup.images) line ≡ true → e < w.setup.enclaves) → e < length w.enclaves
    number_there line e here names =
        let few : e < w.setup.enclaves = names (line_names w.setup hart (answered_at w.answered hart) line k.sizes.rules here) in
        let size : length w.enclaves ≡ w.setup.enclaves = k.sizes.numbers in
        omega arith

    -- a removal ends, or waits
    removal_kept : (va : Va) (page : ℕ) → hart_line w hart ≡ Some (Unmap va) → under_at w.under hart ≡ Removing page → (o : Option HartSet) → lacked_by w hart ≡ o → KeptTurn digest_of (waiting_turn (ends_unmap w hart page) o)
    removal_kept va page here so_far None nobody = ends_unmap_kept digest_of room_stays w k none hart below va page here so_far nobody
    removal_kept va page here so_far (Some harts) lacking = tt

    -- a number is given back, or its hart waits
    giving_kept : (e : EncNo) → hart_line w hart ≡ Some (Destroy e) → under_at w.under hart ≡ Destroying → (o : Option HartSet) → lacked_by w hart ≡ o → KeptTurn digest_of (waiting_turn (ends_destroy w hart e) o)
    giving_kept e here so_far None nobody = ends_destroy_kept digest_of room_stays w k none hart below e here so_far nobody
    giving_kept e here so_far (Some harts) lacking = tt

    -- an instruction starts anew after a break, or its hart waits
    breaking_kept : (first : Bool) (e : EncNo) (budget count index : ℕ) → hart_line w hart ≡ Some (run_line first e budget) → under_at w.under hart ≡ Breaking count index
        → (o : Option HartSet) → lacked_by w hart ≡ o → KeptTurn digest_of (waiting_turn (restarts w hart count) o)
    breaking_kept first e budget count index here so_far None nobody = restart_kept digest_of room_stays w k none hart below first e budget count index here so_far nobody
    breaking_kept first e budget count index here so_far (Some harts) lacking = tt

    -- one clause a row
    due_kept : (line : Line) (under : Under) → hart_line w hart ≡ Some line → under_at w.under hart ≡ under → KeptTurn digest_of (due digest_of w hart positions line under)
    due_kept (Load va) Idle here so_far = begins_access_kept digest_of law room_stays w k none hart below va loads here so_far positions
    due_kept (Load va) (Seeking walk) here so_far = accesses_host_kept digest_of law room_stays w k none hart below va loads here walk so_far positions
    due_kept (Store va word) Idle here so_far = begins_access_kept digest_of law room_stays w k none hart below va (stores word) here so_far positions
    due_kept (Store va word) (Seeking walk) here so_far = accesses_host_kept digest_of law room_stays w k none hart below va (stores word) here walk so_far positions
    due_kept (Map va page perms) Idle here so_far = maps_kept digest_of law room_stays w k none hart below va page perms here so_far positions
    due_kept (Unmap va) Idle here so_far = begins_unmap_kept digest_of law room_stays w k none hart below va here so_far positions
    due_kept (Unmap va) (Removing page) here so_far = removal_kept va page here so_far (lacked_by w hart) refl
    due_kept (Destroy e) Idle here so_far = begins_destroy_kept digest_of room_stays w k none hart below e here so_far (number_there (Destroy e) e.0 here (λ is. grind (arith, nat_tests)))
    due_kept (Destroy e) Destroying here so_far = giving_kept e here so_far (lacked_by w hart) refl
    due_kept (Drop shadow) Idle here so_far = drop_kept digest_of room_stays w k none hart below shadow here so_far
    due_kept (Create e image pages) Idle here so_far = begin_create_kept digest_of room_stays w k none hart below false e image pages here so_far
    due_kept (Create e image pages) (Putting done) here so_far =
        put_next_kept digest_of tells.page_writes room_stays w k none hart below positions false e image pages done here so_far
    due_kept (Shadow e image pages) Idle here so_far = begin_create_kept digest_of room_stays w k none hart below true e image pages here so_far
    due_kept (Shadow e image pages) (Putting done) here so_far =
        put_next_kept digest_of tells.page_writes room_stays w k none hart below positions true e image pages done here so_far
    due_kept (Fork shadow e pages) Idle here so_far = begin_fork_kept digest_of room_stays w k none hart below shadow e pages here so_far
    due_kept (Fork shadow e pages) (Putting done) here so_far =
        put_table_kept digest_of tells.page_writes room_stays w k none hart below positions shadow e pages done here so_far
    due_kept (Grant e page) Idle here so_far = grant_kept digest_of room_stays w k none hart below e page here so_far
    due_kept (Run e budget) Idle here so_far = begin_run_kept digest_of room_stays w k none hart below so_far true e budget here
    due_kept (Run e budget) (Running micro count) here so_far =
        runs_kept digest_of law tells room_stays w k none hart below true e budget micro count here so_far
        (number_there (Run e budget) e.0 here (λ is. grind (arith, nat_tests))) positions
    due_kept (Run e budget) (Breaking count index) here so_far = breaking_kept true e budget count index here so_far (lacked_by w hart) refl
    due_kept (Resume e budget) Idle here so_far = begin_run_kept digest_of room_stays w k none hart below so_far false e budget here
    due_kept (Resume e budget) (Running micro count) here so_far =
        runs_kept digest_of law tells room_stays w k none hart below false e budget micro count here so_far
        (number_there (Resume e budget) e.0 here (λ is. grind (arith, nat_tests))) positions
    due_kept (Resume e budget) (Breaking count index) here so_far = breaking_kept false e budget count index here so_far (lacked_by w hart) refl
    due_kept (Send e word) Idle here so_far = send_kept digest_of room_stays w k none hart below so_far e (number_there (Send e word) e.0 here (λ is. grind (arith, nat_tests))) word here
    due_kept (Take e) Idle here so_far = take_kept digest_of room_stays w k none hart below so_far e (number_there (Take e) e.0 here (λ is. grind (arith, nat_tests))) here
    due_kept (After actor count) Idle here so_far =
        waits_kept digest_of w actor count (quiet (answers w hart answer_is.Ok)) (leb count (answered_at w.answered actor)) refl
        (λ enough. answers_kept digest_of room_stays w k none hart below (After actor count) answer_is.Ok refl here
        (subst (λ b. AllowedAnswer w.setup (state_of w) (After actor count) b answer_is.Ok) (sym (ap is_begun so_far))
        (subst (λ n. count ≤ n) (sym (ap (λ (p : Progress). p.answered) (k.stands.progress actor))) enough))
        refl (ap isnt_waiting so_far))
    due_kept line under here so_far = tt

    hart_kept : (line : Option Line) → hart_line w hart ≡ line → KeptTurn digest_of (hart_turn digest_of w hart positions line)
    hart_kept None here = tt
    hart_kept (Some line) here = due_kept line (under_at w.under hart) here refl

  attacker_kept : (line : Option AttackLine) → attacker_line w ≡ line → KeptTurn digest_of (attacker_turn digest_of w line)
  attacker_kept None here = tt
  attacker_kept (Some (attack.After actor count)) here =
      waits_kept digest_of w actor count _ (leb count (answered_at w.answered actor)) refl (λ enough. attacker_waited_kept digest_of room_stays w k none actor count here enough)
  attacker_kept (Some (attack.Write pa bytes)) here = attacks_kept digest_of room_stays w k none (attack.Write pa bytes) here refl
  attacker_kept (Some (attack.Keep name pa len)) here = attacks_kept digest_of room_stays w k none (attack.Keep name pa len) here refl
  attacker_kept (Some (attack.Back name)) here = attacks_kept digest_of room_stays w k none (attack.Back name) here refl

  -- a fence that needs a hart stands
  ack_kept : (hart : ℕ) → hart < w.setup.harts → (o : Option ℕ) → owed w.fences hart ≡ o → KeptTurn digest_of (ack_turn w hart o)
  ack_kept hart below None is = tt
  ack_kept hart below (Some requester) is = acknowledged_kept digest_of room_stays w k none hart below requester (first_needs w.fences hart requester is).0

  actor_kept : (actor : Actor) (positions : List ℕ) → IsTrue (is_actor w.setup.harts actor) → KeptTurn digest_of (actor_turn digest_of w actor positions)
  actor_kept (actor_is.Hart h) positions there = hart_kept h.0 (grind (arith, nat_tests)) positions (hart_line w h.0) refl
  actor_kept (actor_is.Ack h) positions there = ack_kept h.0 (grind (arith, nat_tests)) (owed w.fences h.0) refl
  actor_kept actor_is.Attacker positions there = attacker_kept (attacker_line w) refl

after_kept : (digest_of : List ℕ → List ℕ) (w : WorldData) (turn : Turn) → Kept digest_of w → KeptTurn digest_of turn → Kept digest_of (world_after w turn)
after_kept digest_of w (moves event) k t = counted_kept digest_of event.world t
after_kept digest_of w (rests why) k t = k

turn_kept : (digest_of : List ℕ → List ℕ) (law : (m : List ℕ) → length (digest_of m) ≡ 32) (w : WorldData) (o : Option CollisionData) → w.collision ≡ o → Kept digest_of w
    → (actor : Actor) (positions : List ℕ) → IsTrue (is_actor w.setup.harts actor)
    → KeptTurn digest_of (if is_some o then rests Rattle.world_machine.specs.declared.turned.Turned.TheVariants.Halted else actor_turn digest_of w actor positions)
turn_kept digest_of law w None is k actor positions there = actor_kept digest_of law w k is actor positions there
turn_kept digest_of law w (Some c) is k actor positions there = tt

pub step_kept : (digest_of : List ℕ → List ℕ) (law : (m : List ℕ) → length (digest_of m) ≡ 32) (gives : List Rattle.mem_slots.specs.declared.slot_use.SlotUse.SlotUse → ℕ → Type 0)
    (w : WorldData) (step : Step) → Kept digest_of w → Fits digest_of gives w step → Kept digest_of (stepped digest_of w step)
unfolding stepped turn_of
step_kept digest_of law gives w step k fits = after_kept digest_of w _ k (turn_kept digest_of law w w.collision refl k step.actor step.positions fits.actor)

pub replay_kept : (digest_of : List ℕ → List ℕ) (law : (m : List ℕ) → length (digest_of m) ≡ 32) (w : WorldData) (steps : List Step) → Kept digest_of w → AllFit digest_of w steps
    → Kept digest_of (replay_from digest_of w steps)
replay_kept digest_of law w [] k fit = k
replay_kept digest_of law w (step ∷ steps) k fit = replay_kept digest_of law (stepped digest_of w step) steps (step_kept digest_of law AnyAnswer w step k fit.0) fit.1
