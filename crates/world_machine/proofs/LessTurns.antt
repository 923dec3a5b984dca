-- Each turn that moves leaves less to do: no run goes on for ever.
use Rattle.std.proofs.Common.{◌≡◌, ℕ, ◌+◌, ◌-◌, ◌<◌, ◌≤◌, leb, Bool, true, false, if◌then◌else◌, List, length, sum_by, Option, Some, None, is_some, refl, sym, ap, ◌∙◌, subst, arith}
use Rattle.std.specs.Prelude.{slice_set, IsTrue}
use Rattle.std.specs.List.{range_with_len}
use Rattle.std.proofs.Math.Nat.{le_refl}
use Rattle.std.proofs.lemmas.Bool.{false≢true}
use Rattle.std.proofs.lemmas.Bool.Decides.{nat_tests}
use Rattle.std.proofs.lemmas.Option.{slice_get_within}
use Rattle.pl_base.specs.declared.actor.Actor.{Actor}
use Rattle.pl_base.specs.declared.actor.Actor.TheVariants as actor_is
use Rattle.pl_base.specs.declared.address.Va.{Va}
use Rattle.pl_base.specs.declared.number.HartSet.{HartSet}
use Rattle.mon_enclave.specs.Records.{enclave_at, send_refusal, take_refusal}
use Rattle.rv_hart.specs.declared.walks.Walk.{Walk}
use Rattle.rv_tlb.specs.declared.tlb.TlbEntry.{TlbEntry}
use Rattle.pl_history.specs.declared.answer.Answer.TheVariants as answer_is
use Rattle.pl_history.specs.declared.line.AttackLine.{AttackLine}
use Rattle.pl_history.specs.declared.line.AttackLine.TheVariants as attack
use Rattle.pl_history.specs.declared.line.Line.{Line}
use Rattle.pl_history.specs.declared.line.Line.TheVariants.{Load, Store, Map, Unmap, Create, Shadow, Fork, Grant, Run, Resume, Send, Take, Destroy, Drop, After}
use Rattle.pl_history.specs.declared.setup.SetupParts.{SetupParts}
use Rattle.pl_history.specs.Rules.{is_actor}
use Rattle.world_machine.specs.declared.turned.Turned.{Turned}
use Rattle.world_machine.specs.declared.turned.Turned.TheVariants as turned
use Rattle.world_machine.specs.declared.turned.Wait.TheVariants as wait
use Rattle.world_machine.specs.declared.under.Under.{Under}
use Rattle.world_machine.specs.declared.under.Under.TheVariants.{Idle, Seeking, Removing, Destroying, Putting, Running, Breaking}
use Rattle.world_machine.specs.Acknowledging.{owed}
use Rattle.world_machine.specs.Answering.{answers}
use Rattle.world_machine.specs.GivingBack.{ends_destroy}
use Rattle.world_machine.specs.HostAccessing.{WordAccess, loads, stores}
use Rattle.world_machine.specs.HostMapping.{ends_unmap, lacked_by}
use Rattle.world_machine.specs.Running.{restarts}
use Rattle.world_machine.specs.Runs.{attacker_left, fences_left, hart_left, remaining}
use Rattle.world_machine.specs.Standing.{Kept, state_of}
use Rattle.world_machine.specs.Steps.{Step, Turn, ack_turn, actor_turn, attacker_turn, counted, due, hart_turn, moves, rests, stepped, turn_of, turned_by, waiting_turn, world_after}
use Rattle.world_machine.specs.Translating.{host_view}
use Rattle.world_machine.specs.TranslationsAgree.{IsFresh, WalkingStands, walking}
use Rattle.world_machine.specs.Worlds.{CollisionData, Event, WorldData, answered_at, attacker_line, hart_line, under_at}
use Rattle.world_machine.proofs.BreaksLeft.{breaks_of}
use Rattle.world_machine.proofs.FencesLeft.{needs_left}
use Rattle.world_machine.proofs.LessDestroyRows.{begins_destroy_less, ends_destroy_less}
use Rattle.world_machine.proofs.LessHostRows.{access_line, acknowledged_less, begins_access_less, begins_unmap_less, ends_unmap_less, maps_less, seeks_less}
use Rattle.world_machine.proofs.LessRows.{answer_less, begin_create_less, begin_fork_less, begin_run_less, changes_less, drop_less, fork_less, grant_less, make_less}
use Rattle.world_machine.proofs.LessRunRows.{restart_less, run_less}
use Rattle.world_machine.proofs.Lessens.{all_left, left_of, remaining_is}
use Rattle.world_machine.proofs.Lists.{ChangedAt, changed_set}
use Rattle.world_machine.proofs.Sums.{sums_below}
use Rattle.world_machine.proofs.WordsRead.{IsBelowRoot, stands_below}

abbrev has_moved : Turned → Bool
has_moved turned.Moved = true
has_moved other = false

-- a turn that moves leaves less, and one that doesn't isn't said to
abbrev LessTurn : WorldData → Turn → Type 0
LessTurn w (moves event) = remaining event.world < remaining w
LessTurn w (rests why) = has_moved why ≡ false

waits_less : (w : WorldData) (actor count : ℕ) (done : Event) (b : Bool) → remaining done.world < remaining w
    → LessTurn w (if b then moves done else rests (turned.Blocked (wait.After actor count)))
waits_less w actor count done true less = less
waits_less w actor count done false less = refl

ends_less : (w ended : WorldData) (o : Option HartSet) → remaining ended < remaining w → LessTurn w (waiting_turn ended o)
ends_less w ended None less = less
ends_less w ended (Some harts) less = refl

module _ (digest_of : List ℕ → List ℕ) (w : WorldData) (k : Kept digest_of w) (none : w.collision ≡ None) where
  module _ (hart : ℕ) (below : hart < w.setup.harts) (positions : List ℕ) where
    -- the walk of an access of the host stands
    walk_stands : (va : Va) (access : WordAccess) (walk : Walk) → hart_line w hart ≡ Some (access_line va access) → under_at w.under hart ≡ Seeking walk → IsBelowRoot walk
    walk_stands va access walk here so_far =
        by_access access
        (subst (λ u. WalkingStands w.ctl Fresh (walking w.setup.tables (enclave_at w.enclaves) (Some (access_line va access)) u)) so_far
        (subst (λ l. WalkingStands w.ctl Fresh (walking w.setup.tables (enclave_at w.enclaves) l (under_at w.under hart))) here (k.stands.translations.fresh.walks hart)))
      where
        Fresh : TlbEntry → Type 0
        Fresh = IsFresh w.setup (enclave_at w.enclaves) (state_of w) w.fences hart

        by_access : (a : WordAccess) → WalkingStands w.ctl Fresh (walking w.setup.tables (enclave_at w.enclaves) (Some (access_line va a)) (Seeking walk)) → IsBelowRoot walk
        by_access loads stands = stands_below w.ctl Fresh (host_view w.setup.tables) va walk stands
        by_access (stores word) stands = stands_below w.ctl Fresh (host_view w.setup.tables) va walk stands

    -- one clause a row
    due_less : (line : Line) (under : Under) → hart_line w hart ≡ Some line → under_at w.under hart ≡ under → LessTurn w (due digest_of w hart positions line under)
    due_less (Load va) Idle here so_far = begins_access_less digest_of w k none hart below va loads here so_far positions
    due_less (Load va) (Seeking walk) here so_far = seeks_less digest_of w k none hart below va loads walk here so_far (walk_stands va loads walk here so_far) positions
    due_less (Store va word) Idle here so_far = begins_access_less digest_of w k none hart below va (stores word) here so_far positions
    due_less (Store va word) (Seeking walk) here so_far = seeks_less digest_of w k none hart below va (stores word) walk here so_far (walk_stands va (stores word) walk here so_far) positions
    due_less (Map va page perms) Idle here so_far = maps_less digest_of w k none hart below va page perms here so_far positions
    due_less (Unmap va) Idle here so_far = begins_unmap_less digest_of w k none hart below va here so_far positions
    due_less (Unmap va) (Removing page) here so_far =
        ends_less w (ends_unmap w hart page) (lacked_by w hart) (ends_unmap_less digest_of w k none hart below va page here so_far)
    due_less (Destroy e) Idle here so_far = begins_destroy_less digest_of w k none hart below e here so_far
    due_less (Destroy e) Destroying here so_far =
        ends_less w (ends_destroy w hart e) (lacked_by w hart) (ends_destroy_less digest_of w k none hart below e here so_far)
    due_less (Drop shadow) Idle here so_far = drop_less digest_of w k none hart below shadow here so_far
    due_less (Create e image pages) Idle here so_far = begin_create_less digest_of w k none hart below false e image pages here so_far
    due_less (Create e image pages) (Putting done) here so_far = make_less digest_of w k none hart below false e image pages done here so_far positions
    due_less (Shadow e image pages) Idle here so_far = begin_create_less digest_of w k none hart below true e image pages here so_far
    due_less (Shadow e image pages) (Putting done) here so_far = make_less digest_of w k none hart below true e image pages done here so_far positions
    due_less (Fork shadow e pages) Idle here so_far = begin_fork_less digest_of w k none hart below shadow e pages here so_far
    due_less (Fork shadow e pages) (Putting done) here so_far = fork_less digest_of w k none hart below shadow e pages here done so_far positions
    due_less (Grant e page) Idle here so_far = grant_less digest_of w k none hart below e page here so_far
    due_less (Run e budget) Idle here so_far = begin_run_less digest_of w k none hart below true e (Run e budget) here so_far (omega arith)
    due_less (Run e budget) (Running micro count) here so_far =
        run_less digest_of w k none hart below true e budget count micro here so_far positions
    due_less (Run e budget) (Breaking count index) here so_far =
        ends_less w (restarts w hart count) (lacked_by w hart) (restart_less digest_of w k none hart below true e budget count index here so_far)
    due_less (Resume e budget) Idle here so_far = begin_run_less digest_of w k none hart below false e (Resume e budget) here so_far (omega arith)
    due_less (Resume e budget) (Running micro count) here so_far =
        run_less digest_of w k none hart below false e budget count micro here so_far positions
    due_less (Resume e budget) (Breaking count index) here so_far =
        ends_less w (restarts w hart count) (lacked_by w hart) (restart_less digest_of w k none hart below false e budget count index here so_far)
    due_less (Send e word) Idle here so_far =
        changes_less digest_of w k none hart below (Send e word) here so_far (send_refusal (enclave_at w.enclaves e.0)) e.0 _ answer_is.Ok refl
    due_less (Take e) Idle here so_far =
        changes_less digest_of w k none hart below (Take e) here so_far (take_refusal (enclave_at w.enclaves e.0)) e.0 _ _ refl
    due_less (After actor count) Idle here so_far =
        waits_less w actor count _ (leb count (answered_at w.answered actor))
        (answer_less digest_of w k none hart below (After actor count) here so_far (answers w hart answer_is.Ok) refl none refl (le_refl _) refl refl)
    due_less line under here so_far = refl

    hart_less : (line : Option Line) → hart_line w hart ≡ line → LessTurn w (hart_turn digest_of w hart positions line)
    hart_less None here = refl
    hart_less (Some line) here = due_less line (under_at w.under hart) here refl

  -- ---- the attacker

  module _ (line : AttackLine) (here : attacker_line w ≡ Some line) where
    some_lines : answered_at w.answered w.setup.harts < length w.setup.attacker
    some_lines = slice_get_within w.setup.attacker (answered_at w.answered w.setup.harts) line here

    attacker_less : (v : WorldData) → v.setup ≡ w.setup → v.collision ≡ None → v.fences ≡ w.fences → v.enclaves ≡ w.enclaves → v.under ≡ w.under
        → v.answered ≡ slice_set w.answered w.setup.harts (answered_at w.answered w.setup.harts + 1) → remaining v < remaining w
    attacker_less v setup free fences enclaves under answered =
        let changed : ChangedAt 0 w.answered v.answered w.setup.harts (answered_at w.answered w.setup.harts + 1)
        = subst (λ xs. ChangedAt 0 w.answered xs w.setup.harts (answered_at w.answered w.setup.harts + 1)) (sym answered)
        (changed_set 0 w.answered w.setup.harts (answered_at w.answered w.setup.harts + 1) (let n : length w.answered ≡ w.setup.harts + 1 = k.sizes.actors in omega arith)) in
        let left : attacker_left v ≡ length w.setup.attacker - (answered_at w.answered w.setup.harts + 1)
        = ap (λ (p : SetupParts). length p.attacker - answered_at v.answered p.harts) setup ∙ ap (λ n. length w.setup.attacker - n) changed.here in
        let stays : (h : ℕ) → h < w.setup.harts → hart_left v h ≡ hart_left w h
        = λ h few. ap (λ (p : SetupParts). left_of p h (under_at v.under h) (answered_at v.answered h)) setup
        ∙ ap (λ us. left_of w.setup h (under_at us h) (answered_at v.answered h)) under
        ∙ ap (left_of w.setup h (under_at w.under h)) (changed.others h (λ same. let s : h ≡ w.setup.harts = same in omega arith)) in
        let sums : sum_by (hart_left v) (range_with_len 0 w.setup.harts) ≤ sum_by (hart_left w) (range_with_len 0 w.setup.harts)
        = sums_below (hart_left v) (hart_left w) 0 w.setup.harts (λ h low few. let s : hart_left v h ≡ hart_left w h = stays h (let f : h < 0 + w.setup.harts = few in omega arith) in omega arith) in
        let needs : fences_left v ≡ fences_left w = ap (λ (p : SetupParts). needs_left p.harts v.fences) setup ∙ ap (needs_left w.setup.harts) fences in
        let breaks : breaks_of v.setup.harts v.enclaves ≡ breaks_of w.setup.harts w.enclaves
        = ap (λ (p : SetupParts). breaks_of p.harts v.enclaves) setup ∙ ap (breaks_of w.setup.harts) enclaves in
        let new : remaining v ≡ all_left v = remaining_is v free in
        let old : remaining w ≡ all_left w = remaining_is w none in
        let same : sum_by (hart_left v) (range_with_len 0 v.setup.harts) ≡ sum_by (hart_left v) (range_with_len 0 w.setup.harts)
        = ap (λ (p : SetupParts). sum_by (hart_left v) (range_with_len 0 p.harts)) setup in
        let some : answered_at w.answered w.setup.harts < length w.setup.attacker = some_lines in
        omega arith

  attack_less : (line : Option AttackLine) → attacker_line w ≡ line → LessTurn w (attacker_turn digest_of w line)
  attack_less None here = refl
  attack_less (Some (attack.After actor count)) here =
      waits_less w actor count _ (leb count (answered_at w.answered actor)) (attacker_less (attack.After actor count) here _ refl none refl refl refl refl)
  attack_less (Some (attack.Write pa bytes)) here = attacker_less (attack.Write pa bytes) here _ refl none refl refl refl refl
  attack_less (Some (attack.Keep name pa len)) here = attacker_less (attack.Keep name pa len) here _ refl none refl refl refl refl
  attack_less (Some (attack.Back name)) here = attacker_less (attack.Back name) here _ refl none refl refl refl refl

  ack_less : (hart : ℕ) → hart < w.setup.harts → (o : Option ℕ) → owed w.fences hart ≡ o → LessTurn w (ack_turn w hart o)
  ack_less hart below None is = refl
  ack_less hart below (Some requester) is = acknowledged_less digest_of w k none hart below requester is

  actor_less : (actor : Actor) (positions : List ℕ) → IsTrue (is_actor w.setup.harts actor) → LessTurn w (actor_turn digest_of w actor positions)
  actor_less (actor_is.Hart h) positions there = hart_less h.0 (grind (arith, nat_tests)) positions (hart_line w h.0) refl
  actor_less (actor_is.Ack h) positions there = ack_less h.0 (grind (arith, nat_tests)) (owed w.fences h.0) refl
  actor_less actor_is.Attacker positions there = attack_less (attacker_line w) refl

-- counting a move leaves as much
counted_left : (v : WorldData) → remaining (counted v) ≡ remaining v
unfolding remaining
counted_left v = refl

turn_less : (digest_of : List ℕ → List ℕ) (w : WorldData) (o : Option CollisionData) → w.collision ≡ o → Kept digest_of w → (actor : Actor) (positions : List ℕ) → IsTrue (is_actor w.setup.harts actor)
    → LessTurn w (if is_some o then rests turned.Halted else actor_turn digest_of w actor positions)
turn_less digest_of w None is k actor positions there = actor_less digest_of w k is actor positions there
turn_less digest_of w (Some c) is k actor positions there = refl

after_less : (w : WorldData) (turn : Turn) → LessTurn w turn → turned_by turn ≡ turned.Moved → remaining (world_after w turn) < remaining w
after_less w (moves event) less moved = let c : remaining (counted event.world) ≡ remaining event.world = counted_left event.world in let l : remaining event.world < remaining w = less in omega arith
after_less w (rests why) less moved = absurd (false≢true (sym less ∙ ap has_moved moved))

-- an actor that moves leaves less
pub steps_lessen : (digest_of : List ℕ → List ℕ) (w : WorldData) (step : Step) → Kept digest_of w → IsTrue (is_actor w.setup.harts step.actor)
    → turned_by (turn_of digest_of w step.actor step.positions) ≡ turned.Moved → remaining (stepped digest_of w step) < remaining w
unfolding stepped turn_of
steps_lessen digest_of w step k there moved = after_less w _ (turn_less digest_of w w.collision refl k step.actor step.positions there) moved
