-- What the end of a run means, in a world that keeps what worlds keep.
use Rattle.std.proofs.Common.{◌≡◌, ℕ, zero, suc, ◌+◌, ◌<◌, ◌≤◌, eqb, leb, Bool, true, false, if◌then◌else◌, List, [], ◌∷◌, ◌++◌, length, unwrap_or, Option, Some, None, is_some, refl, sym, ap, ◌∙◌, subst, arith, inl, inr}
use Rattle.std.specs.Option.{IsSomeAnd}
use Rattle.std.specs.List.{list_all, range_with_len}
use Rattle.std.proofs.lemmas.Bool.{and_parts, cases_lt, eqb-true, false≢true}
use Rattle.std.proofs.lemmas.Bool.Decides.{nat_tests}
use Rattle.std.proofs.lemmas.List.Folds.{list_all-append, list_all-map}
use Rattle.std.proofs.lemmas.Option.{slice_get_past}
use Rattle.pl_base.specs.declared.actor.Actor.{Actor}
use Rattle.pl_base.specs.declared.actor.Actor.TheVariants.{Hart, Ack, Attacker}
use Rattle.pl_base.specs.declared.number.HartSet.{HartSet}
use Rattle.mon_enclave.specs.Records.{enclave_at}
use Rattle.mon_fence.proofs.Needs.{posted_there}
use Rattle.mon_fence.specs.declared.fences.Fence.{Fence}
use Rattle.mon_fence.specs.Fences.{fence_of}
use Rattle.pl_history.specs.declared.line.AttackLine.{AttackLine}
use Rattle.pl_history.specs.declared.line.AttackLine.TheVariants as attack
use Rattle.pl_history.specs.declared.line.Line.{Line}
use Rattle.pl_history.specs.declared.line.Line.TheVariants.{Load, Store, Map, Unmap, Create, Shadow, Fork, Grant, Run, Resume, Send, Take, Destroy, Drop, After}
use Rattle.pl_history.specs.Legal.{AllAnswered}
use Rattle.pl_history.specs.Monitor.{Progress, line_count, script_of}
use Rattle.world_machine.specs.declared.turned.Finished.{Finished}
use Rattle.world_machine.specs.declared.turned.Finished.TheVariants as finished
use Rattle.world_machine.specs.declared.turned.Turned.TheVariants as turned
use Rattle.world_machine.specs.declared.turned.Wait.TheVariants as wait
use Rattle.world_machine.specs.declared.under.Under.{Under}
use Rattle.world_machine.specs.declared.under.Under.TheVariants.{Idle, Seeking, Removing, Destroying, Putting, Running, Breaking}
use Rattle.world_machine.specs.Acknowledging.{owed}
use Rattle.world_machine.specs.Endings.{EndsBy, IsAttackBlocked, IsBlocked, IsStuck}
use Rattle.world_machine.specs.GivingBack.{ends_destroy}
use Rattle.world_machine.specs.HostMapping.{ends_unmap, lacked_by}
use Rattle.world_machine.specs.LinesUnderWay.{LineUnderWay}
use Rattle.world_machine.specs.Running.{restarts}
use Rattle.world_machine.specs.Runs.{acknowledgements, all_answered, hart_turns, is_still, nobody_moves, over_of}
use Rattle.world_machine.specs.Standing.{CollisionStands, Kept, state_of, written_page}
use Rattle.world_machine.specs.Steps.{ack_turn, actor_turn, attacker_turn, due, hart_turn, moves, rests, turned_by, waiting_turn}
use Rattle.world_machine.specs.Worlds.{CollisionData, Event, WorldData, answered_at, hart_line, under_at}
use Rattle.world_machine.proofs.FenceTurns.{fence_turn}
use Rattle.world_machine.proofs.NobodyOwed.{nobody_lacking}

-- ---- tests on lists

in_range : (p : ℕ → Bool) (from n x : ℕ) → list_all p (range_with_len from n) ≡ true → from ≤ x → x < from + n → p x ≡ true
in_range p from zero x all low high = absurd (omega arith)
in_range p from (suc n) x all low high =
    let parts = and_parts (p from) (list_all p (range_with_len (from + 1) n)) all in
    elim (cases_lt x (from + 1)) [
      | inl here ↦ let same : x ≡ from = (let h : x < from + 1 = here in omega arith) in ap p same ∙ parts.0
      | inr later ↦ let l : from + 1 ≤ x = later in in_range p (from + 1) n x parts.1 l (omega arith)
    ]

-- ---- fences

none_owed : (w : WorldData) (hart : ℕ) (o : Option ℕ) → is_still (turned_by (ack_turn w hart o)) ≡ true → o ≡ None
none_owed w hart None still = refl
none_owed w hart (Some requester) still = absurd (false≢true still)

-- ---- all lines are answered

module _ (digest_of : List ℕ → List ℕ) (w : WorldData) (k : Kept digest_of w) where
  past_count : (actor : ℕ) → w.setup.harts + 1 ≤ actor → answered_at w.answered actor ≡ line_count w.setup actor
  past_count actor past =
      let none : answered_at w.answered actor ≡ 0 = ap (λ o. unwrap_or o 0) (slice_get_past w.answered actor (let n : length w.answered ≡ w.setup.harts + 1 = k.sizes.actors in omega arith)) in
      let no_script : script_of w.setup actor ≡ [] = ap (λ o. unwrap_or o []) (slice_get_past w.setup.lines actor (let n : length w.setup.lines ≡ w.setup.harts = k.sizes.rules.scripts in omega arith)) in
      let other : eqb actor w.setup.harts ≡ false = grind (arith, nat_tests) in
      none ∙ sym (ap (λ b. if b then length w.setup.attacker else length (script_of w.setup actor)) other ∙ ap length no_script)

  count_reached : all_answered w ≡ true → (actor : ℕ) → answered_at w.answered actor ≡ line_count w.setup actor
  count_reached all actor = elim (cases_lt actor (w.setup.harts + 1)) [
    | inl below ↦ eqb-true (answered_at w.answered actor) (line_count w.setup actor)
        (in_range (λ a. eqb (answered_at w.answered a) (line_count w.setup a)) 0 (w.setup.harts + 1) actor all (omega arith) (let b : actor < w.setup.harts + 1 = below in omega arith))
    | inr past ↦ past_count actor past
  ]

  answered_all : all_answered w ≡ true → AllAnswered w.setup w.history.bytes w.history.entries
  answered_all all actor = ap (λ (p : Progress). p.answered) (k.stands.progress actor) ∙ count_reached all actor

  -- ---- nobody moves

  waiting : (count done : ℕ) (event : Event) (actor : ℕ) (b : Bool) → leb count done ≡ b
      → is_still (turned_by (if b then moves event else rests (turned.Blocked (wait.After actor count)))) ≡ true → done < count
  waiting count done event actor true is still = absurd (false≢true still)
  waiting count done event actor false is still = grind (arith, nat_tests)

  module _ (hart : ℕ) where
    abbrev Standing : Line → Under → Type 0
    Standing line under = LineUnderWay w.setup (written_page w) (enclave_at w.enclaves) (state_of w).number hart (Some line) under

    abbrev Still : Line → Under → Type 0
    Still line under = is_still (turned_by (due digest_of w hart [] line under)) ≡ true

    -- a line that posted a fence ends, or waits for acknowledgements
    ends : (ended : WorldData) (o : Option HartSet) → is_still (turned_by (waiting_turn ended o)) ≡ true → ⊥
    ends ended None still = false≢true still
    ends ended (Some harts) still = false≢true still

    blocked : (line : Line) (under : Under) → under_at w.under hart ≡ under → Standing line under → Still line under → IsBlocked w hart line
    blocked (Load va) Idle so_far standing still = absurd (false≢true still)
    blocked (Load va) (Seeking walk) so_far standing still = absurd (false≢true still)
    blocked (Load va) (Removing page) so_far standing still = absurd standing
    blocked (Load va) Destroying so_far standing still = absurd standing
    blocked (Load va) (Putting done) so_far standing still = absurd standing
    blocked (Load va) (Running micro done) so_far standing still = absurd standing
    blocked (Load va) (Breaking done index) so_far standing still = absurd standing
    blocked (Store va word) Idle so_far standing still = absurd (false≢true still)
    blocked (Store va word) (Seeking walk) so_far standing still = absurd (false≢true still)
    blocked (Store va word) (Removing page) so_far standing still = absurd standing
    blocked (Store va word) Destroying so_far standing still = absurd standing
    blocked (Store va word) (Putting done) so_far standing still = absurd standing
    blocked (Store va word) (Running micro done) so_far standing still = absurd standing
    blocked (Store va word) (Breaking done index) so_far standing still = absurd standing
    blocked (Map va page perms) Idle so_far standing still = absurd (false≢true still)
    blocked (Map va page perms) (Seeking walk) so_far standing still = absurd standing
    blocked (Map va page perms) (Removing from) so_far standing still = absurd standing
    blocked (Map va page perms) Destroying so_far standing still = absurd standing
    blocked (Map va page perms) (Putting done) so_far standing still = absurd standing
    blocked (Map va page perms) (Running micro done) so_far standing still = absurd standing
    blocked (Map va page perms) (Breaking done index) so_far standing still = absurd standing
    blocked (Unmap va) Idle so_far standing still = absurd (false≢true still)
    blocked (Unmap va) (Seeking walk) so_far standing still = absurd standing
    blocked (Unmap va) (Removing page) so_far standing still = absurd (ends (ends_unmap w hart page) (lacked_by w hart) still)
    blocked (Unmap va) Destroying so_far standing still = absurd standing
    blocked (Unmap va) (Putting done) so_far standing still = absurd standing
    blocked (Unmap va) (Running micro done) so_far standing still = absurd standing
    blocked (Unmap va) (Breaking done index) so_far standing still = absurd standing
    blocked (Create e image pages) Idle so_far standing still = absurd (false≢true still)
    blocked (Create e image pages) (Seeking walk) so_far standing still = absurd standing
    blocked (Create e image pages) (Removing page) so_far standing still = absurd standing
    blocked (Create e image pages) Destroying so_far standing still = absurd standing
    blocked (Create e image pages) (Putting done) so_far standing still = absurd (false≢true still)
    blocked (Create e image pages) (Running micro done) so_far standing still = absurd standing
    blocked (Create e image pages) (Breaking done index) so_far standing still = absurd standing
    blocked (Run e budget) Idle so_far standing still = absurd (false≢true still)
    blocked (Run e budget) (Seeking walk) so_far standing still = absurd standing
    blocked (Run e budget) (Removing page) so_far standing still = absurd standing
    blocked (Run e budget) Destroying so_far standing still = absurd standing
    blocked (Run e budget) (Putting done) so_far standing still = absurd standing
    blocked (Run e budget) (Running micro done) so_far standing still = absurd (false≢true still)
    blocked (Run e budget) (Breaking done index) so_far standing still = absurd (ends (restarts w hart done) (lacked_by w hart) still)
    blocked (Resume e budget) Idle so_far standing still = absurd (false≢true still)
    blocked (Resume e budget) (Seeking walk) so_far standing still = absurd standing
    blocked (Resume e budget) (Removing page) so_far standing still = absurd standing
    blocked (Resume e budget) Destroying so_far standing still = absurd standing
    blocked (Resume e budget) (Putting done) so_far standing still = absurd standing
    blocked (Resume e budget) (Running micro done) so_far standing still = absurd (false≢true still)
    blocked (Resume e budget) (Breaking done index) so_far standing still = absurd (ends (restarts w hart done) (lacked_by w hart) still)
    blocked (Send e word) Idle so_far standing still = absurd (false≢true still)
    blocked (Send e word) (Seeking walk) so_far standing still = absurd standing
    blocked (Send e word) (Removing page) so_far standing still = absurd standing
    blocked (Send e word) Destroying so_far standing still = absurd standing
    blocked (Send e word) (Putting done) so_far standing still = absurd standing
    blocked (Send e word) (Running micro done) so_far standing still = absurd standing
    blocked (Send e word) (Breaking done index) so_far standing still = absurd standing
    blocked (Take e) Idle so_far standing still = absurd (false≢true still)
    blocked (Take e) (Seeking walk) so_far standing still = absurd standing
    blocked (Take e) (Removing page) so_far standing still = absurd standing
    blocked (Take e) Destroying so_far standing still = absurd standing
    blocked (Take e) (Putting done) so_far standing still = absurd standing
    blocked (Take e) (Running micro done) so_far standing still = absurd standing
    blocked (Take e) (Breaking done index) so_far standing still = absurd standing
    blocked (After actor count) Idle so_far standing still =
        record { actor = actor; count = count; line_is = refl; idle = so_far; few = waiting count (answered_at w.answered actor) _ actor (leb count (answered_at w.answered actor)) refl still }
    blocked (After actor count) (Seeking walk) so_far standing still = absurd standing
    blocked (After actor count) (Removing page) so_far standing still = absurd standing
    blocked (After actor count) Destroying so_far standing still = absurd standing
    blocked (After actor count) (Putting done) so_far standing still = absurd standing
    blocked (After actor count) (Running micro done) so_far standing still = absurd standing
    blocked (After actor count) (Breaking done index) so_far standing still = absurd standing
    blocked (Shadow e image pages) Idle so_far standing still = absurd (false≢true still)
    blocked (Shadow e image pages) (Seeking walk) so_far standing still = absurd standing
    blocked (Shadow e image pages) (Removing from) so_far standing still = absurd standing
    blocked (Shadow e image pages) Destroying so_far standing still = absurd standing
    blocked (Shadow e image pages) (Putting done) so_far standing still = absurd (false≢true still)
    blocked (Shadow e image pages) (Running micro done) so_far standing still = absurd standing
    blocked (Shadow e image pages) (Breaking done index) so_far standing still = absurd standing
    blocked (Fork s e pages) Idle so_far standing still = absurd (false≢true still)
    blocked (Fork s e pages) (Seeking walk) so_far standing still = absurd standing
    blocked (Fork s e pages) (Removing from) so_far standing still = absurd standing
    blocked (Fork s e pages) Destroying so_far standing still = absurd standing
    blocked (Fork s e pages) (Putting done) so_far standing still = absurd (false≢true still)
    blocked (Fork s e pages) (Running micro done) so_far standing still = absurd standing
    blocked (Fork s e pages) (Breaking done index) so_far standing still = absurd standing
    blocked (Grant e page) Idle so_far standing still = absurd (false≢true still)
    blocked (Grant e page) (Seeking walk) so_far standing still = absurd standing
    blocked (Grant e page) (Removing from) so_far standing still = absurd standing
    blocked (Grant e page) Destroying so_far standing still = absurd standing
    blocked (Grant e page) (Putting done) so_far standing still = absurd standing
    blocked (Grant e page) (Running micro done) so_far standing still = absurd standing
    blocked (Grant e page) (Breaking done index) so_far standing still = absurd standing
    blocked (Destroy e) Idle so_far standing still = absurd (false≢true still)
    blocked (Destroy e) (Seeking walk) so_far standing still = absurd standing
    blocked (Destroy e) (Removing page) so_far standing still = absurd standing
    blocked (Destroy e) Destroying so_far standing still = absurd (ends (ends_destroy w hart e) (lacked_by w hart) still)
    blocked (Destroy e) (Putting done) so_far standing still = absurd standing
    blocked (Destroy e) (Running micro done) so_far standing still = absurd standing
    blocked (Destroy e) (Breaking done index) so_far standing still = absurd standing
    blocked (Drop s) Idle so_far standing still = absurd (false≢true still)
    blocked (Drop s) (Seeking walk) so_far standing still = absurd standing
    blocked (Drop s) (Removing from) so_far standing still = absurd standing
    blocked (Drop s) Destroying so_far standing still = absurd standing
    blocked (Drop s) (Putting done) so_far standing still = absurd standing
    blocked (Drop s) (Running micro done) so_far standing still = absurd standing
    blocked (Drop s) (Breaking done index) so_far standing still = absurd standing

    -- a hart with a fence ends its line, or waits
    no_fence : lacked_by w hart ≡ None → (hart < length w.fences → is_still (turned_by (hart_turn digest_of w hart [] (hart_line w hart))) ≡ true) → fence_of w.fences hart ≡ None
    no_fence nobody still = by_fence (fence_of w.fences hart) refl
      where
        by_fence : (o : Option Fence) → fence_of w.fences hart ≡ o → fence_of w.fences hart ≡ None
        by_fence None is = is
        by_fence (Some fence) is =
            let turn = fence_turn digest_of w k hart [] fence is in
            absurd (ends turn.0 (lacked_by w hart)
            (subst (λ t. is_still (turned_by t) ≡ true) turn.1
            (still (posted_there (λ f. Unit {0}) w.fences hart (subst (λ o. IsSomeAnd o (λ f. Unit {0})) (sym is) tt)))))

    hart_blocked : (line : Line) → hart_line w hart ≡ Some line → is_still (turned_by (hart_turn digest_of w hart [] (hart_line w hart))) ≡ true → IsBlocked w hart line
    hart_blocked line here still =
        blocked line (under_at w.under hart) refl
        (subst (λ l. LineUnderWay w.setup (written_page w) (enclave_at w.enclaves) (state_of w).number hart l (under_at w.under hart)) here (k.stands.lines hart))
        (subst (λ l. is_still (turned_by (hart_turn digest_of w hart [] l)) ≡ true) here still)

  attack_blocked : (line : AttackLine) → is_still (turned_by (attacker_turn digest_of w (Some line))) ≡ true → IsAttackBlocked w line
  attack_blocked (attack.After actor count) still =
      record { actor = actor; count = count; line_is = refl; few = waiting count (answered_at w.answered actor) _ actor (leb count (answered_at w.answered actor)) refl still }
  attack_blocked (attack.Write pa bytes) still = absurd (false≢true still)
  attack_blocked (attack.Keep name pa len) still = absurd (false≢true still)
  attack_blocked (attack.Back name) still = absurd (false≢true still)

  abbrev still_actor : Actor → Bool
  still_actor actor = is_still (turned_by (actor_turn digest_of w actor []))

  nobody : nobody_moves digest_of w ≡ true → w.collision ≡ None → all_answered w ≡ false → IsStuck w
  nobody still none some =
      let first = and_parts (list_all still_actor (hart_turns w.setup.harts)) (list_all still_actor (acknowledgements w.setup.harts ++ Attacker ∷ []))
      (sym (list_all-append still_actor (hart_turns w.setup.harts) (acknowledgements w.setup.harts ++ Attacker ∷ [])) ∙ still) in
      let harts : list_all (λ h. still_actor (Hart (record { 0 = h }))) (range_with_len 0 w.setup.harts) ≡ true
      = sym (list_all-map still_actor (λ h. Hart (record { 0 = h })) (range_with_len 0 w.setup.harts)) ∙ first.0 in
      let last = and_parts (list_all still_actor (acknowledgements w.setup.harts)) (list_all still_actor (Attacker ∷ []))
      (sym (list_all-append still_actor (acknowledgements w.setup.harts) (Attacker ∷ [])) ∙ first.1) in
      let acks : list_all (λ h. still_actor (Ack (record { 0 = h }))) (range_with_len 0 w.setup.harts) ≡ true
      = sym (list_all-map still_actor (λ h. Ack (record { 0 = h })) (range_with_len 0 w.setup.harts)) ∙ last.0 in
      let attacker : still_actor Attacker ≡ true = (and_parts (still_actor Attacker) true last.1).0 in
      let size : length w.fences ≡ w.setup.harts = k.stands.translations.fences_stand.size in
      let hart_still : (hart : ℕ) → hart < w.setup.harts → still_actor (Hart (record { 0 = hart })) ≡ true
      = λ hart below. in_range (λ h. still_actor (Hart (record { 0 = h }))) 0 w.setup.harts hart harts (omega arith) (omega arith) in
      let nobody_waits : (hart : ℕ) → lacked_by w hart ≡ None
      = nobody_lacking w.fences k.stands.translations.fences_stand.needs_others
      (λ hart below. none_owed w hart (owed w.fences hart) (in_range (λ h. still_actor (Ack (record { 0 = h }))) 0 w.setup.harts hart acks (omega arith) (omega arith))) in
      record {
        none = none;
        some = some;
        harts = λ hart line below here. hart_blocked hart line here (hart_still hart below);
        attacker = λ line here. attack_blocked line (subst (λ l. is_still (turned_by (attacker_turn digest_of w l)) ≡ true) here attacker);
        fences = λ hart. no_fence hart (nobody_waits hart) (λ below. hart_still hart (omega arith));
      }

  -- ---- the run is over

  ends_some : (o : Option CollisionData) → w.collision ≡ o → (answered still : Bool) → all_answered w ≡ answered → nobody_moves digest_of w ≡ still → (end : Finished)
      → (if is_some o then Some finished.Collision else if answered then Some finished.Done else if still then Some finished.Stuck else None) ≡ Some end → EndsBy digest_of end w
  ends_some (Some c) is answered still all nobody_does finished.Collision over =
      record { collision = c; kept = is; is = subst (CollisionStands digest_of w.setup.zones (state_of w).attacks) is k.collision }
  ends_some (Some c) is answered still all nobody_does finished.Done over = cc
  ends_some (Some c) is answered still all nobody_does finished.Stuck over = cc
  ends_some None is true still all nobody_does finished.Done over = record { answered = answered_all all; none = is }
  ends_some None is true still all nobody_does finished.Collision over = cc
  ends_some None is true still all nobody_does finished.Stuck over = cc
  ends_some None is false true all nobody_does finished.Stuck over = nobody nobody_does is all
  ends_some None is false true all nobody_does finished.Done over = cc
  ends_some None is false true all nobody_does finished.Collision over = cc
  ends_some None is false false all nobody_does end over = cc

  pub ends_by : (end : Finished) → over_of digest_of w ≡ Some end → EndsBy digest_of end w
  unfolding over_of
  ends_by end over = ends_some w.collision refl (all_answered w) (nobody_moves digest_of w) refl refl end over
