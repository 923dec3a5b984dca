-- Which actors have no event: by lines without pages and bytes, and over all of them.
use Rattle.std.proofs.Common.{◌≡◌, ℕ, zero, suc, ◌+◌, ◌-◌, ◌<◌, ltb, leb, Bool, true, false, ◌&&◌, if◌then◌else◌, List, [], ◌∷◌, ◌++◌, Option, Some, None, refl, sym, ap, ◌∙◌, arith}
use Rattle.std.specs.List.{list_all, range_with_len}
use Rattle.std.proofs.lemmas.Bool.Decides.{nat_tests}
use Rattle.std.proofs.lemmas.List.Folds.{list_all-append, list_all-map}
use Rattle.pl_base.specs.declared.actor.Actor.{Actor}
use Rattle.pl_base.specs.declared.actor.Actor.TheVariants as actor_is
use Rattle.pl_base.specs.declared.number.HartSet.{HartSet}
use Rattle.world_events.specs.declared.dues.Attack.{Attack}
use Rattle.world_events.specs.declared.dues.Attack.TheVariants as attack_is
use Rattle.world_events.specs.declared.dues.Due.{Due}
use Rattle.world_events.specs.declared.dues.Due.TheVariants as due_is
use Rattle.world_events.specs.Conditions.{pages_named}
use Rattle.world_core.specs.Over.{ack_still, attack_still, attacker_still, due_still, hart_still}
use Rattle.world_core.specs.Steps.{due_turn}
use Rattle.world_core.specs.Turns.{attack_turn}
use Rattle.world_events.specs.Dues.{attack_of, due_of}
use Rattle.world_core.proofs.TurnLemmas.{attack_turn-line, due_turn-hart}
use Rattle.world_machine.specs.declared.turned.Turned.TheVariants as turned
use Rattle.world_machine.specs.declared.turned.Wait.TheVariants as wait
use Rattle.world_machine.specs.declared.under.Under.{Under}
use Rattle.world_machine.specs.declared.under.Under.TheVariants.{Idle, Seeking, Removing, Destroying, Putting, Running, Breaking}
use Rattle.world_machine.specs.GivingBack.{ends_destroy}
use Rattle.world_machine.specs.HostMapping.{ends_unmap, lacked_by}
use Rattle.world_machine.specs.Running.{restarts}
use Rattle.world_machine.specs.Runs.{acknowledgements, hart_turns, is_still, nobody_moves}
use Rattle.world_machine.specs.Steps.{Turn, actor_turn, moves, rests, turned_by, waiting_turn, waits}
use Rattle.world_machine.specs.Worlds.{Event, WorldData, answered_at, attacker_line, hart_line, under_at}

-- an `after` has no event where too few lines are answered
waiting_still : (w : WorldData) (actor count : ℕ) (done : Event) → is_still (turned_by (waits w actor count done)) ≡ ltb (answered_at w.answered actor) count
waiting_still w actor count done = by (leb count (answered_at w.answered actor)) refl
  where
    by : (b : Bool) → leb count (answered_at w.answered actor) ≡ b
        → is_still (turned_by (if b then moves done else rests (turned.Blocked (wait.After actor count)))) ≡ ltb (answered_at w.answered actor) count
    by true is = grind (arith, nat_tests)
    by false is = grind (arith, nat_tests)

joined : (a b c : Bool) → (a && (b && (c && true))) ≡ ((a && b) && c)
joined true true true = refl
joined true true false = refl
joined true false c = refl
joined false b c = refl

module _ (d : List ℕ → List ℕ) (w : WorldData) where
  -- a line that posted a fence ends, or waits for an acknowledgement
  waiting_moves : (ended : WorldData) (lacked : Option HartSet) → is_still (turned_by (waiting_turn ended lacked)) ≡ false
  waiting_moves ended None = refl
  waiting_moves ended (Some harts) = refl

  due_stills : (hart : ℕ) (pages : List ℕ) (due : Due) (under : Under) → is_still (turned_by (due_turn d w hart [] pages due under)) ≡ due_still w due under
  due_stills hart pages (due_is.Load va) Idle = refl
  due_stills hart pages (due_is.Load va) (Seeking walk) = refl
  due_stills hart pages (due_is.Load va) (Removing page) = refl
  due_stills hart pages (due_is.Load va) Destroying = refl
  due_stills hart pages (due_is.Load va) (Putting done) = refl
  due_stills hart pages (due_is.Load va) (Running micro count) = refl
  due_stills hart pages (due_is.Load va) (Breaking count index) = refl
  due_stills hart pages (due_is.Store va word) Idle = refl
  due_stills hart pages (due_is.Store va word) (Seeking walk) = refl
  due_stills hart pages (due_is.Store va word) (Removing page) = refl
  due_stills hart pages (due_is.Store va word) Destroying = refl
  due_stills hart pages (due_is.Store va word) (Putting done) = refl
  due_stills hart pages (due_is.Store va word) (Running micro count) = refl
  due_stills hart pages (due_is.Store va word) (Breaking count index) = refl
  due_stills hart pages (due_is.Map va page perms) Idle = refl
  due_stills hart pages (due_is.Map va page perms) (Seeking walk) = refl
  due_stills hart pages (due_is.Map va page perms) (Removing now) = refl
  due_stills hart pages (due_is.Map va page perms) Destroying = refl
  due_stills hart pages (due_is.Map va page perms) (Putting done) = refl
  due_stills hart pages (due_is.Map va page perms) (Running micro count) = refl
  due_stills hart pages (due_is.Map va page perms) (Breaking count index) = refl
  due_stills hart pages (due_is.Unmap va) Idle = refl
  due_stills hart pages (due_is.Unmap va) (Seeking walk) = refl
  due_stills hart pages (due_is.Unmap va) (Removing page) = waiting_moves (ends_unmap w hart page) (lacked_by w hart)
  due_stills hart pages (due_is.Unmap va) Destroying = refl
  due_stills hart pages (due_is.Unmap va) (Putting done) = refl
  due_stills hart pages (due_is.Unmap va) (Running micro count) = refl
  due_stills hart pages (due_is.Unmap va) (Breaking count index) = refl
  due_stills hart pages (due_is.Create e image shadow) Idle = refl
  due_stills hart pages (due_is.Create e image shadow) (Seeking walk) = refl
  due_stills hart pages (due_is.Create e image shadow) (Removing page) = refl
  due_stills hart pages (due_is.Create e image shadow) Destroying = refl
  due_stills hart pages (due_is.Create e image shadow) (Putting done) = refl
  due_stills hart pages (due_is.Create e image shadow) (Running micro count) = refl
  due_stills hart pages (due_is.Create e image shadow) (Breaking count index) = refl
  due_stills hart pages (due_is.Fork s e) Idle = refl
  due_stills hart pages (due_is.Fork s e) (Seeking walk) = refl
  due_stills hart pages (due_is.Fork s e) (Removing page) = refl
  due_stills hart pages (due_is.Fork s e) Destroying = refl
  due_stills hart pages (due_is.Fork s e) (Putting done) = refl
  due_stills hart pages (due_is.Fork s e) (Running micro count) = refl
  due_stills hart pages (due_is.Fork s e) (Breaking count index) = refl
  due_stills hart pages (due_is.Grant e granted) Idle = refl
  due_stills hart pages (due_is.Grant e granted) (Seeking walk) = refl
  due_stills hart pages (due_is.Grant e granted) (Removing page) = refl
  due_stills hart pages (due_is.Grant e granted) Destroying = refl
  due_stills hart pages (due_is.Grant e granted) (Putting done) = refl
  due_stills hart pages (due_is.Grant e granted) (Running micro count) = refl
  due_stills hart pages (due_is.Grant e granted) (Breaking count index) = refl
  due_stills hart pages (due_is.Drop s) Idle = refl
  due_stills hart pages (due_is.Drop s) (Seeking walk) = refl
  due_stills hart pages (due_is.Drop s) (Removing page) = refl
  due_stills hart pages (due_is.Drop s) Destroying = refl
  due_stills hart pages (due_is.Drop s) (Putting done) = refl
  due_stills hart pages (due_is.Drop s) (Running micro count) = refl
  due_stills hart pages (due_is.Drop s) (Breaking count index) = refl
  due_stills hart pages (due_is.Run e budget first) Idle = refl
  due_stills hart pages (due_is.Run e budget first) (Seeking walk) = refl
  due_stills hart pages (due_is.Run e budget first) (Removing page) = refl
  due_stills hart pages (due_is.Run e budget first) Destroying = refl
  due_stills hart pages (due_is.Run e budget first) (Putting done) = refl
  due_stills hart pages (due_is.Run e budget first) (Running micro count) = refl
  due_stills hart pages (due_is.Run e budget first) (Breaking count index) = waiting_moves (restarts w hart count) (lacked_by w hart)
  due_stills hart pages (due_is.Send e word) Idle = refl
  due_stills hart pages (due_is.Send e word) (Seeking walk) = refl
  due_stills hart pages (due_is.Send e word) (Removing page) = refl
  due_stills hart pages (due_is.Send e word) Destroying = refl
  due_stills hart pages (due_is.Send e word) (Putting done) = refl
  due_stills hart pages (due_is.Send e word) (Running micro count) = refl
  due_stills hart pages (due_is.Send e word) (Breaking count index) = refl
  due_stills hart pages (due_is.Take e) Idle = refl
  due_stills hart pages (due_is.Take e) (Seeking walk) = refl
  due_stills hart pages (due_is.Take e) (Removing page) = refl
  due_stills hart pages (due_is.Take e) Destroying = refl
  due_stills hart pages (due_is.Take e) (Putting done) = refl
  due_stills hart pages (due_is.Take e) (Running micro count) = refl
  due_stills hart pages (due_is.Take e) (Breaking count index) = refl
  due_stills hart pages (due_is.Destroy e) Idle = refl
  due_stills hart pages (due_is.Destroy e) (Seeking walk) = refl
  due_stills hart pages (due_is.Destroy e) (Removing page) = refl
  due_stills hart pages (due_is.Destroy e) Destroying = waiting_moves (ends_destroy w hart e) (lacked_by w hart)
  due_stills hart pages (due_is.Destroy e) (Putting done) = refl
  due_stills hart pages (due_is.Destroy e) (Running micro count) = refl
  due_stills hart pages (due_is.Destroy e) (Breaking count index) = refl
  due_stills hart pages (due_is.After actor lines) Idle = waiting_still w actor lines _
  due_stills hart pages (due_is.After actor lines) (Seeking walk) = refl
  due_stills hart pages (due_is.After actor lines) (Removing page) = refl
  due_stills hart pages (due_is.After actor lines) Destroying = refl
  due_stills hart pages (due_is.After actor lines) (Putting done) = refl
  due_stills hart pages (due_is.After actor lines) (Running micro count) = refl
  due_stills hart pages (due_is.After actor lines) (Breaking count index) = refl
  due_stills hart pages due_is.Nothing Idle = refl
  due_stills hart pages due_is.Nothing (Seeking walk) = refl
  due_stills hart pages due_is.Nothing (Removing page) = refl
  due_stills hart pages due_is.Nothing Destroying = refl
  due_stills hart pages due_is.Nothing (Putting done) = refl
  due_stills hart pages due_is.Nothing (Running micro count) = refl
  due_stills hart pages due_is.Nothing (Breaking count index) = refl

  pub hart_stills : (hart : ℕ) (due : Due) (under : Under) → due ≡ due_of (hart_line w hart) → under ≡ under_at w.under hart → due_still w due under ≡ hart_still d w hart
  hart_stills hart due under is so_far =
      ap (λ (x : Due). due_still w x under) is ∙ ap (due_still w (due_of (hart_line w hart))) so_far
      ∙ sym (due_stills hart (pages_named (hart_line w hart)) (due_of (hart_line w hart)) (under_at w.under hart))
      ∙ ap (λ (t : Turn). is_still (turned_by t)) (due_turn-hart d w hart [] (hart_line w hart))

  attack_stills : (line : Attack) → is_still (turned_by (attack_turn w line)) ≡ attack_still w line
  attack_stills attack_is.Nothing = refl
  attack_stills (attack_is.After actor count) = waiting_still w actor count _
  attack_stills attack_is.Line = refl

  pub attacker_stills : (now : Attack) → now ≡ attack_of (attacker_line w) → attack_still w now ≡ attacker_still d w
  attacker_stills now is =
      ap (attack_still w) is ∙ sym (attack_stills (attack_of (attacker_line w))) ∙ ap (λ (t : Turn). is_still (turned_by t)) (attack_turn-line d w (attacker_line w))

  -- no actor has an event where no hart has one, no acknowledgement is owed, and the attacker has none
  pub nobody : (harts acks still : Bool) → harts ≡ list_all (hart_still d w) (range_with_len 0 w.setup.harts) → acks ≡ list_all (ack_still d w) (range_with_len 0 w.setup.harts)
      → still ≡ attacker_still d w → ((harts && acks) && still) ≡ nobody_moves d w
  nobody harts acks still of_harts of_acks of_attacker =
      let test : Actor → Bool = λ actor. is_still (turned_by (actor_turn d w actor [])) in
      let harts_part : list_all test (hart_turns w.setup.harts) ≡ list_all (hart_still d w) (range_with_len 0 w.setup.harts) = list_all-map test (λ h. actor_is.Hart (record { 0 = h })) (range_with_len 0 w.setup.harts) in
      let acks_part : list_all test (acknowledgements w.setup.harts) ≡ list_all (ack_still d w) (range_with_len 0 w.setup.harts) = list_all-map test (λ h. actor_is.Ack (record { 0 = h })) (range_with_len 0 w.setup.harts) in
      sym (list_all-append test (hart_turns w.setup.harts) (acknowledgements w.setup.harts ++ actor_is.Attacker ∷ [])
      ∙ ap (λ b. list_all test (hart_turns w.setup.harts) && b) (list_all-append test (acknowledgements w.setup.harts) (actor_is.Attacker ∷ []))
      ∙ ap (λ b. b && (list_all test (acknowledgements w.setup.harts) && (attacker_still d w && true))) (harts_part ∙ sym of_harts)
      ∙ ap (λ b. harts && (b && (attacker_still d w && true))) (acks_part ∙ sym of_acks)
      ∙ ap (λ b. harts && (acks && (b && true))) (sym of_attacker)
      ∙ joined harts acks still)

-- one more element of a range that is gone over from its start
pub one_passed : (p : ℕ → Bool) (i n : ℕ) → i < n → list_all p (range_with_len i (n - i)) ≡ (p i && list_all p (range_with_len (i + 1) (n - (i + 1))))
one_passed p i n below = let left : n - i ≡ suc (n - (i + 1)) = omega arith in ap (λ k. list_all p (range_with_len i k)) left

pub none_left : (p : ℕ → Bool) (n : ℕ) → list_all p (range_with_len n (n - n)) ≡ true
none_left p n = let left : n - n ≡ zero = omega arith in ap (λ k. list_all p (range_with_len n k)) left
