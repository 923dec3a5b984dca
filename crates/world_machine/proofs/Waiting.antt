-- A hart waits for acknowledgements exactly where its own fence still needs some.
use Rattle.std.proofs.Common.{◌≡◌, ℕ, leb, Bool, true, false, if◌then◌else◌, List, Option, Some, None, is_some, refl, sym, ap, ◌∙◌}
use Rattle.std.specs.Prelude.{◌↔◌}
use Rattle.pl_base.specs.declared.actor.Actor.TheVariants.{Hart}
use Rattle.pl_base.specs.declared.number.HartNo.{HartNo}
use Rattle.pl_base.specs.declared.number.HartSet.{HartSet}
use Rattle.mon_fence.specs.declared.fences.Fence.{Fence}
use Rattle.mon_fence.specs.Fences.{fence_of, lacking}
use Rattle.pl_history.specs.declared.line.Line.{Line}
use Rattle.pl_history.specs.declared.line.Line.TheVariants.{Load, Store, Map, Unmap, Create, Shadow, Fork, Grant, Drop, Run, Resume, Send, Take, Destroy, After}
use Rattle.world_machine.specs.declared.turned.Turned.TheVariants as turned
use Rattle.world_machine.specs.declared.turned.Wait.TheVariants as wait
use Rattle.world_machine.specs.declared.under.Under.{Under}
use Rattle.world_machine.specs.declared.under.Under.TheVariants.{Idle, Seeking, Removing, Destroying, Putting, Running, Breaking}
use Rattle.world_machine.specs.GivingBack.{ends_destroy}
use Rattle.world_machine.specs.HostMapping.{ends_unmap, lacked_by}
use Rattle.world_machine.specs.Running.{restarts}
use Rattle.world_machine.specs.Standing.{Kept}
use Rattle.world_machine.specs.Steps.{Turn, due, hart_turn, moves, rests, turn_of, turned_by, waiting_turn}
use Rattle.world_machine.specs.Worlds.{Event, WorldData, answered_at, hart_line, under_at}
use Rattle.world_machine.proofs.FenceTurns.{fence_turn}

module _ (digest_of : List ℕ → List ℕ) (w : WorldData) (hart : ℕ) (harts : HartSet) where
  abbrev Waits : Turn → Type 0
  Waits turn = turned_by turn ≡ turned.Blocked (wait.Acks harts)

  -- no other line waits for acknowledgements
  after_waits : (b : Bool) (actor count : ℕ) (done : Event) → Waits (if b then moves done else rests (turned.Blocked (wait.After actor count))) → ⊥
  after_waits true actor count done is = cc
  after_waits false actor count done is = cc

  fence_lacks : (ended : WorldData) (o : Option HartSet) → Waits (waiting_turn ended o) → o ≡ Some harts
  fence_lacks ended None is = cc
  fence_lacks ended (Some lacked) is = ap Some (let same : lacked ≡ harts = cc in same)

  due_waits : (positions : List ℕ) (line : Line) (under : Under) → Waits (due digest_of w hart positions line under) → lacked_by w hart ≡ Some harts
  due_waits positions (Load va) Idle is = cc
  due_waits positions (Load va) (Seeking walk) is = cc
  due_waits positions (Store va word) Idle is = cc
  due_waits positions (Store va word) (Seeking walk) is = cc
  due_waits positions (Map va page perms) Idle is = cc
  due_waits positions (Unmap va) Idle is = cc
  due_waits positions (Unmap va) (Removing page) is = fence_lacks (ends_unmap w hart page) (lacked_by w hart) is
  due_waits positions (Destroy e) Idle is = cc
  due_waits positions (Destroy e) Destroying is = fence_lacks (ends_destroy w hart e) (lacked_by w hart) is
  due_waits positions (Create e image pages) Idle is = cc
  due_waits positions (Create e image pages) (Putting done) is = cc
  due_waits positions (Shadow e image pages) Idle is = cc
  due_waits positions (Shadow e image pages) (Putting done) is = cc
  due_waits positions (Fork shadow e pages) Idle is = cc
  due_waits positions (Fork shadow e pages) (Putting done) is = cc
  due_waits positions (Grant e page) Idle is = cc
  due_waits positions (Drop shadow) Idle is = cc
  due_waits positions (Run e budget) Idle is = cc
  due_waits positions (Run e budget) (Running micro count) is = cc
  due_waits positions (Run e budget) (Breaking count index) is = fence_lacks (restarts w hart count) (lacked_by w hart) is
  due_waits positions (Resume e budget) Idle is = cc
  due_waits positions (Resume e budget) (Running micro count) is = cc
  due_waits positions (Resume e budget) (Breaking count index) is = fence_lacks (restarts w hart count) (lacked_by w hart) is
  due_waits positions (Send e word) Idle is = cc
  due_waits positions (Take e) Idle is = cc
  due_waits positions (After actor count) Idle is = absurd (after_waits (leb count (answered_at w.answered actor)) actor count _ is)
  due_waits positions line under is = cc

  hart_waits : (positions : List ℕ) (line : Option Line) → Waits (hart_turn digest_of w hart positions line) → lacked_by w hart ≡ Some harts
  hart_waits positions None is = cc
  hart_waits positions (Some line) is = due_waits positions line (under_at w.under hart) is

  -- a fence that needs some harts is that of a line under way, which waits for it
  module _ (k : Kept digest_of w) (lacks : lacked_by w hart ≡ Some harts) (positions : List ℕ) where
    by_fence : (o : Option Fence) → fence_of w.fences hart ≡ o → Waits (hart_turn digest_of w hart positions (hart_line w hart))
    by_fence None is = let never : None ≡ Some harts = sym (ap lacking is) ∙ lacks in cc
    by_fence (Some fence) is =
        let turn = fence_turn digest_of w k hart positions fence is in
        ap turned_by turn.1 ∙ ap (λ o. turned_by (waiting_turn turn.0 o)) lacks

    fence_waits : Waits (hart_turn digest_of w hart positions (hart_line w hart))
    fence_waits = by_fence (fence_of w.fences hart) refl

pub waits_for_fence : (digest_of : List ℕ → List ℕ) (w : WorldData) → Kept digest_of w → w.collision ≡ None → (h : HartNo) (positions : List ℕ) (harts : HartSet)
    → (turned_by (turn_of digest_of w (Hart h) positions) ≡ turned.Blocked (wait.Acks harts)) ↔ (lacking (fence_of w.fences h.0) ≡ Some harts)
unfolding turn_of
waits_for_fence digest_of w k none h positions harts =
    let same : (if is_some w.collision then rests turned.Halted else hart_turn digest_of w h.0 positions (hart_line w h.0)) ≡ hart_turn digest_of w h.0 positions (hart_line w h.0)
    = ap (λ o. if is_some o then rests turned.Halted else hart_turn digest_of w h.0 positions (hart_line w h.0)) none in (
      λ is. hart_waits digest_of w h.0 harts positions (hart_line w h.0) (sym (ap turned_by same) ∙ is),
      λ lacks. ap turned_by same ∙ fence_waits digest_of w h.0 harts k lacks positions,
    )
