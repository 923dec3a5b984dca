-- Acknowledgements: how far a line is, by the line without its pages, and the turn by the requester that is owed.
use Rattle.std.proofs.Common.{◌≡◌, ℕ, List, [], Option, Some, None, option_map, refl, ap, sym, subst}
use Rattle.pl_base.specs.declared.number.HartNo.{HartNo}
use Rattle.pl_base.specs.declared.number.Space.{Space}
use Rattle.mem_slots.specs.declared.slot_use.SlotUse.{SlotUse}
use Rattle.mon_fence.specs.Fences.{fence_of}
use Rattle.pl_history.specs.declared.line.Line.{Line}
use Rattle.pl_history.specs.declared.line.Line.TheVariants as line_is
use Rattle.world_machine.specs.declared.turned.Turned.TheVariants as turned
use Rattle.world_machine.specs.declared.under.Under.{Under}
use Rattle.world_machine.specs.declared.under.Under.TheVariants.{Idle, Seeking, Removing, Destroying, Putting, Running, Breaking}
use Rattle.world_machine.specs.Acknowledging.{acknowledged, owed, restarted}
use Rattle.world_machine.specs.Steps as step
use Rattle.world_machine.specs.Worlds.{WorldData}
use Rattle.world_events.specs.Turns.{IsTurn}
use Rattle.world_events.specs.Acknowledging.{restarted_due}
use Rattle.world_events.specs.Dues.{due_of}

-- a fence is acknowledged
pub restarted-line : (space : Space) (line : Option Line) (under : Under) → restarted_due space (due_of line) under ≡ restarted space line under
restarted-line space (Some (line_is.Run e budget)) Idle = refl
restarted-line space (Some (line_is.Run e budget)) (Seeking walk) = refl
restarted-line space (Some (line_is.Run e budget)) (Removing page) = refl
restarted-line space (Some (line_is.Run e budget)) Destroying = refl
restarted-line space (Some (line_is.Run e budget)) (Putting done) = refl
restarted-line space (Some (line_is.Run e budget)) (Running micro count) = refl
restarted-line space (Some (line_is.Run e budget)) (Breaking count index) = refl
restarted-line space (Some (line_is.Resume e budget)) Idle = refl
restarted-line space (Some (line_is.Resume e budget)) (Seeking walk) = refl
restarted-line space (Some (line_is.Resume e budget)) (Removing page) = refl
restarted-line space (Some (line_is.Resume e budget)) Destroying = refl
restarted-line space (Some (line_is.Resume e budget)) (Putting done) = refl
restarted-line space (Some (line_is.Resume e budget)) (Running micro count) = refl
restarted-line space (Some (line_is.Resume e budget)) (Breaking count index) = refl
restarted-line space (Some line) Idle = refl
restarted-line space (Some line) (Seeking walk) = refl
restarted-line space (Some line) (Removing page) = refl
restarted-line space (Some line) Destroying = refl
restarted-line space (Some line) (Putting done) = refl
restarted-line space (Some line) (Running micro count) = refl
restarted-line space (Some line) (Breaking count index) = refl
restarted-line space None Idle = refl
restarted-line space None (Seeking walk) = refl
restarted-line space None (Removing page) = refl
restarted-line space None Destroying = refl
restarted-line space None (Putting done) = refl
restarted-line space None (Running micro count) = refl
restarted-line space None (Breaking count index) = refl

owed_named : (requester : Option ℕ) (h : HartNo) → Some h ≡ option_map (λ (n : ℕ). record { 0 = n }) requester → requester ≡ Some h.0
owed_named None h is = cc
owed_named (Some n) h is = let same : h ≡ record { 0 = n } = cc in ap (λ (x : HartNo). Some x.0) (sym same)

owed_none : (requester : Option ℕ) (given : Option HartNo) → given ≡ None → given ≡ option_map (λ (n : ℕ). record { 0 = n }) requester → requester ≡ None
owed_none None given none is = refl
owed_none (Some n) given none is = cc

module _ (gives : List SlotUse → ℕ → Type 0) (w new : WorldData) (hart : ℕ) where
  pub ack_moved : (requester : HartNo) → Some requester ≡ option_map (λ (n : ℕ). record { 0 = n }) (owed w.fences hart) → new ≡ acknowledged w hart requester.0 (fence_of w.fences requester.0)
      → IsTurn gives (λ positions. step.ack_turn w hart (owed w.fences hart)) turned.Moved w new
  ack_moved requester is now =
      subst (λ o. IsTurn gives (λ positions. step.ack_turn w hart o) turned.Moved w new) (sym (owed_named (owed w.fences hart) requester is))
      (record { positions = []; given = tt; is = now; says = λ others. refl })

  pub ack_rested : (given : Option HartNo) → given ≡ None → given ≡ option_map (λ (n : ℕ). record { 0 = n }) (owed w.fences hart)
      → IsTurn gives (λ positions. step.ack_turn w hart (owed w.fences hart)) turned.Nothing w w
  ack_rested given none is =
      subst (λ o. IsTurn gives (λ positions. step.ack_turn w hart o) turned.Nothing w w) (sym (owed_none (owed w.fences hart) given none is))
      (record { positions = []; given = tt; is = refl; says = λ others. refl })
