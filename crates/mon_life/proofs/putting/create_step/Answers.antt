use Rattle.std.proofs.Common.{Some, refl, ap, sym, ◌∙◌}
use Rattle.mem_ctl.specs.Data.{Value, Fault, Collision}
use Rattle.mem_ctl.specs.Stops.{Done}
use Rattle.mon_life.specs.Putting.{enclaves_after}
use Rattle.mon_life.proofs.PutLemmas.{step_from_put}
use Rattle.mon_life.proofs.putting.create_step.Goals as goal

pub returns-in-Ok-clause-step : goal.returns-in-Ok-clause-step
returns-in-Ok-clause-step g c =
    step_from_put _ _ _ _ _ _ _ _ _ _ (Value c.in-Ok.field-0) _ _ _ (c.as_slice-kinds.ensures.items ∙ ap (λ x. x.pages) c.get.ensures.record_of)
    c.in-Ok.ensures.call (ap (λ b. Some (Done b)) (sym c.finish.ensures.last))
    (c.finish.ensures.enclaves ∙ ap (λ b. enclaves_after (Value b) c.args.shadow c.args.enclaves.now c.args.e.0) c.finish.ensures.last)

pub returns-in-Err-Fault-clause-step : goal.returns-in-Err-Fault-clause-step
returns-in-Err-Fault-clause-step g c =
    let ended = rw c.in-Err-Fault.field-0-is at c.in-Err-Fault.ensures in
    step_from_put _ _ _ _ _ _ _ _ _ _ (Fault c.in-Err-Fault.place) _ _ _ (c.as_slice-kinds.ensures.items ∙ ap (λ x. x.pages) c.get.ensures.record_of)
    ended.call refl c.set_state.ensures

pub returns-in-Err-Collision-clause-step : goal.returns-in-Err-Collision-clause-step
returns-in-Err-Collision-clause-step g c =
    let ended = rw c.in-Err-Collision.field-0-is at c.in-Err-Collision.ensures in
    step_from_put _ _ _ _ _ _ _ _ _ _ (Collision c.in-Err-Collision.collision.place c.in-Err-Collision.collision.held.items c.in-Err-Collision.collision.written.items) _ _ _
    (c.as_slice-kinds.ensures.items ∙ ap (λ x. x.pages) c.get.ensures.record_of) ended.call refl refl
