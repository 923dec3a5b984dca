use Rattle.std.proofs.Common.{ℕ, ◌+◌, ◌-◌, ◌<◌, Bool, ◌&&◌, ap, sym, ◌∙◌, arith}
use Rattle.std.specs.List.{list_all, range_with_len}
use Rattle.world_core.specs.Over.{is_done}
use Rattle.world_core.proofs.OverLemmas.{one_passed}
use Rattle.world_core.proofs.over.all_answered.Goals as goal

pub loop-actor-preserved : goal.loop-actor-preserved
loop-actor-preserved g c =
    let p : ℕ → Bool = is_done c.args.machine.now.0 in
    let actors : ℕ = c.args.machine.now.0.setup.harts + 1 in
    let at : ℕ = c.loop-actor.actor in
    let below : at < actors = omega (arith, c.loop-actor-test.true, c.attacker-actors.ensures) in
    c.loop-actor.invariant ∙ one_passed p at actors below ∙ ap (λ (b : Bool). b && list_all p (range_with_len (at + 1) (actors - (at + 1)))) (sym (c.if-not-is_done.ensures {u = tt}))
