use Rattle.std.proofs.Common.{suc, ◌∙◌, subst}
use Rattle.std.specs.Fn.{FnReturnsAt}
use Rattle.world_machine.specs.Runs.{round_of}
use Rattle.world_machine.specs.Steps.{Ran}
use Rattle.world_machine.proofs.Stepping.{rounds_more}
use Rattle.world_core.proofs.world.World.finish.Goals as goal

pub loop-end-preserved : goal.loop-end-preserved
loop-end-preserved g c =
    let d = g.D.Digester.digest_of in
    let old = c.args.self.now.0 in
    let mid = c.loop-end.self.0 in
    let new = c.round.new.self.0 in
    let gives = FnReturnsAt g.F.Fn c.args.self.now.1 in
    let so_far = c.loop-end.invariant.0 in
    let round : Ran d gives mid (round_of mid.setup) new = subst (λ rule. Ran d (FnReturnsAt g.F.Fn rule) mid (round_of mid.setup) new) c.loop-end.invariant.1 c.round.ensures.ran in
    ((suc so_far.0, rounds_more d gives old mid new so_far.0 so_far.1 round), c.round.ensures.choice ∙ c.loop-end.invariant.1)
