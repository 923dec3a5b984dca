use Rattle.std.proofs.Common.{subst}
use Rattle.std.specs.Fn.{FnReturnsAt}
use Rattle.world_machine.specs.Runs.{Finishes}
use Rattle.world_machine.proofs.Stepping.{plays}
use Rattle.penglai_main.proofs.solo.run_out.Goals as goal

pub returns-clause-plays : goal.returns-clause-plays
returns-clause-plays g c =
    let d = g.D.Digester.digest_of in
    let old = c.args.world.now.0 in
    let mid = c.take_ordered_turns.new.world.0 in
    let new = c.finish.new.self.0 in
    plays d (FnReturnsAt g.F.Fn c.args.world.now.1) old mid new c.finish.result c.take_ordered_turns.ensures.ran
    (subst (λ rule. Finishes d (FnReturnsAt g.F.Fn rule) mid new c.finish.result) c.take_ordered_turns.ensures.choice c.finish.ensures.finishes)
