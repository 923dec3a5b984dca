use Rattle.std.proofs.Common.{subst, sym}
use Rattle.world_machine.specs.Reached.{Reached}
use Rattle.world_core.proofs.OpeningLemmas.{opened_reached}
use Rattle.world_core.proofs.world.World.new.Goals as goal

pub invariant_of-result : goal.invariant_of-result
invariant_of-result g c =
    let d = g.D.Digester.digest_of in
    subst (λ v. Reached d v.0) (sym (c.in_ok-machine.ensures {u = tt}))
    (opened_reached d c.args.setup (record { rules = c.parts-rules.ensures.rules; bytes = c.numbers_fit.ensures.bytes; lines_fit = c.numbers_fit.ensures.lines }))
