use Rattle.std.proofs.Common.{arith, subst}
use Rattle.mon_fence.specs.Fences.{AreFences}
use Rattle.mon_fence.proofs.Needs.{acked_fits}
use Rattle.mon_fence.proofs.fences.Fences.ack.Goals as goal

pub without-need-requires : goal.without-need-requires
without-need-requires c =
    let are : AreFences c.args.self.now = subst AreFences c.self.view_is c.self.invariant in
    omega (arith, c.requires.hart, are.few)

pub set-requires-clause-fits : goal.set-requires-clause-fits
set-requires-clause-fits c =
    rw c.without-need.ensures.value (
    acked_fits c.args.self.now c.args.h.0 c.args.requester.0 c.needing-fence.result c.needing-fence.ensures.there (subst AreFences c.self.view_is c.self.invariant) c.needing-fence.ensures.fence)
