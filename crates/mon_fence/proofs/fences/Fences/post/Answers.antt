use Rattle.std.proofs.Common.{subst}
use Rattle.mon_fence.specs.Fences.{AreFences}
use Rattle.mon_fence.proofs.Needs.{posted_fits}
use Rattle.mon_fence.proofs.fences.Fences.post.Goals as goal

pub set-requires-clause-fits : goal.set-requires-clause-fits
set-requires-clause-fits c =
    rw (c.without-need.ensures.value, c.below.ensures.value, c.len.ensures.value, c.self.view_is) (
    posted_fits c.args.self.now c.args.h.0 c.args.space c.args.vpn c.requires.hart (subst AreFences c.self.view_is c.self.invariant))
