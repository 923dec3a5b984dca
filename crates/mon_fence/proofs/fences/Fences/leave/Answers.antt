use Rattle.std.proofs.Common.{◌≡◌, subst}
use Rattle.mon_fence.specs.Fences.{AreFences}
use Rattle.mon_fence.proofs.Needs.{left_fits, posted_there}
use Rattle.mon_fence.proofs.fences.Fences.leave.Goals as goal

pub set-requires-clause-fits : goal.set-requires-clause-fits
set-requires-clause-fits c =
    left_fits c.args.self.now c.args.h.0 (posted_there (λ fence. fence.need.0 ≡ 0) c.args.self.now c.args.h.0 c.requires) (subst AreFences c.self.view_is c.self.invariant)
