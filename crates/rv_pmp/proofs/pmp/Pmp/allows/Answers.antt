use Rattle.std.proofs.Common.{◌+◌, ◌^◌, ◌≤◌, sym, arith}
use Rattle.rv_pmp.proofs.Deciding.{permits_after_far}
use Rattle.pl_base.specs.Span.{span}
use Rattle.rv_pmp.proofs.pmp.Pmp.allows.Goals as goal

pub returns-in-None : goal.returns-in-None
returns-in-None c =
    let far : 2 ^ 59 ≤ c.args.pa.0 = omega (arith, c.in-None.ensures) in
    rw (← c.self.view_is) (sym (permits_after_far 0 c.self.inside.rules (span c.args.pa.0 (c.args.pa.0 + c.args.width)) c.args.kind (omega arith) c.self.invariant far))
