use Rattle.std.proofs.Common.{arith, sym, ◌∙◌, subst}
use Rattle.mon_fence.specs.Fences.{AreFences}
use Rattle.mon_fence.proofs.Needs.{first_needs}
use Rattle.mon_fence.proofs.fences.Fences.owed.Goals as goal

pub overflow_cast-result : goal.overflow_cast-result
overflow_cast-result c =
    let there = first_needs c.args.self.now c.args.h.0 c.in-Some.place (sym c.first_needing.ensures ∙ c.in-Some.is) in
    let are : AreFences c.args.self.now = subst AreFences c.self.view_is c.self.invariant in
    omega (arith, there.0, are.few)

pub returns-in-Some-clause-needed : goal.returns-in-Some-clause-needed
returns-in-Some-clause-needed c = (first_needs c.args.self.now c.args.h.0 c.in-Some.place (sym c.first_needing.ensures ∙ c.in-Some.is)).1
