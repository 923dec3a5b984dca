use Rattle.rv_alone.proofs.Accesses.{access_of}
use Rattle.rv_alone.proofs.step.next.Goals as goal

pub returns-in-Some-clause-access : goal.returns-in-Some-clause-access
returns-in-Some-clause-access c = rw c.effect.ensures (access_of c.args.context.now c.in-Some.insn c.in-Some.ensures.well_formed)
