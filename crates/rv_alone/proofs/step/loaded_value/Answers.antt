use Rattle.std.proofs.Common.{arith}
use Rattle.std.proofs.lemmas.Grind.{common_steps}
use Rattle.rv_alone.proofs.step.loaded_value.Goals as goal

pub returns-in-1-true : goal.returns-in-1-true
returns-in-1-true c = rw (c.in-1-true.is-0, c.in-1-true.is-1) (grind (arith, common_steps))

pub returns-in-1-false : goal.returns-in-1-false
returns-in-1-false c = rw (c.in-1-false.is-0, c.in-1-false.is-1) (grind (arith, common_steps))

pub returns-in-2-true : goal.returns-in-2-true
returns-in-2-true c = rw (c.in-2-true.is-0, c.in-2-true.is-1) (grind (arith, common_steps))

pub returns-in-2-false : goal.returns-in-2-false
returns-in-2-false c = rw (c.in-2-false.is-0, c.in-2-false.is-1) (grind (arith, common_steps))

pub returns-in-4-true : goal.returns-in-4-true
returns-in-4-true c = rw (c.in-4-true.is-0, c.in-4-true.is-1) (grind (arith, common_steps))

pub returns-in-4-false : goal.returns-in-4-false
returns-in-4-false c = rw (c.in-4-false.is-0, c.in-4-false.is-1) (grind (arith, common_steps))
