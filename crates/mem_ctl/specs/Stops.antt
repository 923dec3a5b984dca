-- Why a step of the monitor stops its line, and what a step answers that goes through the trees.
use Rattle.std.specs.Prelude.{ℕ, List, Option, Some, None, Result, Ok, Err}
use Rattle.pl_base.specs.declared.place.Place.{Place}
use Rattle.pl_base.specs.declared.refusal.No.{No}
use Rattle.pl_base.specs.declared.refusal.No.TheVariants as no
use Rattle.mem_ctl.specs.declared.broken.Broken.{Broken}
use Rattle.mem_ctl.specs.declared.broken.Broken.TheVariants as broken
use Rattle.mem_ctl.specs.declared.broken.Stop.{Stop}
use Rattle.mem_ctl.specs.declared.broken.Stop.TheVariants as stop
use Rattle.mem_ctl.specs.Data.{Outcome, Value, Fault, Collision, Again}

-- a fault is a refusal of the line
abbrev pub stop_of : Broken → Stop
stop_of (broken.Fault place) = stop.No (no.Fault place)
stop_of (broken.Collision c) = stop.Collision c

-- what a step of the monitor answers: its value, a refusal of its line, or a collision
pub data StepAnswer (A : Type 0) : Type 0 where
  Done : A → StepAnswer A
  Refused : No → StepAnswer A
  Collided : Place → List ℕ → List ℕ → StepAnswer A

abbrev pub step_answer : {A : Type 0} → Result A Stop → StepAnswer A
step_answer (Ok a) = Done a
step_answer (Err (stop.No cause)) = Refused cause
step_answer (Err (stop.Collision c)) = Collided c.place c.held.items c.written.items

-- what it answers whose accesses came out so; a path that is to be asked again is no answer of a step
abbrev pub answer_to : {A : Type 0} → Outcome A → Option (StepAnswer A)
answer_to (Value a) = Some (Done a)
answer_to (Fault place) = Some (Refused (no.Fault place))
answer_to (Collision place held written) = Some (Collided place held written)
answer_to (Again taken root) = None
