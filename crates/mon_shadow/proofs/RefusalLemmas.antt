-- What follows where no cause refuses a line.
use Rattle.std.proofs.Common.{◌≡◌, Bool, true, false, None, refl}
use Rattle.pl_base.specs.declared.refusal.No.{No}
use Rattle.pl_base.specs.Refusals.{refuse}

-- a test that refuses nothing fails
pub let_through : (holds : Bool) (cause : No) → refuse holds cause ≡ None → holds ≡ false
let_through true cause none = cc
let_through false cause none = refl
