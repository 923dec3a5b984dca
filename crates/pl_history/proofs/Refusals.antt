-- Where a line isn't refused, none of its causes holds.
use Rattle.std.proofs.Common.{◌≡◌, Bool, true, false, not, List, ◌∷◌, Option, Some, None, option_map, refl}
use Rattle.pl_base.specs.Refusals.{first_refusal, refuse}
use Rattle.pl_base.specs.declared.refusal.No.{No}

pub first_none : (x : Option No) (later : List (Option No)) → first_refusal (x ∷ later) ≡ None → (x ≡ None) × (first_refusal later ≡ None)
first_none None later is = (refl, is)
first_none (Some cause) later is = cc

pub refuse_none : (test : Bool) (cause : No) → refuse (not test) cause ≡ None → test ≡ true
refuse_none true cause is = refl
refuse_none false cause is = cc

pub named_none : {A : Type 0} (gives : A → No) (o : Option A) → option_map gives o ≡ None → o ≡ None
named_none gives None is = refl
named_none gives (Some a) is = cc
