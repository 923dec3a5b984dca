-- The first of several causes to refuse a line.
use Rattle.std.specs.Prelude.{Bool, true, false, List, [], ◌∷◌, Option, Some, None}
use Rattle.pl_base.specs.declared.refusal.No.{No}

-- the cause, where this test holds
abbrev pub refuse : Bool → No → Option No
refuse true cause = Some cause
refuse false cause = None

-- the causes are tried in order
abbrev pub first_refusal : List (Option No) → Option No
first_refusal [] = None
first_refusal (Some cause ∷ later) = Some cause
first_refusal (None ∷ later) = first_refusal later
