-- Waiting for another actor: `after`, of a hart and of the attacker.
use Rattle.std.specs.Prelude.{◌≤◌, ℕ, Bool, false}
use Rattle.pl_history.specs.declared.answer.Answer.{Answer}
use Rattle.pl_history.specs.declared.answer.Answer.TheVariants as answer_is
use Rattle.pl_history.specs.Monitor.{Monitor}

-- done once that actor has answered so many lines
abbrev pub AllowedAfter : Monitor → ℕ → ℕ → Bool → Answer → Type 0
AllowedAfter s actor count false answer_is.Ok = count ≤ (s.progress actor).answered
AllowedAfter s actor count begun now = ⊥
