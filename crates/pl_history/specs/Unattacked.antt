-- Histories in which the attacker changed no byte, and histories without a fault.
use Rattle.std.specs.Prelude.{◌≡◌, Bool, true, false, List}
use Rattle.std.specs.List.{list_any}
use Rattle.pl_base.specs.declared.refusal.No.{No}
use Rattle.pl_base.specs.declared.refusal.No.TheVariants as refused
use Rattle.pl_base.specs.declared.state.Why.{Why}
use Rattle.pl_base.specs.declared.state.Why.TheVariants as why_is
use Rattle.pl_history.specs.declared.answer.Answer.{Answer}
use Rattle.pl_history.specs.declared.answer.Answer.TheVariants as answer_is
use Rattle.pl_history.specs.declared.answer.Entry.{Entry}

-- `wrote 1`: the attacker changed a byte
abbrev pub says_changed : Answer → Bool
says_changed (answer_is.Wrote changed pa from len) = changed
says_changed now = false

abbrev pub refuses_by_fault : No → Bool
refuses_by_fault (refused.Fault place) = true
refuses_by_fault cause = false

abbrev pub leaves_by_fault : Why → Bool
leaves_by_fault (why_is.Fault place) = true
leaves_by_fault why = false

-- the answer names a place that was found other than its parent has it
abbrev pub says_fault : Answer → Bool
says_fault (answer_is.No cause) = refuses_by_fault cause
says_fault (answer_is.Left count why) = leaves_by_fault why
says_fault now = false

-- no answer says that the attacker changed a byte
abbrev pub IsUnattacked : List Entry → Type 0
IsUnattacked entries = list_any (λ (entry : Entry). says_changed entry.answer) entries ≡ false

-- no answer is a fault
abbrev pub IsFaultless : List Entry → Type 0
IsFaultless entries = list_any (λ (entry : Entry). says_fault entry.answer) entries ≡ false
