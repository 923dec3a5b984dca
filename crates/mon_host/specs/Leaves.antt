-- An event of the host at one leaf of its tables: refused at once, or by the leaf's word, which it else replaces.
use Rattle.std.specs.Prelude.{ℕ, ◌≡◌, Bool, not, List, [], ◌∷◌, Option, Some, None, unwrap_or, Result, Ok, Err}
use Rattle.std.specs.List.{list_any}
use Rattle.pl_base.specs.Address.{vpn_of}
use Rattle.pl_base.specs.Refusals.{refuse, first_refusal}
use Rattle.pl_base.specs.declared.address.Va.{Va}
use Rattle.pl_base.specs.declared.number.Space.{Space}
use Rattle.pl_base.specs.declared.refusal.No.{No}
use Rattle.pl_base.specs.declared.refusal.No.TheVariants as no
use Rattle.mem_slots.specs.declared.slot_use.SlotUse.{SlotUse}
use Rattle.mem_ctl.specs.Calls.{read_word_of, write_part_of}
use Rattle.mem_ctl.specs.Data.{CtlData, Going, Outcome, Value, Fault, Collision, Again, After, and_then, answer, going}
use Rattle.mem_ctl.specs.Results.{AreGiven}
use Rattle.mem_ctl.specs.Stops.{StepAnswer, Done, Refused, Collided}
use Rattle.mon_fence.specs.declared.fences.Fence.{Fence}
use Rattle.mon_fence.specs.Fences.{covers}
use Rattle.mon_tables.specs.Tables.{can_be_mapped, host_slot}

-- ---- why an event is refused at once

-- the host's space
abbrev pub host_space : Space
host_space = record { 0 = 0 }

-- a removal of the address is under way: a fence is of its page in the host's space, or of that whole space
abbrev pub is_being_removed : List (Option Fence) → Va → Bool
is_being_removed fences va = list_any (covers host_space (vpn_of va)) fences

-- the address can't be mapped, or a removal of it is under way
abbrev pub early_refusal : ℕ → List (Option Fence) → Va → Option No
early_refusal tables fences va = first_refusal (refuse (not (can_be_mapped tables va)) no.BadAddress ∷ refuse (is_being_removed fences va) no.Busy ∷ [])

-- page and offset of the leaf's word, for an address that can be mapped
abbrev pub leaf_slot : ℕ → Va → ℕ × ℕ
leaf_slot tables va = unwrap_or (host_slot tables (vpn_of va).0) (0, 0)

-- ---- the leaf's word

module _ (digest_of : List ℕ → List ℕ) {A : Type 0} where
  -- another word is written, unless there is a cause to refuse that
  abbrev pub written_unless : Option No → ℕ × ℕ → ℕ → A → Going → After (Result A No)
  written_unless (Some cause) slot word value g = answer (Err cause) g
  written_unless None slot word value g = and_then (write_part_of digest_of slot.0 slot.1 8 word g) (λ _ h. answer (Ok value) h)

  -- the word at a place is read through the trees, and replaced unless it is a cause to refuse that; what is answered is by the word that
  -- was read
  unfoldable pub word_replaced : ℕ × ℕ → (ℕ → Option No) → ℕ → (ℕ → A) → Going → After (Result A No)
  word_replaced slot refusal word value g =
      and_then (read_word_of digest_of slot.0 slot.1 g) (λ old h. written_unless (refusal old) slot word (value old) h)

-- ---- the event

-- what is answered, with the controller after it, and what the event leaves of the owners or of the fences
pub record HostEvent (A S : Type 0) : Type 0 where
  pub step : After (Result A No)
  pub rest : S

-- a step, unless it is refused at once
abbrev pub step_unless : {A : Type 0} → Option No → (Going → After (Result A No)) → Going → After (Result A No)
step_unless (Some cause) step g = answer (Err cause) g
step_unless None step g = step g

-- what is so after a step that was done, and was so before
abbrev pub if_done : {A : Type 0} → {S : Type 0} → Outcome (Result A No) → S → S → S
if_done (Value (Ok value)) done before = done
if_done (Value (Err cause)) done before = before
if_done (Fault place) done before = before
if_done (Collision place held written) done before = before
if_done (Again taken root) done before = before

abbrev pub event_by : {A : Type 0} → {S : Type 0} → After (Result A No) → S → S → HostEvent A S
event_by step done before = record { step = step; rest = if_done step.outcome done before }

-- what the event answers; a fault is a refusal of the line
abbrev pub host_answer : {A : Type 0} → Outcome (Result A No) → Option (StepAnswer A)
host_answer (Value (Ok value)) = Some (Done value)
host_answer (Value (Err cause)) = Some (Refused cause)
host_answer (Fault place) = Some (Refused (no.Fault place))
host_answer (Collision place held written) = Some (Collided place held written)
host_answer (Again taken root) = None

-- what was answered, and the controller and the rest after it, are those of the event, with positions that the choice answers on the slots
-- that it is shown
pub record IsHostEvent {A : Type 0} {S : Type 0} (gives : List SlotUse → ℕ → Type 0) (event : Going → HostEvent A S) (old : CtlData) (answered : StepAnswer A) (new : CtlData) (rest_after : S) : Type 0 where
  pub positions : List ℕ
  pub given : AreGiven gives (event (going old positions)).step.after.shown positions
  pub is : host_answer (event (going old positions)).step.outcome ≡ Some answered
  pub now : new ≡ (event (going old positions)).step.after.ctl
  pub rest_is : rest_after ≡ (event (going old positions)).rest
