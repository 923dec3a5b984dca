-- What a rule that names the slot to evict answers.
use Rattle.std.specs.Prelude.{ℕ, ◌<◌, ◌≤◌, List, length, slice_index_or}
use Rattle.std.specs.Fn.{Shared}
use denote.Ref.{Bor}
use Rattle.mem_slots.specs.declared.slot_use.SlotUse.{SlotUse}

-- on each list of 1 to 64 slots the closure may be called, and answers a position in the list
pub record NamesPosition {F : Type 0} (calls : Shared F (Bor (List SlotUse) × Unit {0}) ℕ) (rule : F) : Type 0 where
  pub callable : (slots : Bor (List SlotUse)) → 0 < length slots.now → length slots.now ≤ 64 → calls.pre rule (slots, tt)
  pub in_list : (slots : Bor (List SlotUse)) (position : ℕ) → 0 < length slots.now → length slots.now ≤ 64 → calls.post rule (slots, tt) position → position < length slots.now

-- the uses of the slot at a position
abbrev pub uses_at : List SlotUse → ℕ → ℕ
uses_at slots k = (slice_index_or slots k (record { zone = 0; uses = 0 })).uses
