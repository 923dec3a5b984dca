use Rattle.std.proofs.Common.{◌≡◌, ◌<◌, ◌≤◌, ℕ, length}
use Rattle.mem_slots.specs.Choices.{uses_at}
use Rattle.mem_slots.proofs.choice.fewest_uses.Given as goal

abbrev pub invariant-loop-i : goal.invariant-loop-i
invariant-loop-i l = record {
  in_list : l.best < length l.slots;
  least : l.least ≡ uses_at l.slots l.best;
  below : (k : ℕ) → k < l.i → l.least ≤ uses_at l.slots k;
  before : (k : ℕ) → k < l.best → l.least < uses_at l.slots k;
}
