use Rattle.std.proofs.Common.{◌≡◌, ◌≤◌, ◌+◌, ◌-◌, ◌*◌, ◌%◌, ℕ}
use Rattle.rv_pmp.specs.Decision.{PermitsEach}
use Rattle.pl_base.specs.Span.{span}
use Rattle.rv_pmp.proofs.decision.page_is_open.Given as goal

-- the pieces below `at` are let through
abbrev pub invariant-loop-at : goal.invariant-loop-at
invariant-loop-at l = record {
  above : l.start ≤ l.at;
  within : l.at ≤ l.end;
  aligned : l.at % 8 ≡ 0;
  passed : (piece : ℕ) → l.start + 8 * piece + 8 ≤ l.at → PermitsEach l.rules (span (l.start + 8 * piece) (l.start + 8 * piece + 8));
}

abbrev pub decreases-loop-at : goal.decreases-loop-at
decreases-loop-at l = l.end - l.at
