-- What is known on the way to the decision on a page.
use Rattle.std.specs.Prelude.{ℕ, ◌+◌, ◌*◌, ◌<◌, IsTrue, IsFalse, List}
use Rattle.pl_base.specs.declared.access.Kind.{Kind}
use Rattle.rv_pmp.specs.Pmp.{permits_after}
use Rattle.pl_base.specs.Span.{span, overlaps, covers}
use Rattle.rv_pmp.specs.declared.rule.Rule.{Rule}
use Rattle.pl_base.specs.declared.span.Span.{Span}

-- an access is let through for all three kinds
abbrev pub PermitsEach : List Rule → Span → Type 0
PermitsEach rules access = (kind : Kind) → IsTrue (permits_after 0 rules access kind)

-- every aligned eight-byte piece of the 4,096 bytes from `start` on is let through for all three kinds
abbrev pub PiecesOpen : List Rule → ℕ → Type 0
PiecesOpen rules start = (piece : ℕ) → piece < 512 → PermitsEach rules (span (start + 8 * piece) (start + 8 * piece + 8))

-- every access inside the range is let through
abbrev pub IsOpen : List Rule → Span → Type 0
IsOpen rules within = (access : Span) → access.start < access.stop → IsTrue (covers within access) → PermitsEach rules access

-- the range has no address from one up to another
abbrev pub LeavesFree : Span → ℕ → ℕ → Type 0
LeavesFree range start stop =
    (access : Span) → access.start < access.stop → IsTrue (covers (span start stop) access) → IsFalse (overlaps range access)
