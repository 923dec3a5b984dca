use Rattle.std.proofs.Common.{◌≡◌, ◌<◌, ◌≤◌, ◌+◌, ◌^◌, drop, IsTrue}
use Rattle.pl_base.specs.declared.access.Kind.{Kind}
use Rattle.rv_pmp.specs.Pmp.{permits_after}
use Rattle.pl_base.specs.Span.{span, covers}
use Rattle.pl_base.specs.declared.span.Span.{Span}
use Rattle.rv_pmp.proofs.decision.open_until.Given as goal

-- the rules that are left decide, up to `free`, as all of them do
abbrev pub invariant-loop-rule : goal.invariant-loop-rule
invariant-loop-rule l = record {
  before_fits : l.before < 2 ^ 54;
  further : l.at + 8 ≤ l.free;
  within : l.free ≤ l.end;
  decision : (access : Span) (kind : Kind) → access.start < access.stop → IsTrue (covers (span l.at l.free) access)
      → permits_after l.before (drop l.rule-index l.rules) access kind ≡ permits_after 0 l.rules access kind;
}
