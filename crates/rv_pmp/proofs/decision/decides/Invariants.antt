use Rattle.std.proofs.Common.{◌≡◌, ◌<◌, ◌^◌, drop}
use Rattle.rv_pmp.specs.Pmp.{permits_after}
use Rattle.rv_pmp.proofs.decision.decides.Given as goal

-- the rules that are left decide as all of them do
abbrev pub invariant-loop-rule : goal.invariant-loop-rule
invariant-loop-rule l = record {
  before_fits : l.before < 2 ^ 54;
  decision : permits_after l.before (drop l.rule-index l.rules) l.access l.kind ≡ permits_after 0 l.rules l.access l.kind;
}
