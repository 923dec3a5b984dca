use Rattle.std.proofs.Common.{◌+◌, subst}
use Rattle.rv_pmp.proofs.Pieces.{piece_of, piece_of-lt, piece_begins}
use Rattle.rv_pmp.specs.Decision.{PermitsEach}
use Rattle.pl_base.specs.Span.{span}
use Rattle.rv_pmp.proofs.decision.page_is_open.Goals as goal

pub returns-in-None : goal.returns-in-None
returns-in-None c = (
  λ impossible. cc,
  λ each. absurd (c.in-None.ensures.barred (subst (λ at. PermitsEach c.args.rules.now (span at (at + 8)))
      (piece_begins c.args.start c.loop-at.at c.requires.aligned c.loop-at.invariant.aligned c.loop-at.invariant.above)
      (each (piece_of c.args.start c.loop-at.at) (piece_of-lt c.args.start c.loop-at.at c.requires.aligned c.loop-at-test.true)))),
)
