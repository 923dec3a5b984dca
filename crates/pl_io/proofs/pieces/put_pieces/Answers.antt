use Rattle.std.proofs.Common.{sym, ◌∙◌}
use Rattle.pl_io.specs.Pieces.{piece_text}
use Rattle.pl_io.proofs.PutsLemmas.{puts_stopped}
use Rattle.pl_io.proofs.pieces.put_pieces.Goals as goal

pub returns-then-is_err : goal.returns-then-is_err
returns-then-is_err g c =
    puts_stopped piece_text _ _ _ _ _ _ c.args.pieces.now c.loop-piece.piece-index _ tt (record {}) c.put_piece.result c.loop-piece-test.true c.loop-piece.invariant c.put_piece.ensures
    (sym c.is_err.ensures.value ∙ c.if-is_err.true)
