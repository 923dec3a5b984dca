use Rattle.std.proofs.Common.{take, Ok}
use Rattle.pl_io.specs.Puts.{Puts}
use Rattle.pl_io.specs.Pieces.{pieces_text}
use Rattle.pl_base.specs.declared.fault.Failed.{Failed}
use Rattle.pl_io.proofs.pieces.put_pieces.Given as goal

abbrev pub invariant-loop-piece : goal.invariant-loop-piece
invariant-loop-piece g l =
    Puts {T = Unit {0}} {E = Failed} (g.K.Sink.written l.fn.sink) (g.K.Sink.written l.sink) (g.K.Sink.faults l.fn.sink) (g.K.Sink.faults l.sink) (pieces_text (take l.piece-index l.pieces)) (Ok tt)
