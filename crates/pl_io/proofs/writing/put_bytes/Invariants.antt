use Rattle.std.proofs.Common.{take, Ok}
use Rattle.pl_io.specs.Puts.{Puts}
use Rattle.pl_io.specs.Numbers.{bytes_text}
use Rattle.pl_base.specs.declared.fault.Failed.{Failed}
use Rattle.pl_io.proofs.writing.put_bytes.Given as goal

abbrev pub invariant-loop-byte : goal.invariant-loop-byte
invariant-loop-byte g l =
    Puts {T = Unit {0}} {E = Failed} (g.K.Sink.written l.fn.sink) (g.K.Sink.written l.sink) (g.K.Sink.faults l.fn.sink) (g.K.Sink.faults l.sink) (bytes_text (take l.byte-index l.bytes)) (Ok tt)
