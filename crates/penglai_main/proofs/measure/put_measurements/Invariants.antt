use Rattle.std.proofs.Common.{take, Ok}
use Rattle.pl_base.specs.declared.fault.Failed.{Failed}
use Rattle.pl_io.specs.Puts.{Puts}
use Rattle.penglai_main.specs.Measure.{measurements_text}
use Rattle.penglai_main.proofs.measure.put_measurements.Given as goal

abbrev pub invariant-loop-number : goal.invariant-loop-number
invariant-loop-number g l =
    Puts {T = Unit {0}} {E = Failed} (g.K.Sink.written l.fn.sink) (g.K.Sink.written l.sink) (g.K.Sink.faults l.fn.sink) (g.K.Sink.faults l.sink) (measurements_text (take l.number l.images)) (Ok tt)
