use Rattle.std.proofs.Common.{take, Ok}
use Rattle.std.specs.List.{flat_map}
use Rattle.pl_base.specs.declared.fault.Failed.{Failed}
use Rattle.pl_io.specs.Puts.{Puts}
use Rattle.pl_history.specs.Text.{entry_text}
use Rattle.pl_history.proofs.printing.put_entries.Given as goal

abbrev pub invariant-loop-entry : goal.invariant-loop-entry
invariant-loop-entry g l =
    Puts {T = Unit {0}} {E = Failed} (g.K.Sink.written l.fn.sink) (g.K.Sink.written l.sink) (g.K.Sink.faults l.fn.sink) (g.K.Sink.faults l.sink) (flat_map (entry_text l.harts l.bytes) (take l.entry-index l.entries)) (Ok tt)
