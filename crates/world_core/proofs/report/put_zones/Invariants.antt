use Rattle.std.proofs.Common.{take, Ok}
use Rattle.std.specs.List.{flat_map}
use Rattle.pl_base.specs.declared.fault.Failed.{Failed}
use Rattle.pl_io.specs.Puts.{Puts}
use Rattle.world_core.specs.Report.{zone_text}
use Rattle.world_core.proofs.report.put_zones.Given as goal

abbrev pub invariant-loop-slot : goal.invariant-loop-slot
invariant-loop-slot g l =
    Puts {T = Unit {0}} {E = Failed} (g.K.Sink.written l.fn.sink) (g.K.Sink.written l.sink) (g.K.Sink.faults l.fn.sink) (g.K.Sink.faults l.sink) (flat_map (λ s. zone_text s.zone) (take l.slot-index l.mounted)) (Ok tt)
