use Rattle.std.proofs.Common.{◌≡◌, ℕ, List, ◌++◌, length}
use Rattle.std.specs.Io.KnownBytes.{Appends}
use Rattle.pl_io.proofs.edge.StdSinkSink.put.Given as goal

abbrev pub invariant-loop-rest : goal.invariant-loop-rest
invariant-loop-rest g l =
    record {
      quiet : l.self-inside.faults ≡ l.initial.self-inside.faults;
      part : (front : List ℕ) × (Appends (g.W.Write.contents l.initial.self-inside.to) (g.W.Write.contents l.self-inside.to) front) × (front ++ l.rest ≡ l.initial.rest);
    }

abbrev pub decreases-loop-rest : goal.decreases-loop-rest
decreases-loop-rest g l = length l.rest
