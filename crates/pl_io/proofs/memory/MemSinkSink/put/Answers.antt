use Rattle.std.proofs.Common.{◌/◌, ◌++◌, length, take, arith, ap, ◌∙◌}
use Rattle.pl_io.proofs.memory.MemSinkSink.put.Goals as goal

pub returns-then-is_listed-clause-part : goal.returns-then-is_listed-clause-part
returns-then-is_listed-clause-part c =
    (length c.args.piece.now / 2, omega arith, rw c.unwrap.ensures at c.extend_from_slice.ensures.items ∙ ap (λ s. s.bytes ++ take (length c.args.piece.now / 2) c.args.piece.now) c.self.view_is)
