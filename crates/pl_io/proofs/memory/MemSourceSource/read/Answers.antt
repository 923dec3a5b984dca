use Rattle.std.proofs.Common.{sym, ap, ◌∙◌}
use Rattle.pl_io.proofs.Fronts.{front_read}
use Rattle.pl_io.proofs.memory.MemSourceSource.read.Goals as goal

pub returns-clause-bytes : goal.returns-clause-bytes
returns-clause-bytes c =
    let taken = front_read c.deref-2.result.now c.self.inside.bytes.items c.args.into.now c.copy_front-count.new.to c.self.inside.at c.copy_front-count.result
    c.deref-2.ensures.value c.copy_front-count.ensures.count c.copy_front-count.ensures.copied in
    (sym (ap (λ s. s.left) c.self.view_is) ∙ taken.0, taken.1)
