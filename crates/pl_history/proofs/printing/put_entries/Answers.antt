use Rattle.std.proofs.Common.{sym, ◌∙◌}
use Rattle.pl_io.proofs.PutsLemmas.{puts_stopped}
use Rattle.pl_history.specs.Text.{entry_text}
use Rattle.pl_history.proofs.printing.put_entries.Goals as goal

pub returns-then-is_err : goal.returns-then-is_err
returns-then-is_err g c =
    puts_stopped (entry_text c.args.harts c.args.bytes.now) _ _ _ _ _ _ c.args.entries.now c.loop-entry.entry-index _ tt (record {}) c.put_one.result c.loop-entry-test.true c.loop-entry.invariant c.put_one.ensures
    (sym c.is_err.ensures.value ∙ c.if-is_err.true)
