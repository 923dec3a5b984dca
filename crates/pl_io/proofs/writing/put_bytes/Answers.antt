use Rattle.std.proofs.Common.{sym, ◌∙◌}
use Rattle.pl_io.specs.Numbers.{byte_text}
use Rattle.pl_io.proofs.PutsLemmas.{puts_stopped}
use Rattle.pl_io.proofs.writing.put_bytes.Goals as goal

pub returns-then-is_err : goal.returns-then-is_err
returns-then-is_err g c =
    puts_stopped byte_text _ _ _ _ _ _ c.args.bytes.now c.loop-byte.byte-index _ tt (record {}) c.put_byte.result c.loop-byte-test.true c.loop-byte.invariant c.put_byte.ensures
    (sym c.is_err.ensures.value ∙ c.if-is_err.true)
