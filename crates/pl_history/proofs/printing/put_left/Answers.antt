use Rattle.std.proofs.Common.{sym, ◌∙◌}
use Rattle.pl_io.proofs.PutsLemmas.{puts_second, puts_first_failed}
use Rattle.pl_history.specs.Text.{left_text, why_text}
use Rattle.pl_history.proofs.printing.put_left.Goals as goal

pub returns-then-is_err : goal.returns-then-is_err
returns-then-is_err g c = puts_first_failed _ _ _ _ (left_text c.args.count) (why_text c.args.why.now) (record {}) c.put_count.result c.put_count.ensures (sym c.is_err.ensures.value ∙ c.if-is_err.true)

pub returns : goal.returns
returns g c = puts_second _ _ _ _ _ _ (left_text c.args.count) (why_text c.args.why.now) c.put_count.result _ c.put_count.ensures (sym c.is_err.ensures.value ∙ c.if-is_err.false) c.put_why.ensures
