use Rattle.std.proofs.Common.{sym, ◌∙◌, subst}
use Rattle.std.specs.Prelude.{IfSome}
use Rattle.pl_base.specs.declared.fault.Failed.{Failed}
use Rattle.pl_io.specs.Puts.{Puts}
use Rattle.pl_io.proofs.PutsLemmas.{puts_first_failed, puts_second}
use Rattle.world_core.specs.Report.{world_report}
use Rattle.world_machine.specs.declared.turned.Finished.{Finished}
use Rattle.penglai_main.specs.Play.{history_text}
use Rattle.penglai_main.proofs.solo.put_run.Goals as goal

pub returns-then-is_err : goal.returns-then-is_err
returns-then-is_err g c =
    let w = c.args.world.now.0 in
    puts_first_failed _ _ _ _ (history_text c.args.printed w) (world_report w c.args.end) (record {}) c.put_entries.result c.put_entries.ensures (sym c.is_err.ensures.value ∙ c.if-is_err.true)

pub returns : goal.returns
returns g c =
    let w = c.args.world.now.0 in
    let second : Finished → Type 0 = λ end. Puts {T = Unit {0}} {E = Failed} (g.K.Sink.written c.put_entries.new.sink) (g.K.Sink.written c.put_report.new.sink) (g.K.Sink.faults c.put_entries.new.sink) (g.K.Sink.faults c.put_report.new.sink) (world_report w end) c.put_report.result in
    puts_second _ _ _ _ _ _ (history_text c.args.printed w) (world_report w c.args.end) c.put_entries.result _ c.put_entries.ensures (sym c.is_err.ensures.value ∙ c.if-is_err.false)
    (subst (λ o. IfSome o second) c.requires c.put_report.ensures)
