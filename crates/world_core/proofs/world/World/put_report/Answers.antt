use Rattle.std.proofs.Common.{ℕ, List, sym, ◌∙◌, subst}
use Rattle.std.specs.Prelude.{IfSome}
use Rattle.pl_base.specs.declared.fault.Failed.{Failed}
use Rattle.pl_io.specs.Puts.{Puts}
use Rattle.world_machine.specs.declared.turned.Finished.{Finished}
use Rattle.world_core.specs.Report.{world_report}
use Rattle.world_core.proofs.ReportLemmas.{report_is}
use Rattle.world_core.proofs.world.World.put_report.Goals as goal

pub returns : goal.returns
returns g c =
    let w = c.args.self.now.0 in
    let Written : List ℕ → Type 0
    = λ text. Puts {T = Unit {0}} {E = Failed} (g.K.Sink.written c.args.sink.now) (g.K.Sink.written c.put_report.new.sink) (g.K.Sink.faults c.args.sink.now) (g.K.Sink.faults c.put_report.new.sink) text c.put_report.result in
    subst (λ o. IfSome o (λ (end : Finished). Written (world_report w end))) (sym c.in-Some.is ∙ c.over.ensures)
    (subst Written (report_is w c.in-Some.end c.root-root.result c.mounted.result.now _ c.root-root.ensures c.mounted.ensures.list c.collision.ensures) c.put_report.ensures)
