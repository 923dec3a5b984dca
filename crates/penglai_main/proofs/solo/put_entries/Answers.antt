use Rattle.std.proofs.Common.{◌≡◌, ℕ, ap, ◌∙◌, subst}
use Rattle.pl_base.specs.declared.fault.Failed.{Failed}
use Rattle.pl_history.specs.declared.setup.SetupParts.{SetupParts}
use Rattle.pl_history.specs.History.{HistoryData}
use Rattle.pl_history.specs.Summary.{summary_text}
use Rattle.pl_history.specs.Text.{text_of}
use Rattle.pl_io.specs.Puts.{Puts}
use Rattle.penglai_main.proofs.solo.put_entries.Goals as goal

pub returns-in-History : goal.returns-in-History
returns-in-History g c =
    let w = c.args.world.now.0 in
    let harts : c.parts.result.now.harts ≡ w.setup.harts = ap (λ (p : SetupParts). p.harts) (c.parts.ensures.parts ∙ c.setup.ensures) in
    let puts : ℕ → HistoryData → Type 0 = λ n history. Puts {T = Unit {0}} {E = Failed} (g.K.Sink.written c.args.sink.now) (g.K.Sink.written c.put_history.new.sink) (g.K.Sink.faults c.args.sink.now) (g.K.Sink.faults c.put_history.new.sink) (text_of n history) c.put_history.result in
    rw c.in-History.is (subst (λ n. puts n w.history) harts (subst (puts c.parts.result.now.harts) c.history.ensures.history c.put_history.ensures))

pub returns-in-Summary : goal.returns-in-Summary
returns-in-Summary g c =
    let w = c.args.world.now.0 in
    let puts : HistoryData → Type 0 = λ history. Puts {T = Unit {0}} {E = Failed} (g.K.Sink.written c.args.sink.now) (g.K.Sink.written c.put_summary.new.sink) (g.K.Sink.faults c.args.sink.now) (g.K.Sink.faults c.put_summary.new.sink) (summary_text history.entries) c.put_summary.result in
    rw c.in-Summary.is (subst puts c.history-in-Summary.ensures.history c.put_summary.ensures)
