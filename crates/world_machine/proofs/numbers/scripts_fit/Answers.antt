use Rattle.std.proofs.Common.{◌∙◌, List, subst}
use Rattle.std.proofs.lemmas.List.{take_all}
use Rattle.std.proofs.lemmas.List.Elements.{All-more}
use Rattle.pl_history.specs.declared.line.Line.{Line}
use Rattle.world_machine.specs.LineNumbers.{LinesFit, ScriptsFit}
use Rattle.world_machine.proofs.numbers.scripts_fit.Goals as goal

pub loop-lines-preserved : goal.loop-lines-preserved
loop-lines-preserved c =
    All-more (λ (lines : List Line). LinesFit lines) c.args.scripts.now c.loop-lines.lines-index c.lines-item.result c.loop-lines-test.true c.loop-lines.invariant
    (subst LinesFit (c.as_slice.ensures ∙ c.lines-item.is) c.lines_fit.ensures)

pub returns : goal.returns
returns c = subst ScriptsFit (take_all c.loop-lines.lines-index c.args.scripts.now c.loop-lines-test.false) c.loop-lines.invariant
