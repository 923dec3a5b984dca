use Rattle.std.proofs.Common.{subst}
use Rattle.std.proofs.lemmas.List.{take_all}
use Rattle.std.proofs.lemmas.List.Elements.{All-more}
use Rattle.world_machine.specs.LineNumbers.{NumbersFit, LinesFit}
use Rattle.world_machine.proofs.numbers.lines_fit.Goals as goal

pub loop-line-preserved : goal.loop-line-preserved
loop-line-preserved c =
    All-more NumbersFit c.args.lines.now c.loop-line.line-index c.line-item.result c.loop-line-test.true c.loop-line.invariant (subst NumbersFit c.line-item.is c.line_fits.ensures)

pub returns : goal.returns
returns c = subst LinesFit (take_all c.loop-line.line-index c.args.lines.now c.loop-line-test.false) c.loop-line.invariant
