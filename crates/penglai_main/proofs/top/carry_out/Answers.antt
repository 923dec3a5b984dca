use Rattle.std.specs.Fn.{FnReturnsAt}
use Rattle.penglai_main.specs.Ends.{ends}
use Rattle.penglai_main.specs.Top.{choice_gives, no_choice}
use Rattle.penglai_main.proofs.LoadLemmas.{loaded}
use Rattle.penglai_main.proofs.TopLemmas.{measures}
use Rattle.penglai_main.proofs.top.carry_out.Goals as goal

pub returns-in-Solo-clause-explains : goal.returns-in-Solo-clause-explains
returns-in-Solo-clause-explains g c = rw c.in-Solo.is c.solo.ensures.explains

pub returns-in-Measure-clause-explains : goal.returns-in-Measure-clause-explains
returns-in-Measure-clause-explains g c =
    rw c.in-Measure.is
    (measures no_choice (choice_gives (FnReturnsAt g.F.Fn c.args.oldest) (FnReturnsAt g.O.Fn c.args.least)) (ends g.S.Source.left g.S.Source.faults c.args.source.now c.measure.new.source)
    (ends g.K.Sink.written g.K.Sink.faults c.args.sink.now c.measure.new.sink) c.measure.result c.measure.ensures.explains)

pub returns-in-Generate-clause-explains : goal.returns-in-Generate-clause-explains
returns-in-Generate-clause-explains g c =
    rw c.in-Generate.is
    (loaded (choice_gives (FnReturnsAt g.F.Fn c.args.oldest) (FnReturnsAt g.O.Fn c.args.least)) c.in-Generate.n (ends g.S.Source.left g.S.Source.faults c.args.source.now c.args.source.now)
    (ends g.K.Sink.written g.K.Sink.faults c.args.sink.now c.load.new.sink) c.load.result c.load.ensures.ends)
