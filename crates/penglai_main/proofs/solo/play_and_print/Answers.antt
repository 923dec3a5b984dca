use Rattle.std.specs.Fn.{FnReturnsAt}
use Rattle.penglai_main.proofs.SoloLemmas.{is_run, played_part, played_whole}
use Rattle.penglai_main.proofs.solo.play_and_print.Goals as goal

pub returns-in-Ok-clause-played : goal.returns-in-Ok-clause-played
returns-in-Ok-clause-played g c =
    let d = g.D.Digester.digest_of in
    let old = c.args.world.now.0 in
    let w = c.run_out-end.new.world.0 in
    let gives = FnReturnsAt g.F.Fn c.args.world.now.1 in
    played_whole d gives old.setup c.args.printed w c.run_out-end.result (g.K.Sink.written c.args.sink.now) (g.K.Sink.written c.put_run.new.sink) (g.K.Sink.faults c.args.sink.now) (g.K.Sink.faults c.put_run.new.sink)
    c.put_run.result (is_run d g.met.D.Digester.digest_length gives old w c.run_out-end.result c.requires.opening c.stands.ensures.reached c.run_out-end.ensures.plays) c.put_run.ensures
    c.in-Ok.field-0 c.status_of.result c.in-Ok.is c.status_of.ensures

pub returns-in-Err-clause-played : goal.returns-in-Err-clause-played
returns-in-Err-clause-played g c =
    let d = g.D.Digester.digest_of in
    let old = c.args.world.now.0 in
    let w = c.run_out-end.new.world.0 in
    let gives = FnReturnsAt g.F.Fn c.args.world.now.1 in
    played_part d gives old.setup c.args.printed w c.run_out-end.result (g.K.Sink.written c.args.sink.now) (g.K.Sink.written c.put_run.new.sink) (g.K.Sink.faults c.args.sink.now) (g.K.Sink.faults c.put_run.new.sink)
    c.put_run.result (is_run d g.met.D.Digester.digest_length gives old w c.run_out-end.result c.requires.opening c.stands.ensures.reached c.run_out-end.ensures.plays) c.put_run.ensures
    c.in-Err.field-0 c.in-Err.is
