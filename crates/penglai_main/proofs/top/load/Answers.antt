use Rattle.std.proofs.Common.{◌≡◌, subst}
use Rattle.std.specs.Prelude.{IfOk}
use Rattle.std.specs.Fn.{FnReturnsAt}
use Rattle.sha2.specs.Sha256.{sha256}
use Rattle.pl_history.specs.declared.setup.SetupParts.{SetupParts}
use Rattle.world_setup.specs.Generating.{generated}
use Rattle.penglai_main.specs.declared.solo.Printed.TheVariants as printed_is
use Rattle.penglai_main.specs.Ends.{ends}
use Rattle.penglai_main.specs.Play.{RunEnds}
use Rattle.penglai_main.proofs.top.load.Goals as goal

pub returns-clause-ends : goal.returns-clause-ends
returns-clause-ends g c =
    let made : c.in-Ok.setup ≡ generated c.args.n = subst (λ r. IfOk r (λ (s : SetupParts). s ≡ generated c.args.n)) c.in-Ok.is c.generate.ensures in
    subst (λ (s : SetupParts). RunEnds sha256 (FnReturnsAt g.F.Fn c.args.oldest) s printed_is.Summary (ends g.K.Sink.written g.K.Sink.faults c.args.sink.now c.run_and_print.new.sink) c.run_and_print.result) made c.run_and_print.ensures.ends
