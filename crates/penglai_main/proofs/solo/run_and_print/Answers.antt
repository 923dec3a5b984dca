use Rattle.std.proofs.Common.{◌≡◌, ap, sym, ◌∙◌, subst}
use Rattle.std.specs.Prelude.{IfOk}
use Rattle.std.specs.Fn.{FnReturnsAt}
use Rattle.pl_history.specs.declared.setup.SetupParts.{SetupParts}
use Rattle.world_machine.specs.Reached.{opening_world}
use Rattle.world_machine.specs.Worlds.{WorldData}
use Rattle.penglai_main.specs.Ends.{ends}
use Rattle.penglai_main.specs.Play.{PlayedTo}
use Rattle.penglai_main.proofs.SoloLemmas.{opening_setup, run_ends}
use Rattle.penglai_main.proofs.solo.run_and_print.Goals as goal

pub play_and_print-requires-clause-opening : goal.play_and_print-requires-clause-opening
play_and_print-requires-clause-opening g c =
    let d = g.D.Digester.digest_of in
    let made = subst (λ r. IfOk r (λ v. v ≡ (opening_world d c.args.setup, c.args.choice))) c.in-Ok.is c.new.ensures in
    let is : c.in-Ok.world.0 ≡ opening_world d c.args.setup = ap (λ v. v.0) made in
    let setup : c.in-Ok.world.0.setup ≡ c.args.setup = ap (λ (w : WorldData). w.setup) is ∙ opening_setup d c.args.setup in
    is ∙ ap (opening_world d) (sym setup)

pub returns-clause-ends : goal.returns-clause-ends
returns-clause-ends g c =
    let d = g.D.Digester.digest_of in
    let sink = ends g.K.Sink.written g.K.Sink.faults c.args.sink.now c.play_and_print.new.sink in
    let w = c.play_and_print.new.world.0 in
    let made = subst (λ r. IfOk r (λ v. v ≡ (opening_world d c.args.setup, c.args.choice))) c.in-Ok.is c.new.ensures in
    let setup : c.in-Ok.world.0.setup ≡ c.args.setup = ap (λ v. v.0.setup) made ∙ opening_setup d c.args.setup in
    let rule : c.in-Ok.world.1 ≡ c.args.choice = ap (λ v. v.1) made in
    run_ends d (FnReturnsAt g.F.Fn c.args.choice) c.args.setup c.args.printed w sink c.play_and_print.result
    (subst (λ (p : SetupParts). PlayedTo d (FnReturnsAt g.F.Fn c.args.choice) p c.args.printed w sink c.play_and_print.result) setup
    (subst (λ f. PlayedTo d (FnReturnsAt g.F.Fn f) c.in-Ok.world.0.setup c.args.printed w sink c.play_and_print.result) rule c.play_and_print.ensures.played))
