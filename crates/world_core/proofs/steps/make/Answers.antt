use Rattle.std.proofs.Common.{ap, subst, sym}
use Rattle.std.specs.Fn.{FnReturnsAt}
use Rattle.world_events.specs.declared.dues.Due.{Due}
use Rattle.world_events.specs.Conditions.{pages_due}
use Rattle.world_core.specs.Steps.{due_turn}
use Rattle.world_events.specs.Turns.{IsTurn}
use Rattle.world_core.proofs.TurnLemmas.{is_said, said_turn}
use Rattle.world_core.proofs.steps.make.Goals as goal

pub returns-in-Destroy-clause-turn : goal.returns-in-Destroy-clause-turn
returns-in-Destroy-clause-turn g c =
    let w = c.args.machine.now in
    subst (λ (due : Due). IsTurn (FnReturnsAt g.F.Fn w.1) (λ positions. due_turn g.D.Digester.digest_of w.0 c.args.hart.0 positions (pages_due w.0 c.args.hart.0) due c.args.under) c.destroy.result w.0 c.destroy.new.machine.0)
    (sym c.in-Destroy.is) c.destroy.ensures.turn

pub returns-in-Send-clause-turn : goal.returns-in-Send-clause-turn
returns-in-Send-clause-turn g c =
    let w = c.args.machine.now in
    said_turn (FnReturnsAt g.F.Fn w.1) g.D.Digester.digest_of w.0 c.say_idle.new.machine.0 c.args.hart.0 (pages_due w.0 c.args.hart.0) c.args.due c.args.under c.say_idle.result (ap is_said c.in-Send.is) c.say_idle.ensures.turn

pub returns-in-Take-clause-turn : goal.returns-in-Take-clause-turn
returns-in-Take-clause-turn g c =
    let w = c.args.machine.now in
    said_turn (FnReturnsAt g.F.Fn w.1) g.D.Digester.digest_of w.0 c.say_idle-in-Take.new.machine.0 c.args.hart.0 (pages_due w.0 c.args.hart.0) c.args.due c.args.under c.say_idle-in-Take.result (ap is_said c.in-Take.is) c.say_idle-in-Take.ensures.turn

pub returns-in-Grant-clause-turn : goal.returns-in-Grant-clause-turn
returns-in-Grant-clause-turn g c =
    let w = c.args.machine.now in
    said_turn (FnReturnsAt g.F.Fn w.1) g.D.Digester.digest_of w.0 c.say_idle-in-Grant.new.machine.0 c.args.hart.0 (pages_due w.0 c.args.hart.0) c.args.due c.args.under c.say_idle-in-Grant.result (ap is_said c.in-Grant.is) c.say_idle-in-Grant.ensures.turn

pub returns-in-Drop-clause-turn : goal.returns-in-Drop-clause-turn
returns-in-Drop-clause-turn g c =
    let w = c.args.machine.now in
    said_turn (FnReturnsAt g.F.Fn w.1) g.D.Digester.digest_of w.0 c.say_idle-in-Drop.new.machine.0 c.args.hart.0 (pages_due w.0 c.args.hart.0) c.args.due c.args.under c.say_idle-in-Drop.result (ap is_said c.in-Drop.is) c.say_idle-in-Drop.ensures.turn

pub returns-in-After-clause-turn : goal.returns-in-After-clause-turn
returns-in-After-clause-turn g c =
    let w = c.args.machine.now in
    said_turn (FnReturnsAt g.F.Fn w.1) g.D.Digester.digest_of w.0 c.say_idle-in-After.new.machine.0 c.args.hart.0 (pages_due w.0 c.args.hart.0) c.args.due c.args.under c.say_idle-in-After.result (ap is_said c.in-After.is) c.say_idle-in-After.ensures.turn

pub returns-in-Nothing-clause-turn : goal.returns-in-Nothing-clause-turn
returns-in-Nothing-clause-turn g c =
    let w = c.args.machine.now in
    said_turn (FnReturnsAt g.F.Fn w.1) g.D.Digester.digest_of w.0 c.say_idle-in-Nothing.new.machine.0 c.args.hart.0 (pages_due w.0 c.args.hart.0) c.args.due c.args.under c.say_idle-in-Nothing.result (ap is_said c.in-Nothing.is) c.say_idle-in-Nothing.ensures.turn
