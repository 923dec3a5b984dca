use Rattle.std.proofs.Common.{ap}
use Rattle.std.specs.Fn.{FnReturnsAt}
use Rattle.world_core.proofs.TurnLemmas.{rests_still, step_moved, step_rested}
use Rattle.world_core.proofs.turns.turn.Goals as goal

pub returns-in-Moved-clause-step : goal.returns-in-Moved-clause-step
returns-in-Moved-clause-step g c =
    let w = c.args.machine.now in
    let mid = c.uncounted-turned.new.machine in
    step_moved g.D.Digester.digest_of (FnReturnsAt g.F.Fn w.1) w.0 mid.0 c.count_move.new.self.0 c.args.actor c.requires.actor c.uncounted-turned.result c.uncounted-turned.ensures.turn c.in-Moved.is
    (ap (λ v. v.0) c.count_move.ensures)

pub returns-in_default : goal.returns-in_default
returns-in_default g c =
    let w = c.args.machine.now in
    let mid = c.uncounted-turned.new.machine in
    let gives = FnReturnsAt g.F.Fn w.1 in
    let turn = c.uncounted-turned.ensures.turn in
    let still = rests_still g.D.Digester.digest_of gives w.0 mid.0 mid.0 c.args.actor c.requires.actor c.uncounted-turned.result turn c.in_default.not-Moved in
    record {
      step = step_rested g.D.Digester.digest_of gives w.0 mid.0 mid.0 c.args.actor c.requires.actor c.uncounted-turned.result turn c.in_default.not-Moved;
      turned = turn.says;
      still = λ other. λ i. (still i, c.uncounted-turned.ensures.choice i);
      choice = c.uncounted-turned.ensures.choice;
    }
