use Rattle.std.proofs.Common.{sym, subst}
use Rattle.std.specs.Fn.{FnReturnsAt}
use Rattle.world_events.specs.declared.dues.Due.{Due}
use Rattle.world_core.specs.Steps.{say_turn}
use Rattle.world_events.specs.Turns.{IsTurn}
use Rattle.world_core.proofs.steps.say.Goals as goal

pub returns-in-After-clause-turn : goal.returns-in-After-clause-turn
returns-in-After-clause-turn g c =
    let w = c.args.machine.now in
    subst (λ (due : Due). IsTurn (FnReturnsAt g.F.Fn w.1) (λ positions. say_turn w.0 c.args.hart.0 due) c.wait.result w.0 c.wait.new.machine.0) (sym c.in-After.is) c.wait.ensures.turn
