use Rattle.std.proofs.Common.{sym, subst}
use Rattle.std.specs.Fn.{FnReturnsAt}
use Rattle.world_core.specs.Steps.{begun_turn, say_turn}
use Rattle.world_events.specs.Turns.{IsTurn}
use Rattle.world_machine.specs.declared.under.Under.{Under}
use Rattle.world_core.proofs.steps.say_idle.Goals as goal

pub returns-in-Idle-clause-turn : goal.returns-in-Idle-clause-turn
returns-in-Idle-clause-turn g c =
    let w = c.args.machine.now in
    subst (λ (under : Under). IsTurn (FnReturnsAt g.F.Fn w.1) (λ positions. begun_turn under (say_turn w.0 c.args.hart.0 c.args.due)) c.say.result w.0 c.say.new.machine.0) (sym c.in-Idle.is) c.say.ensures.turn
