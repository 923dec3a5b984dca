use Rattle.std.proofs.Common.{ap, sym, ◌∙◌}
use Rattle.std.specs.Fn.{FnReturnsAt}
use Rattle.world_events.proofs.AcknowledgingLemmas.{ack_moved, ack_rested}
use Rattle.world_events.proofs.machine.Machine.ack_turn.Goals as goal

pub returns-in-Some-clause-turn : goal.returns-in-Some-clause-turn
returns-in-Some-clause-turn g c =
    let w = c.args.self.now in
    ack_moved (FnReturnsAt g.F.Fn w.1) w.0 c.acknowledge.new.self.0 c.args.hart.0 c.in-Some.requester (sym c.in-Some.is ∙ c.owed.ensures.lowest) (ap (λ v. v.0) c.acknowledge.ensures)

pub returns-in-None-clause-turn : goal.returns-in-None-clause-turn
returns-in-None-clause-turn g c =
    let w = c.args.self.now in
    ack_rested (FnReturnsAt g.F.Fn w.1) w.0 w.0 c.args.hart.0 c.owed.result c.in-None.is c.owed.ensures.lowest
