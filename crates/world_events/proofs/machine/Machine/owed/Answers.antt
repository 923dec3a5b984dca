use Rattle.std.proofs.Common.{◌≡◌, ℕ, option_map, subst}
use Rattle.world_machine.specs.Acknowledging.{owed}
use Rattle.world_events.proofs.machine.Machine.owed.Goals as goal

pub returns-clause-lowest : goal.returns-clause-lowest
returns-clause-lowest g c = subst (λ v. c.owed.result ≡ option_map (λ (n : ℕ). record { 0 = n }) (owed v.0.fences c.args.hart.0)) c.self.view_is c.owed.ensures.lowest
