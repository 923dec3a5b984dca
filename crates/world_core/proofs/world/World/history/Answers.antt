use Rattle.std.proofs.Common.{subst}
use Rattle.world_machine.specs.Standing.{Kept}
use Rattle.world_machine.proofs.Kept.{reached_kept}
use Rattle.world_core.proofs.world.World.history.Goals as goal

pub returns-clause-kept : goal.returns-clause-kept
returns-clause-kept g c =
    let d = g.D.Digester.digest_of in
    subst (λ v. Kept d v.0) c.self.view_is (reached_kept d g.met.D.Digester.digest_length c.self.inside.machine.0 c.self.invariant)
