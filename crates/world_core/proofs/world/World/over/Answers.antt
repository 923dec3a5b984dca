use Rattle.std.proofs.Common.{leb}
use Rattle.std.proofs.lemmas.Bool.{and_parts, leb-true}
use Rattle.world_machine.specs.Standing.{Kept}
use Rattle.world_machine.proofs.Kept.{reached_kept}
use Rattle.world_core.proofs.world.World.over.Goals as goal

pub over-requires-clause-lengths : goal.over-requires-clause-lengths
over-requires-clause-lengths g c =
    let k : Kept g.D.Digester.digest_of c.self.inside.machine.0 = reached_kept g.D.Digester.digest_of g.met.D.Digester.digest_length c.self.inside.machine.0 c.self.invariant in
    record { harts = k.sizes.harts; actors = k.sizes.actors; scripts = k.sizes.rules.scripts; fences = k.stands.translations.fences_stand.size }

pub over-requires-clause-few : goal.over-requires-clause-few
over-requires-clause-few g c =
    let k : Kept g.D.Digester.digest_of c.self.inside.machine.0 = reached_kept g.D.Digester.digest_of g.met.D.Digester.digest_length c.self.inside.machine.0 c.self.invariant in
    let harts = c.self.inside.machine.0.setup.harts in
    leb-true harts 8 (and_parts (leb 1 harts) (leb harts 8) k.sizes.rules.harts).1
