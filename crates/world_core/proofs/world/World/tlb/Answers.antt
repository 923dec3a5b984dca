use Rattle.std.proofs.Common.{◌<◌, arith, subst, sym}
use Rattle.world_machine.specs.Standing.{Kept}
use Rattle.world_machine.proofs.Kept.{reached_kept}
use Rattle.world_core.proofs.world.World.tlb.Goals as goal

pub tlb-requires : goal.tlb-requires
tlb-requires g c =
    let w = c.self.inside.machine.0 in
    let k : Kept g.D.Digester.digest_of w = reached_kept g.D.Digester.digest_of g.met.D.Digester.digest_length w c.self.invariant in
    let below : c.args.h.0 < w.setup.harts = subst (λ v. c.args.h.0 < v.0.setup.harts) (sym c.self.view_is) c.requires in
    omega (arith, below, k.stands.translations.harts)
