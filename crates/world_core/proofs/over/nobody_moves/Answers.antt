use Rattle.world_core.proofs.OverLemmas.{nobody}
use Rattle.world_core.proofs.over.nobody_moves.Goals as goal

pub returns : goal.returns
returns g c =
    nobody g.D.Digester.digest_of c.args.machine.now.0 c.harts_still-harts.result c.acks_still-acks.result c.attacker_still-attacker.result
    c.harts_still-harts.ensures c.acks_still-acks.ensures c.attacker_still-attacker.ensures
