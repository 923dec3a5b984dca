use Rattle.std.proofs.Common.{◌∙◌}
use Rattle.world_core.proofs.OverLemmas.{attacker_stills}
use Rattle.world_core.proofs.over.attacker_still.Goals as goal

pub returns : goal.returns
returns g c = c.attack_still.ensures ∙ attacker_stills g.D.Digester.digest_of c.args.machine.now.0 c.attack_due-line.result c.attack_due-line.ensures
