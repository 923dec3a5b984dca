use Rattle.std.proofs.Common.{◌∙◌}
use Rattle.world_core.proofs.OverLemmas.{hart_stills}
use Rattle.world_core.proofs.over.hart_still.Goals as goal

pub returns : goal.returns
returns g c = c.due_still.ensures ∙ hart_stills g.D.Digester.digest_of c.args.machine.now.0 c.args.hart.0 c.due-due.result c.under_way-under.result c.due-due.ensures c.under_way-under.ensures
