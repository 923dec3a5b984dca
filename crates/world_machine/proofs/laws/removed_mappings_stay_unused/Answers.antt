use Rattle.world_machine.proofs.RemovedMappings.{removed_stay_unused}
use Rattle.world_machine.proofs.laws.removed_mappings_stay_unused.Goals as goal

pub returns : goal.returns
returns c = removed_stay_unused
