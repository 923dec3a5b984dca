use Rattle.mem_tree.proofs.EntryChanges.{trees_change}
use Rattle.mem_tree.proofs.laws.trees_change.Goals as goal

pub returns : goal.returns
returns c = λ digest_of sized. trees_change digest_of sized
