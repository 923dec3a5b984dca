use Rattle.mem_tree.proofs.LinkedPaths.{paths_are_top_down}
use Rattle.mem_tree.proofs.TreePaths.{paths_are_of_tree, paths_hold}
use Rattle.mem_tree.proofs.laws.paths_hold.Goals as goal

pub returns-clause-top_down : goal.returns-clause-top_down
returns-clause-top_down c = paths_are_top_down

pub returns-clause-hold : goal.returns-clause-hold
returns-clause-hold c = λ digest_of sized. paths_hold digest_of sized

pub returns-clause-of_tree : goal.returns-clause-of_tree
returns-clause-of_tree c = paths_are_of_tree
