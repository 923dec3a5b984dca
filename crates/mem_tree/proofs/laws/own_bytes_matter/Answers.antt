use Rattle.mem_tree.proofs.Differences.{own_bytes_matter}
use Rattle.mem_tree.proofs.WordPaths.{parts_answer_alike}
use Rattle.mem_tree.proofs.laws.own_bytes_matter.Goals as goal

pub returns-clause-own_bytes_matter : goal.returns-clause-own_bytes_matter
returns-clause-own_bytes_matter c = own_bytes_matter

pub returns-clause-parts_answer_alike : goal.returns-clause-parts_answer_alike
returns-clause-parts_answer_alike c = parts_answer_alike
