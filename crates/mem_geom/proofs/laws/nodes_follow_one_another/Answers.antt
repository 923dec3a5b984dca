use Rattle.mem_geom.proofs.Rows.{nodes_in_a_row}
use Rattle.mem_geom.proofs.laws.nodes_follow_one_another.Goals as goal

pub returns : goal.returns
returns c = nodes_in_a_row
