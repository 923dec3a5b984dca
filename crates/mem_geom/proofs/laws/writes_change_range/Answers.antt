use Rattle.mem_geom.proofs.Writes.{range_changes}
use Rattle.mem_geom.proofs.laws.writes_change_range.Goals as goal

pub returns : goal.returns
returns c = range_changes
