use Rattle.mem_geom.proofs.Writes.{one_place_changes}
use Rattle.mem_geom.proofs.laws.writes_change_one_place.Goals as goal

pub returns : goal.returns
returns c = one_place_changes
