use Rattle.mem_geom.proofs.Places.{one_place, some_place, stands_inside}
use Rattle.mem_geom.proofs.laws.bytes_have_one_place.Goals as goal

pub returns : goal.returns
returns c = record { some = some_place; one = one_place; inside = stands_inside }
