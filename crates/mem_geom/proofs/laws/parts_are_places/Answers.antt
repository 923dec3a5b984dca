use Rattle.mem_geom.proofs.PartPlaces.{parts_are_places}
use Rattle.mem_geom.proofs.laws.parts_are_places.Goals as goal

pub returns : goal.returns
returns c = parts_are_places
