-- The lemmas on views that goals cite by one name.
use Rattle.std.proofs.lemmas.List.Folds.{list_all-map}
use Rattle.world_setup.proofs.Positions.{position-map}
use Rattle.world_setup.proofs.Steps.{filter_map-map}
use Rattle.world_setup.proofs.Views.{list_of-view, list_all-view, length-view}
use Rattle.toml.proofs.Views.{view-Array}

pub ruleset views = (list_of-view, list_all-view, length-view, view-Array)

-- what a walk over views answers
pub ruleset maps = (list_all-map, position-map, filter_map-map)
