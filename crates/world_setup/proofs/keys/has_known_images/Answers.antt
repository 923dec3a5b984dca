use Rattle.std.proofs.Common.{sym, ap, ◌∙◌}
use Rattle.std.specs.List.{list_all}
use Rattle.std.proofs.lemmas.List.Folds.{list_all-map}
use Rattle.toml.specs.View.{view}
use Rattle.world_setup.specs.Keys.{is_known_image}
use Rattle.world_setup.proofs.keys.has_known_images.Goals as goal

pub returns : goal.returns
returns c = c.all_are_known.ensures ∙ sym (list_all-map is_known_image view c.items_at.result.now) ∙ ap (list_all is_known_image) c.items_at.ensures
