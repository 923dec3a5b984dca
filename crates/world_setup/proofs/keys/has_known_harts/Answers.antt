use Rattle.std.proofs.Common.{sym, ap, ◌∙◌}
use Rattle.std.specs.List.{list_all}
use Rattle.std.proofs.lemmas.List.Folds.{list_all-map}
use Rattle.toml.specs.View.{view}
use Rattle.world_setup.specs.Keys.{table_has_only, hart_keys}
use Rattle.world_setup.proofs.keys.has_known_harts.Goals as goal

pub returns : goal.returns
returns c = c.all_have_only.ensures ∙ sym (list_all-map (table_has_only hart_keys) view c.items_at.result.now) ∙ ap (list_all (table_has_only hart_keys)) c.items_at.ensures
