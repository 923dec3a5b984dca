use Rattle.std.proofs.Common.{map, sym, ap, ◌∙◌}
use Rattle.std.proofs.lemmas.Simd.{map-map}
use Rattle.toml.specs.View.{view}
use Rattle.world_setup.specs.Scripts.{hart_lines}
use Rattle.world_setup.proofs.scripts.all_scripts.Goals as goal

pub returns : goal.returns
returns c = c.in_ok-scripts.ensures {u = tt} ∙ sym (map-map hart_lines view c.items_at.result.now) ∙ ap (map hart_lines) c.items_at.ensures
