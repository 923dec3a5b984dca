use Rattle.std.proofs.Common.{◌≡◌, List, map, sym, ap, subst, ◌∙◌}
use Rattle.std.specs.List.{flat_map}
use Rattle.std.specs.Result.{IfOk}
use Rattle.std.proofs.lemmas.List.Folds.{flat_map-map}
use Rattle.toml.specs.Data.{Data}
use Rattle.toml.specs.View.{view}
use Rattle.world_setup.specs.Keys.{pages_in}
use Rattle.world_setup.proofs.images.all_pages.Goals as goal

pub returns : goal.returns
returns c =
    let same = sym (flat_map-map pages_in view c.items_at.result.now) ∙ ap (flat_map pages_in) c.items_at.ensures in
    subst (λ (pages : List Data). IfOk c.gather_pages.result (λ found. map (λ r. view r.now) found.items ≡ pages)) same c.gather_pages.ensures
