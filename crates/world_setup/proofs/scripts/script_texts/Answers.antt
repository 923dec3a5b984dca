use Rattle.std.proofs.Common.{◌≡◌, ℕ, List, map, sym, ap, subst, ◌∙◌}
use Rattle.std.specs.List.{flat_map}
use Rattle.std.specs.Result.{IfOk}
use Rattle.std.proofs.lemmas.List.Folds.{flat_map-map}
use Rattle.toml.specs.View.{view}
use Rattle.world_setup.specs.Scripts.{hart_texts}
use Rattle.world_setup.proofs.scripts.script_texts.Goals as goal

pub returns : goal.returns
returns c =
    let same = sym (flat_map-map hart_texts view c.items_at.result.now) ∙ ap (flat_map hart_texts) c.items_at.ensures in
    subst (λ (texts : List (List ℕ)). IfOk c.gather_texts.result (λ found. map (λ t. t.now) found.items ≡ texts)) same c.gather_texts.ensures
