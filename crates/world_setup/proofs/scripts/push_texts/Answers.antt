use Rattle.std.proofs.Common.{◌≡◌, ℕ, List, ◌++◌, map, sym, ap, subst, ◌∙◌}
use Rattle.std.specs.List.{filter_map}
use Rattle.std.specs.Result.{OnOk}
use Rattle.toml.specs.Data.{as_str}
use Rattle.toml.specs.View.{view}
use Rattle.world_setup.proofs.Steps.{filter_map-map}
use Rattle.world_setup.proofs.scripts.push_texts.Goals as goal

pub returns : goal.returns
returns c =
    let same = sym (filter_map-map as_str view c.items_of.result.now) ∙ ap (filter_map as_str) c.items_of.ensures in
    subst (λ (texts : List (List ℕ)). OnOk c.push_items.result (map (λ t. t.now) c.push_items.new.all.items ≡ map (λ t. t.now) c.args.all.now.items ++ texts)) same c.push_items.ensures
