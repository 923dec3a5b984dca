use Rattle.std.proofs.Common.{not, position, sym, ap, ◌∙◌}
use Rattle.std.proofs.lemmas.List.{length-map}
use Rattle.toml.specs.View.{view}
use Rattle.world_setup.specs.Images.{has_entry}
use Rattle.world_setup.proofs.Positions.{position-map}
use Rattle.world_setup.proofs.images.first_without_entry.Goals as goal

pub returns-clause-first : goal.returns-clause-first
returns-clause-first c = c.without_entry.ensures.first ∙ sym (position-map (λ image. not (has_entry image)) view c.items_at.result.now) ∙ ap (position (λ image. not (has_entry image))) c.items_at.ensures

pub returns-clause-within : goal.returns-clause-within
returns-clause-within c = rw (← length-map c.items_at.result.now view, c.items_at.ensures) at c.without_entry.ensures.within
