use Rattle.std.proofs.Common.{not, position, sym, ap, ◌∙◌}
use Rattle.std.proofs.lemmas.List.{length-map}
use Rattle.toml.specs.View.{view}
use Rattle.world_setup.specs.Images.{has_pages}
use Rattle.world_setup.proofs.Positions.{position-map}
use Rattle.world_setup.proofs.images.first_without_pages.Goals as goal

pub returns-clause-first : goal.returns-clause-first
returns-clause-first c = c.without_pages.ensures.first ∙ sym (position-map (λ image. not (has_pages image)) view c.items_at.result.now) ∙ ap (position (λ image. not (has_pages image))) c.items_at.ensures

pub returns-clause-within : goal.returns-clause-within
returns-clause-within c = rw (← length-map c.items_at.result.now view, c.items_at.ensures) at c.without_pages.ensures.within
