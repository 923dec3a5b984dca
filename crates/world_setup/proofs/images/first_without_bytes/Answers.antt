use Rattle.std.proofs.Common.{not, sym, ◌∙◌}
use Rattle.toml.specs.View.{view}
use Rattle.world_setup.specs.Images.{has_bytes}
use Rattle.world_setup.proofs.Positions.{position-map}
use Rattle.world_setup.proofs.images.first_without_bytes.Goals as goal

pub returns-clause-first : goal.returns-clause-first
returns-clause-first c = c.without_bytes.ensures.first ∙ sym (position-map (λ page. not (has_bytes page)) (λ r. view r.now) c.args.pages.now)
