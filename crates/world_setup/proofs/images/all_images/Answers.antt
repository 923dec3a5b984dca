use Rattle.std.proofs.Common.{◌≡◌, List, sym, ap, subst, ◌∙◌}
use Rattle.std.specs.List.{filter_map}
use Rattle.std.specs.Result.{IfOk}
use Rattle.toml.specs.View.{view}
use Rattle.mon_image.specs.declared.image.Image.{Image}
use Rattle.world_setup.specs.Images.{image_of}
use Rattle.world_setup.proofs.Steps.{filter_map-map}
use Rattle.world_setup.proofs.images.all_images.Goals as goal

pub returns : goal.returns
returns c =
    let same = sym (filter_map-map image_of view c.items_at.result.now) ∙ ap (filter_map image_of) c.items_at.ensures in
    subst (λ (images : List Image). IfOk c.gather_images.result (λ found. found ≡ images)) same c.gather_images.ensures
