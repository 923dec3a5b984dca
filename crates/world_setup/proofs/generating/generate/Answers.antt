use Rattle.std.proofs.Common.{[], ◌∷◌, ap, ◌∙◌}
use Rattle.mon_image.specs.declared.image.Image.{Image}
use Rattle.world_setup.proofs.GeneratedValidity.{made_is_setup}
use Rattle.world_setup.proofs.generating.generate.Goals as goal

pub new-requires-4 : goal.new-requires-4
new-requires-4 c =
    made_is_setup c.args.n _ _ _ _ _ c.new.ensures c.new-2.ensures (c.from_vec.ensures ∙ c.in_ok-images.ensures.items ∙ ap (λ (image : Image). image ∷ []) c.in_ok-summing_image.ensures)
    c.in_ok-lines.ensures c.new-3.ensures
