use Rattle.std.proofs.Common.{◌∙◌, ap, subst}
use Rattle.std.proofs.lemmas.List.{take_all}
use Rattle.std.proofs.lemmas.List.Elements.{All-more}
use Rattle.mon_image.specs.declared.image.Image.{Image}
use Rattle.world_machine.specs.ByteBounds.{AreImageBytes, ArePageBytes}
use Rattle.world_machine.proofs.numbers.images_fit.Goals as goal

pub loop-image-preserved : goal.loop-image-preserved
loop-image-preserved c =
    All-more (λ (image : Image). ArePageBytes image.pages) c.args.images.now c.loop-image.image-index c.image-item.result c.loop-image-test.true c.loop-image.invariant
    (subst ArePageBytes (c.as_slice.ensures.pages ∙ ap (λ (image : Image). image.pages) c.image-item.is) c.pages_fit.ensures)

pub returns : goal.returns
returns c = subst AreImageBytes (take_all c.loop-image.image-index c.args.images.now c.loop-image-test.false) c.loop-image.invariant
