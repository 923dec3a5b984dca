use Rattle.std.proofs.Common.{arith}
use Rattle.pl_base.specs.declared.place.Place.TheVariants.{Block}
use Rattle.mem_ctl.proofs.PagePlaces.{page_places-from}
use Rattle.mem_ctl.proofs.pages.page_places.Goals as goal

pub returns : goal.returns
returns c = page_places-from c.args.page c.loop-i.places (Block 0 0) c.loop-i.invariant.size (λ k below. c.loop-i.invariant.each k (omega arith))
