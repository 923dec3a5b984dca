use Rattle.std.proofs.Common.{arith, ◌∙◌}
use Rattle.pl_base.specs.declared.place.Place.TheVariants.{Block}
use Rattle.mem_geom.specs.Layout.{place_bytes}
use Rattle.mem_ctl.proofs.PathLoop.{held-at_later, has_parent-at}
use Rattle.mem_ctl.proofs.check.held_at.Goals as goal

pub returns : goal.returns
returns c = c.held_for.ensures ∙ held-at_later c.args.root.now (place_bytes c.args.zones c.args.off_chip.now) c.args.places.now c.args.i (Block 0 0) (omega arith) c.requires.there c.requires.top_down

pub held_for-requires-clause-below : goal.held_for-requires-clause-below
held_for-requires-clause-below c = has_parent-at c.args.places.now c.args.i (Block 0 0) (omega arith) c.requires.there c.requires.top_down
