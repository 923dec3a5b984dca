use Rattle.std.proofs.Common.{◌∙◌}
use Rattle.mon_enclave.specs.declared.enclave.PageKind.TheVariants.{Own}
use Rattle.mon_life.proofs.LeafLemmas.{leaf_more, leaves_whole}
use Rattle.mon_life.proofs.pages.leaves_of.Goals as goal

pub loop-i-preserved : goal.loop-i-preserved
loop-i-preserved c =
    let more = leaf_more c.args.kinds.now c.args.image.now c.loop-i.i (Own 0) c.index-image-i.result c.requires.count c.loop-i-test.true in
    cc (c.push.ensures.items, c.leaf_for.ensures, c.loop-i.invariant, more)

pub returns : goal.returns
returns c = c.loop-i.invariant ∙ leaves_whole c.args.kinds.now c.args.image.now c.loop-i.i c.loop-i-test.false
