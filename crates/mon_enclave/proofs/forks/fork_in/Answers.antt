use Rattle.std.proofs.Common.{◌∙◌}
use Rattle.mon_enclave.proofs.forks.fork_in.Goals as goal
use Rattle.mon_enclave.proofs.SharedPages.{is_forked}

pub returns : goal.returns
returns c =
    c.share_pages.ensures
    ∙ is_forked c.args.all.now c.begin_in.new.all c.args.s c.args.e.0 _ _ c.args.spares.now c.requires.other c.requires.number c.image_of-image.ensures c.context_of-context.ensures c.begin_in.ensures
