use Rattle.mon_host.proofs.SpaceLemmas.{spaces_have_leaves}
use Rattle.mon_host.proofs.laws.spaces_have_leaves.Goals as goal

pub returns : goal.returns
returns c = spaces_have_leaves
