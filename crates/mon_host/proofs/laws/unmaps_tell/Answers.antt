use Rattle.mon_host.proofs.LawLemmas.{unmaps_tell}
use Rattle.mon_host.proofs.laws.unmaps_tell.Goals as goal

pub returns : goal.returns
returns c = λ digest_of has_digests. unmaps_tell c.host_tables_walk.ensures.walk c.host_tables_walk.ensures.clear digest_of has_digests
