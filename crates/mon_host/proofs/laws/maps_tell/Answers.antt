use Rattle.mon_host.proofs.LawLemmas.{maps_tell}
use Rattle.mon_host.proofs.laws.maps_tell.Goals as goal

pub returns : goal.returns
returns c = λ digest_of has_digests. maps_tell c.host_tables_walk.ensures.walk c.host_tables_walk.ensures.set digest_of has_digests
