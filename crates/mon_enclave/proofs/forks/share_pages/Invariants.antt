use Rattle.std.proofs.Common.{◌≡◌, take, map}
use Rattle.mon_enclave.specs.Records.{as_shared, enclave_at}
use Rattle.mon_enclave.proofs.SharedPages.{with_pages}
use Rattle.mon_enclave.proofs.forks.share_pages.Given as goal

abbrev pub invariant-loop-index : goal.invariant-loop-index
invariant-loop-index l = l.all ≡ with_pages l.initial.all l.e.0 (map as_shared (take l.index (enclave_at l.initial.all l.s.0).pages))
