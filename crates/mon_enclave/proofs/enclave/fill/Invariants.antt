use Rattle.std.proofs.Common.{◌≡◌, take}
use Rattle.mon_enclave.proofs.enclave.fill.Given as goal

abbrev pub invariant-loop-page : goal.invariant-loop-page
invariant-loop-page l = l.list ≡ take l.page-index l.spares
