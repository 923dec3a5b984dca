use Rattle.std.proofs.Common.{◌≡◌, ◌≤◌, take, length, filter_map}
use Rattle.mon_enclave.specs.Records.{page_if_own}
use Rattle.mon_life.proofs.destroying.own_pages.Given as goal

abbrev pub invariant-loop-kind : goal.invariant-loop-kind
invariant-loop-kind l = (l.pages.items ≡ filter_map page_if_own (take l.kind-index l.kinds)) × (length l.pages.items ≤ l.kind-index)
