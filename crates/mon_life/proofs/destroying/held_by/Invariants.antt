use Rattle.std.proofs.Common.{◌≡◌, ◌++◌, take, filter_map}
use Rattle.mon_enclave.specs.Records.{enclave_at, page_if_own}
use Rattle.mon_life.proofs.destroying.held_by.Given as goal

abbrev pub invariant-loop-page : goal.invariant-loop-page
invariant-loop-page l =
    l.pages.items ≡ filter_map page_if_own (enclave_at l.fn.enclaves l.fn.e.0).pages ++ take l.page-index (enclave_at l.fn.enclaves l.fn.e.0).spares
