use Rattle.std.proofs.Common.{◌≡◌, take, map}
use Rattle.mon_enclave.specs.declared.enclave.PageKind.TheVariants.{Own}
use Rattle.mon_enclave.proofs.enclave.own.Given as goal

abbrev pub invariant-loop-page : goal.invariant-loop-page
invariant-loop-page l = l.list ≡ map Own (take l.page-index l.pages)
