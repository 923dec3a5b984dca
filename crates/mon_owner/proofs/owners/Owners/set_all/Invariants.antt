use Rattle.std.proofs.Common.{◌≡◌, take}
use Rattle.mon_owner.specs.Owners.{given_to}
use Rattle.mon_owner.proofs.owners.Owners.set_all.Given as goal

abbrev pub invariant-loop-page : goal.invariant-loop-page
invariant-loop-page l = l.self-inside.owners.items ≡ given_to l.fn.self (take l.page-index l.pages) l.to
