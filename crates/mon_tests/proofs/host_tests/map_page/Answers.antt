use Rattle.std.proofs.Common.{List, ℕ, refl, subst, sym, arith}
use Rattle.mem_ctl.specs.Data.{going}
use Rattle.mon_host.specs.Unmapping.{HaveHostLeaves}
use Rattle.mon_tests.proofs.host_tests.map_page.Goals as goal

pub returns-clause-leaves : goal.returns-clause-leaves
returns-clause-leaves g c =
    let d : List ℕ → List ℕ = g.D.Digester.digest_of in
    let event = c.map.ensures.event in
    subst (λ ctl. HaveHostLeaves 1 ctl) (sym event.now) (
    (c.maps_tell.ensures d g.met.D.Digester.digest_length).keeps 1 c.args.fences.now c.args.owners.now (record { 0 = c.args.va }) c.args.page (record { 0 = 3 }) (going c.args.ctl.now.0 event.positions)
    c.trees_hold.ensures (omega arith) (omega arith) (λ host. omega arith) refl c.requires.leaves)
