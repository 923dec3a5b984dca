use Rattle.std.proofs.Common.{ℕ, ◌≡◌, List, ap, slice_index, ◌∙◌, arith}
use Rattle.mem_ctl.specs.Data.{CtlData, going}
use Rattle.mon_enclave.specs.declared.enclave.Enclave.{Enclave}
use Rattle.mon_enclave.specs.Records.{enclave_at, next_spare}
use Rattle.mon_shadow.specs.Breaking.{page_broken, page_number_at}
use Rattle.mon_tests.proofs.break_tests.break_first.Goals as goal

pub returns : goal.returns
unfolding page_broken
returns g c =
    let d : List ℕ → List ℕ = g.D.Digester.digest_of in
    let event = c.break_page.ensures.event in
    let fork : Enclave = enclave_at c.args.enclaves.now 1 in
    let one : c.args.ctl.now.0.zones ≡ 1 = c.requires.zone in
    let shared_is : page_number_at fork.pages 0 ≡ 20 = ap (λ pages. page_number_at pages 0) c.requires.pages in
    let spare_is : next_spare fork ≡ 21 = ap (λ spares. slice_index spares 0) c.requires.spares in
    let told =
    c.breaks_tell.ensures.copies d g.met.D.Digester.digest_length 1 1 0 (page_number_at fork.pages 0) (next_spare fork) (record { 0 = 3 }) (going c.args.ctl.now.0 event.positions) c.trees_hold.ensures
    (omega (arith, one)) (omega arith) (omega (arith, one, shared_is)) (omega (arith, one, spare_is)) (λ same. omega (arith, spare_is)) in
    record { zone = ap (λ (x : CtlData). x.zones) event.now ∙ told.leaves.same_zones ∙ one }
