use Rattle.std.proofs.Common.{arith, ◌≡◌, ◌≤◌, ◌<◌, length, map, take, sym, ◌∙◌, subst, length-take-le}
use Rattle.std.proofs.lemmas.List.{length-map}
use Rattle.mon_enclave.specs.Records.{as_shared, enclave_at}
use Rattle.mon_enclave.proofs.forks.share_pages.Goals as goal
use Rattle.mon_enclave.proofs.SharedPages.{no_pages_yet, pages_of_other, pages_there, shares_more}

pub loop-index-init : goal.loop-index-init
loop-index-init c = no_pages_yet _ _ c.requires.empty

pub page_at-kind-requires-clause-index : goal.page_at-kind-requires-clause-index
page_at-kind-requires-clause-index c =
    let below : c.loop-index.index < c.page_count-count.result = c.loop-index-test.true in
    let count : c.page_count-count.result ≡ length (enclave_at c.args.all.now c.args.s.0).pages = c.page_count-count.ensures.count in
    subst (λ ps. c.loop-index.index < length ps) (sym (pages_of_other c.args.all.now c.loop-index.all c.args.s.0 c.args.e.0 _ c.loop-index.invariant c.requires.other)) (omega arith)

pub share_one-requires-clause-few : goal.share_one-requires-clause-few
share_one-requires-clause-few c =
    let below : c.loop-index.index < c.page_count-count.result = c.loop-index-test.true in
    let few : c.page_count-count.result ≤ 256 = c.page_count-count.ensures.few in
    let count : c.page_count-count.result ≡ length (enclave_at c.args.all.now c.args.s.0).pages = c.page_count-count.ensures.count in
    let ps = (enclave_at c.args.all.now c.args.s.0).pages in
    let size : length (map as_shared (take c.loop-index.index ps)) ≡ c.loop-index.index = length-map (take c.loop-index.index ps) as_shared ∙ length-take-le c.loop-index.index ps (omega arith) in
    subst (λ qs. length qs < 256) (sym (pages_there c.args.all.now c.loop-index.all c.args.s.0 c.args.e.0 _ c.loop-index.invariant c.requires.number)) (omega arith)

pub loop-index-preserved : goal.loop-index-preserved
loop-index-preserved c =
    let below : c.loop-index.index < c.page_count-count.result = c.loop-index-test.true in
    let count : c.page_count-count.result ≡ length (enclave_at c.args.all.now c.args.s.0).pages = c.page_count-count.ensures.count in
    c.share_one.ensures
    ∙ shares_more c.args.all.now c.loop-index.all c.args.s.0 c.args.e.0 c.loop-index.index c.page_at-kind.result c.loop-index.invariant c.requires.other c.requires.number (omega arith)
    c.page_at-kind.ensures
