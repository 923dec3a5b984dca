use Rattle.std.proofs.Common.{◌≡◌, ℕ, ◌<◌, List, [], length, get_or, arith, ap, ◌∙◌, sym, subst}
use Rattle.std.specs.Prelude.{nat_lt, slice_get}
use Rattle.std.specs.Fn.{FnReturnsAt}
use Rattle.std.specs.Option.{option_map_or}
use Rattle.std.proofs.lemmas.Bool.{cond-true, lt-ltb}
use Rattle.std.proofs.lemmas.Option.{slice_get-get_or}
use Rattle.mon_image.specs.declared.page.ImagePage.{ImagePage}
use Rattle.mem_ctl.specs.Calls.{put_page_of}
use Rattle.mem_ctl.specs.Results.{IsCall, outcome_of}
use Rattle.mon_life.specs.Pages.{PagePut, image_put, page_put_at}
use Rattle.mon_life.proofs.pages.put_page_at.Goals as goal

pub returns-then-at-pages-clause-call : goal.returns-then-at-pages-clause-call
unfolding page_put_at
returns-then-at-pages-clause-call g c =
    let d = g.D.Digester.digest_of in
    let pages : List ImagePage = c.args.image.now.pages in
    let at : ℕ = c.args.at in
    let one : ImagePage = c.index-pages-at.result in
    let there : at < length pages = omega (arith, c.if-at-pages.true, ap length c.as_slice-pages.ensures.pages) in
    let bytes_of = λ (page : ImagePage). page.bytes in
    let bytes : c.as_array.result.now ≡ option_map_or bytes_of (slice_get pages at) [] =
    c.as_array.ensures ∙ ap (λ (ps : List ImagePage). (get_or ps at one).bytes) c.as_slice-pages.ensures.pages ∙ sym (ap (λ o. option_map_or bytes_of o []) (slice_get-get_or pages at one there)) in
    let puts = λ (q : PagePut). IsCall (FnReturnsAt g.F.Fn c.args.ctl.now.1) (put_page_of d q.page q.bytes) c.args.ctl.now.0 (outcome_of c.put_page.result) c.put_page.new.self.0 in
    subst puts (sym (cond-true (nat_lt at (length pages)) (image_put pages c.args.kinds.now at) _ (lt-ltb at (length pages) there)))
    (subst (λ (p : ℕ). puts (record { page = p; bytes = option_map_or bytes_of (slice_get pages at) [] })) c.page.ensures
    (subst (λ (b : List ℕ). puts (record { page = c.page.result; bytes = b })) bytes c.put_page.ensures.call))
