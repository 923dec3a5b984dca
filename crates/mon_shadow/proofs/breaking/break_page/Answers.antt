use Rattle.std.proofs.Common.{Err, ap, ◌∙◌, slice_index}
use Rattle.std.specs.Fn.{FnReturnsAt}
use Rattle.mem_ctl.specs.Data.{Value}
use Rattle.mem_ctl.specs.Results.{outcome_of}
use Rattle.mon_shadow.specs.Breaking.{page_number_at}
use Rattle.mon_shadow.proofs.BreakLemmas.{broken_from, err_leaves}
use Rattle.mon_shadow.proofs.breaking.break_page.Goals as goal

pub returns-in-Err-clause-event : goal.returns-in-Err-clause-event
returns-in-Err-clause-event g c =
    let record_is = c.get-enclave.ensures.record_of in
    broken_from (FnReturnsAt g.F.Fn c.args.ctl.now.1) _ _ _ _ _ _ _ _ _ _ _
    (c.page_number_at-shared.ensures ∙ ap (λ pages. page_number_at pages c.args.index) (c.as_slice.ensures.items ∙ ap (λ x. x.pages) record_is))
    (ap (λ spares. slice_index spares 0) (c.as_slice-2.ensures.items ∙ ap (λ x. x.spares) record_is))
    (outcome_of (Err c.in-Err.broken)) _ _ _ c.in-Err.ensures.call (err_leaves c.in-Err.broken _ _) (err_leaves c.in-Err.broken _ _)

pub returns-clause-event : goal.returns-clause-event
returns-clause-event g c =
    let record_is = c.get-enclave.ensures.record_of in
    broken_from (FnReturnsAt g.F.Fn c.args.ctl.now.1) _ _ _ _ _ _ _ _ _ _ _
    (c.page_number_at-shared.ensures ∙ ap (λ pages. page_number_at pages c.args.index) (c.as_slice.ensures.items ∙ ap (λ x. x.pages) record_is))
    (ap (λ spares. slice_index spares 0) (c.as_slice-2.ensures.items ∙ ap (λ x. x.spares) record_is))
    (Value c.in_default.field-0) _ _ _ c.in_default.ensures.call c.take_spare.ensures.enclaves c.take_spare.ensures.fences
