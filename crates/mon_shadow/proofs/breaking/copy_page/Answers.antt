use Rattle.std.proofs.Common.{◌∙◌}
use Rattle.std.specs.Fn.{FnReturnsAt}
use Rattle.mon_shadow.proofs.BreakLemmas.{leaf_came, put_broke, read_broke}
use Rattle.mon_shadow.proofs.breaking.copy_page.Goals as goal

pub returns-in-Err-clause-call : goal.returns-in-Err-clause-call
returns-in-Err-clause-call g c = read_broke (FnReturnsAt g.F.Fn) c.args.ctl.now.1 _ _ _ _ _ _ _ _ _ c.get_page.new.into c.in-Err.broken c.in-Err.ensures.call

pub returns-in-Err-put_page-clause-call : goal.returns-in-Err-put_page-clause-call
returns-in-Err-put_page-clause-call g c =
    put_broke (FnReturnsAt g.F.Fn) c.args.ctl.now.1 _ _ _ _ _ _ _ _ _ _ c.in_default.ensures.call c.get_page.new.self.1 c.get_page.ensures.choice _
    c.in-Err-put_page.broken c.in-Err-put_page.ensures.call

pub returns-clause-call : goal.returns-clause-call
returns-clause-call g c =
    leaf_came (FnReturnsAt g.F.Fn) c.args.ctl.now.1 _ _ _ _ _ _ _ _ _ _ c.in_default.ensures.call c.get_page.new.self.1 c.get_page.ensures.choice _
    c.in_default-put_page.field-0 c.put_page.new.self.1 (c.put_page.ensures.choice ∙ c.get_page.ensures.choice) _ _ c.number_slot-table.ensures c.leaf_word.ensures _ _
    c.in_default-put_page.ensures.call c.write_part.ensures.call
