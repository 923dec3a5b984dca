use Rattle.std.proofs.Common.{sym, ◌∙◌, ap, set, get_or}
use Rattle.mon_owner.proofs.OwnerLists.{given_to-none, given_to-more}
use Rattle.mon_owner.proofs.owners.Owners.set_all.Goals as goal

pub loop-page-init : goal.loop-page-init
loop-page-init c = c.self.view_is ∙ sym (given_to-none c.args.self.now c.args.to)

pub loop-page-preserved : goal.loop-page-preserved
loop-page-preserved c =
    ap (λ l. set l (get_or c.args.pages.now c.loop-page.page-index 0) c.args.to) c.loop-page.invariant
    ∙ given_to-more c.args.self.now c.args.to c.args.pages.now c.loop-page.page-index 0 c.loop-page-test.true (c.requires c.loop-page.page-index 0 c.loop-page-test.true)
