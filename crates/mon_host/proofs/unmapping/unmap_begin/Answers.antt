use Rattle.std.proofs.Common.{ℕ, ◌≢◌, None, ◌≡◌, ◌==◌, Some, false, ◌∙◌, ap, refl, sym, arith}
use Rattle.std.proofs.lemmas.Bool.Decides.{nat_tests}
use Rattle.std.specs.Fn.{FnReturnsAt}
use Rattle.pl_base.specs.Refusals.{refuse}
use Rattle.pl_base.specs.declared.refusal.No.TheVariants.{NotMapped}
use Rattle.mon_fence.specs.Fences.{posted}
use Rattle.mon_host.specs.Leaves.{host_space}
use Rattle.mon_host.specs.Unmapping.{unmap_begun, unmap_refusal}
use Rattle.mon_host.proofs.EventLemmas.{event_at_once, event_done, event_read_broke, event_refused, event_write_broke}
use Rattle.mon_host.proofs.LeafLemmas.{leaf_named}
use Rattle.mon_host.proofs.unmapping.unmap_begin.Goals as goal

is_mapped_word : (word : ℕ) → word ≢ 0 → unmap_refusal word ≡ None
is_mapped_word word some = let test : (word == 0) ≡ false = grind (arith, nat_tests) in ap (λ zero. refuse zero NotMapped) test

pub returns-in-Err-clause-event : goal.returns-in-Err-clause-event
unfolding unmap_begun
returns-in-Err-clause-event g c = event_at_once (FnReturnsAt g.F.Fn) c.args.ctl.now.1 _ _ _ _ _ _ _ _ _ c.in-Err.cause (sym c.in-Err.ensures.refusal)

pub returns-in_err-word-clause-event : goal.returns-in_err-word-clause-event
unfolding unmap_begun
returns-in_err-word-clause-event g c =
    event_read_broke (FnReturnsAt g.F.Fn) c.args.ctl.now.1 _ _ _ _ _ _ _ _ _ c.in-Ok.slot c.in-Ok.ensures.refusal c.in-Ok.ensures.slot
    c.in_err-word.field-0.0 _ _ c.from_residual.ensures.1 c.in_err-word.ensures.call

pub returns-then-word-eq0-clause-event : goal.returns-then-word-eq0-clause-event
unfolding unmap_begun
returns-then-word-eq0-clause-event g c =
    event_refused (FnReturnsAt g.F.Fn) c.args.ctl.now.1 _ _ _ _ _ _ _ _ _ c.in-Ok.slot c.in-Ok.ensures.refusal c.in-Ok.ensures.slot
    _ c.in_ok-word.word c.in_ok-word.ensures.call NotMapped (ap unmap_refusal c.if-word-eq0.true)

pub returns-in_err-write_part-clause-event : goal.returns-in_err-write_part-clause-event
unfolding unmap_begun
returns-in_err-write_part-clause-event g c =
    event_write_broke (FnReturnsAt g.F.Fn) c.args.ctl.now.1 _ _ _ _ _ _ _ _ _ c.in-Ok.slot c.in-Ok.ensures.refusal c.in-Ok.ensures.slot
    _ c.in_ok-word.word c.in_ok-word.ensures.call (is_mapped_word c.in_ok-word.word c.if-word-eq0.false) c.read_word.new.self.1 c.read_word.ensures.choice 0 refl
    c.in_err-write_part.field-0.0 _ _ c.from_residual-in_err-write_part.ensures.1 c.in_err-write_part.ensures.call

pub returns-clause-event : goal.returns-clause-event
unfolding unmap_begun
returns-clause-event g c =
    event_done (FnReturnsAt g.F.Fn) c.args.ctl.now.1 _ _ _ _ _ _ _ _ _ c.in-Ok.slot c.in-Ok.ensures.refusal c.in-Ok.ensures.slot
    _ c.in_ok-word.word c.in_ok-word.ensures.call (is_mapped_word c.in_ok-word.word c.if-word-eq0.false) c.read_word.new.self.1 c.read_word.ensures.choice 0 refl
    c.in_ok-write_part.field-0 _ _ _ c.page_of_leaf.ensures (c.post.ensures ∙ ap (λ vpn. posted c.args.fences.now c.args.h.0 host_space (Some vpn)) c.vpn.ensures) c.in_ok-write_part.ensures.call

pub page_of_leaf-requires-clause-inside : goal.page_of_leaf-requires-clause-inside
page_of_leaf-requires-clause-inside g c =
    (leaf_named c.args.tables c.args.fences.now c.args.va c.args.ctl.now.0 c.in-Ok.slot c.in_ok-word.word c.in-Ok.ensures.refusal c.in-Ok.ensures.slot
    c.trees_hold.ensures.trees.sizes.few c.requires.leaves c.in_ok-word.ensures.word c.if-word-eq0.false).0

pub page_of_leaf-requires-clause-small : goal.page_of_leaf-requires-clause-small
page_of_leaf-requires-clause-small g c =
    (leaf_named c.args.tables c.args.fences.now c.args.va c.args.ctl.now.0 c.in-Ok.slot c.in_ok-word.word c.in-Ok.ensures.refusal c.in-Ok.ensures.slot
    c.trees_hold.ensures.trees.sizes.few c.requires.leaves c.in_ok-word.ensures.word c.if-word-eq0.false).1
