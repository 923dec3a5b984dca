use Rattle.std.proofs.Common.{refl, sym}
use Rattle.std.specs.Fn.{FnReturnsAt}
use Rattle.mon_host.specs.Mapping.{map_of}
use Rattle.mon_host.proofs.EventLemmas.{event_at_once, event_done, event_read_broke, event_refused, event_write_broke}
use Rattle.mon_host.proofs.mapping.map.Goals as goal

pub returns-in-Err-clause-event : goal.returns-in-Err-clause-event
unfolding map_of
returns-in-Err-clause-event g c = event_at_once (FnReturnsAt g.F.Fn) c.args.ctl.now.1 _ _ _ _ _ _ _ _ _ c.in-Err.cause (sym c.in-Err.ensures.refusal)

pub returns-in_err-word-clause-event : goal.returns-in_err-word-clause-event
unfolding map_of
returns-in_err-word-clause-event g c =
    event_read_broke (FnReturnsAt g.F.Fn) c.args.ctl.now.1 _ _ _ _ _ _ _ _ _ c.in-Ok.slot c.in-Ok.ensures.refusal c.in-Ok.ensures.slot
    c.in_err-word.field-0.0 _ _ c.from_residual.ensures.1 c.in_err-word.ensures.call

pub returns-in-Some-clause-event : goal.returns-in-Some-clause-event
unfolding map_of
returns-in-Some-clause-event g c =
    event_refused (FnReturnsAt g.F.Fn) c.args.ctl.now.1 _ _ _ _ _ _ _ _ _ c.in-Ok.slot c.in-Ok.ensures.refusal c.in-Ok.ensures.slot
    _ c.in_ok-word.word c.in_ok-word.ensures.call c.in-Some.cause (sym c.in-Some.ensures)

pub returns-in_err-write_part-clause-event : goal.returns-in_err-write_part-clause-event
unfolding map_of
returns-in_err-write_part-clause-event g c =
    event_write_broke (FnReturnsAt g.F.Fn) c.args.ctl.now.1 _ _ _ _ _ _ _ _ _ c.in-Ok.slot c.in-Ok.ensures.refusal c.in-Ok.ensures.slot
    _ c.in_ok-word.word c.in_ok-word.ensures.call (sym c.in_default.ensures) c.read_word.new.self.1 c.read_word.ensures.choice c.leaf_word.result c.leaf_word.ensures
    c.in_err-write_part.field-0.0 _ _ c.from_residual-in_err-write_part.ensures.1 c.in_err-write_part.ensures.call

pub returns-clause-event : goal.returns-clause-event
unfolding map_of
returns-clause-event g c =
    event_done (FnReturnsAt g.F.Fn) c.args.ctl.now.1 _ _ _ _ _ _ _ _ _ c.in-Ok.slot c.in-Ok.ensures.refusal c.in-Ok.ensures.slot
    _ c.in_ok-word.word c.in_ok-word.ensures.call (sym c.in_default.ensures) c.read_word.new.self.1 c.read_word.ensures.choice c.leaf_word.result c.leaf_word.ensures
    c.in_ok-write_part.field-0 _ _ _ refl c.add_map.ensures.owners c.in_ok-write_part.ensures.call
