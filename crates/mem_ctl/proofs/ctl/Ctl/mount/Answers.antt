use Rattle.std.proofs.Common.{◌≡◌, ℕ, rules, ◌∙◌, sym}
use Rattle.std.specs.Fn.{FnReturnsAt}
use Rattle.std.specs.Prelude.{false}
use Rattle.mem_slots.specs.Slots.{is_mounted}
use Rattle.mem_ctl.proofs.CallLemmas.{already_mounted, mounts_anew, eviction_stops, eviction_goes}
use Rattle.mem_ctl.proofs.SlotLemmas.{is_some-root_of}
use Rattle.mem_ctl.proofs.ctl.Ctl.mount.Goals as goal

pub returns-then-is_some-clause-mounted : goal.returns-then-is_some-clause-mounted
returns-then-is_some-clause-mounted g c = rw (← c.self.view_is) (sym (is_some-root_of c.self.inside.slots.mounted c.args.zone) ∙ search rules)

pub returns-then-is_some-clause-call : goal.returns-then-is_some-clause-call
returns-then-is_some-clause-call g c =
    already_mounted (FnReturnsAt g.F.Fn c.args.self.now.1) g.D.Digester.digest_of c.args.zone c.args.self.now.0 (rw (← c.self.view_is) (sym (is_some-root_of c.self.inside.slots.mounted c.args.zone) ∙ search rules))

pub mount_anew-requires-clause-absent : goal.mount_anew-requires-clause-absent
mount_anew-requires-clause-absent g c = rw (← c.self.view_is) (sym (is_some-root_of c.self.inside.slots.mounted c.args.zone) ∙ search rules)

pub returns-then-not-is_full-clause-call : goal.returns-then-not-is_full-clause-call
returns-then-not-is_full-clause-call g c =
    mounts_anew (FnReturnsAt g.F.Fn c.args.self.now.1) g.D.Digester.digest_of c.args.zone c.args.self.now.0 _ _
    (rw (← c.self.view_is) (sym (is_some-root_of c.self.inside.slots.mounted c.args.zone) ∙ search rules)) (search rules) c.mount_anew.ensures.call

pub returns-in-Err-clause-call : goal.returns-in-Err-clause-call
returns-in-Err-clause-call g c =
    eviction_stops (FnReturnsAt g.F.Fn c.args.self.now.1) g.D.Digester.digest_of c.args.zone c.args.self.now.0 c.in-Err.broken _
    (rw (← c.self.view_is) (sym (is_some-root_of c.self.inside.slots.mounted c.args.zone) ∙ search rules)) (search rules) c.in-Err.ensures.call

pub mount_anew-requires-2-clause-absent : goal.mount_anew-requires-2-clause-absent
mount_anew-requires-2-clause-absent g c =
    let kept : (zone : ℕ) → is_mounted c.args.self.now.0.mounted zone ≡ false → is_mounted c.evict.new.self.0.mounted zone ≡ false = c.in_default.ensures.absent in
    kept c.args.zone (rw (← c.self.view_is) (sym (is_some-root_of c.self.inside.slots.mounted c.args.zone) ∙ search rules))

pub returns-clause-call : goal.returns-clause-call
returns-clause-call g c =
    let choice : c.evict.new.self.1 ≡ c.args.self.now.1 = search rules in
    eviction_goes (FnReturnsAt g.F.Fn c.args.self.now.1) g.D.Digester.digest_of c.args.zone c.args.self.now.0 c.evict.new.self.0 _ _
    (rw (← c.self.view_is) (sym (is_some-root_of c.self.inside.slots.mounted c.args.zone) ∙ search rules)) (search rules) c.in_default.ensures.call (rw choice at c.mount_anew-2.ensures.call)
