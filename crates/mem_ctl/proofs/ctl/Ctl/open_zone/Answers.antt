use Rattle.std.proofs.Common.{◌≡◌, ℕ, ◌/◌, true, rules, ap, ◌∙◌}
use Rattle.std.specs.Prelude.{Err}
use mathlib.Core.Logic.{inr}
use Rattle.mem_slots.specs.Slots.{is_mounted, used_slot}
use Rattle.mem_tree.specs.Checks.{Holds as AllHold}
use Rattle.mem_ctl.specs.Calls.{zone_check}
use Rattle.mem_ctl.specs.Results.{checked_of}
use Rattle.mem_ctl.proofs.SlotLemmas.{is_mounted-map, used_slot-zone}
use Rattle.mem_ctl.proofs.ctl.Ctl.open_zone.Goals as goal

pub check_zone-requires-clause-mounted : goal.check_zone-requires-clause-mounted
check_zone-requires-clause-mounted g c =
    let zone : ℕ = c.args.page / 64 in
    let there : is_mounted c.mount.new.self.0.mounted zone ≡ true = c.in_default.ensures.mounted in
    ap (λ v. is_mounted v.0.mounted zone) c.count.ensures ∙ is_mounted-map (used_slot zone) (used_slot-zone zone) c.mount.new.self.0.mounted zone ∙ there

pub returns-in-Err-check_zone-clause-err : goal.returns-in-Err-check_zone-clause-err
returns-in-Err-check_zone-clause-err g c =
    let is : checked_of (Err c.in-Err-check_zone.broken) ≡ zone_check g.D.Digester.digest_of c.count.new.self.0 (c.args.page / 64) c.args.places.now = search rules in
    inr (record { between = c.mount.new.self.0; mounts = c.in_default.ensures.call; now = ap (λ v. v.0) c.count.ensures; is = is })

pub returns-clause-ok : goal.returns-clause-ok
returns-clause-ok g c =
    let zone : ℕ = c.args.page / 64 in
    let there : is_mounted c.mount.new.self.0.mounted zone ≡ true = c.in_default.ensures.mounted in
    let is : AllHold ≡ zone_check g.D.Digester.digest_of c.count.new.self.0 zone c.args.places.now = search rules in
    record {
      between = c.mount.new.self.0;
      mounts = c.in_default.ensures.call;
      now = ap (λ v. v.0) c.count.ensures;
      mounted = ap (λ v. is_mounted v.0.mounted zone) c.count.ensures ∙ is_mounted-map (used_slot zone) (used_slot-zone zone) c.mount.new.self.0.mounted zone ∙ there;
      holds = is;
    }
