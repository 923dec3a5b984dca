use Rattle.std.proofs.Common.{◌≡◌, rules, ap, ◌∙◌, sym}
use Rattle.std.specs.Prelude.{◌<◌, false, length}
use Rattle.std.specs.Fn.{FnReturnsAt}
use Rattle.mem_ctl.specs.Data.{CtlData, ctl_data}
use Rattle.mem_slots.specs.Slots.{is_mounted}
use Rattle.mem_ctl.specs.Mounting.{mounted_last, root_check}
use Rattle.mem_ctl.proofs.CallLemmas.{anew_stops, anew_goes}
use Rattle.mem_ctl.proofs.MountLemmas.{mounted_last-keeps}
use Rattle.mem_tree.specs.Checks.{Holds as AllHold}
use Rattle.mem_ctl.proofs.ctl.Ctl.mount_anew.Goals as goal

pub returns-in-Err-clause-call : goal.returns-in-Err-clause-call
returns-in-Err-clause-call g c = anew_stops (FnReturnsAt g.F.Fn c.args.self.now.1) g.D.Digester.digest_of c.args.zone c.args.self.now.0 c.in-Err.broken (search rules)

pub returns-clause-call : goal.returns-clause-call
unfolding mounted_last
returns-clause-call g c =
    let d = g.D.Digester.digest_of in
    let i = c.self.inside in
    let x : CtlData = ctl_data i.zones i.slots.limit i.off_chip i.mirror i.slots.mounted i.root in
    let same : x ≡ c.args.self.now.0 = ap (λ v. v.0) c.self.view_is in
    let holds : AllHold ≡ root_check d c.args.self.now.0 c.args.zone = search rules in
    rw (c.add.ensures, c.root_entry-root.ensures, ← c.self.view_is) (anew_goes (FnReturnsAt g.F.Fn i.choice) d c.args.zone x (holds ∙ ap (λ (v : CtlData). root_check d v c.args.zone) (sym same)))

pub invariant_of-self : goal.invariant_of-self
unfolding mounted_last
invariant_of-self g c =
    let d = g.D.Digester.digest_of in
    let i = c.self.inside in
    let x : CtlData = ctl_data i.zones i.slots.limit i.off_chip i.mirror i.slots.mounted i.root in
    let same : x ≡ c.args.self.now.0 = ap (λ v. v.0) c.self.view_is in
    let holds : AllHold ≡ root_check d c.args.self.now.0 c.args.zone = search rules in
    let there : c.args.zone < x.zones = search rules in
    let room : length x.mounted < x.slots = search rules in
    let absent : is_mounted x.mounted c.args.zone ≡ false = search rules in
    let k = mounted_last-keeps d g.met.D.Digester.digest_length x c.args.zone c.self.invariant.trees there room absent (sym (holds ∙ ap (λ (v : CtlData). root_check d v c.args.zone) (sym same))) in
    rw (c.add.ensures, c.root_entry-root.ensures, ← c.self.view_is) (record { trees = k.trees; some = c.self.invariant.some; few = c.self.invariant.few })
