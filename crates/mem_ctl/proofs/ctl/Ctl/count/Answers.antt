use Rattle.std.proofs.Common.{[], sym, subst}
use Rattle.mem_slots.specs.Slots.{SlotList}
use Rattle.mem_ctl.specs.Data.{CtlData, ctl_data, going}
use Rattle.mem_ctl.specs.TreesHold.{IsKept}
use Rattle.mem_ctl.proofs.AccessLemmas.{count_use-keeps}
use Rattle.mem_ctl.proofs.ctl.Ctl.count.Goals as goal

pub invariant_of-self : goal.invariant_of-self
invariant_of-self g c =
    let i = c.self.inside in
    let x : CtlData = ctl_data i.zones i.slots.limit i.off_chip i.mirror i.slots.mounted i.root in
    let kept = count_use-keeps g.D.Digester.digest_of g.met.D.Digester.digest_length c.args.zone (going x []) c.self.invariant.trees in
    subst (λ (v : SlotList). IsKept g.D.Digester.digest_of (ctl_data i.zones v.limit i.off_chip i.mirror v.mounted i.root)) (sym c.used.ensures) (record { trees = kept.trees; some = c.self.invariant.some; few = c.self.invariant.few })
