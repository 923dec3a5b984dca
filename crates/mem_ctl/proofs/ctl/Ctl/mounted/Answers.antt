use Rattle.std.proofs.Common.{◌<◌, subst, sym}
use Rattle.std.specs.Prelude.{All, AllPairs}
use Rattle.mem_slots.specs.declared.slot_use.SlotUse.{SlotUse}
use Rattle.mem_ctl.specs.TreesHold.{AreUsesOfTwoZones}
use Rattle.mem_ctl.proofs.SlotLemmas.{uses-apart, uses-there}
use Rattle.mem_ctl.proofs.ctl.Ctl.mounted.Goals as goal

pub returns-clause-apart : goal.returns-clause-apart
returns-clause-apart g c = subst (AllPairs AreUsesOfTwoZones) (sym c.list.ensures.list) (uses-apart c.self.inside.slots.mounted c.self.invariant.trees.fit.apart)

pub returns-clause-there : goal.returns-clause-there
returns-clause-there g c =
    subst (λ v. All (λ (u : SlotUse). u.zone < v.0.zones) c.list.result.now) c.self.view_is
    (subst (All (λ (u : SlotUse). u.zone < c.self.inside.zones)) (sym c.list.ensures.list) (uses-there c.self.inside.zones c.self.inside.slots.mounted c.self.invariant.trees.fit.there))
