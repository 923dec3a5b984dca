use Rattle.std.proofs.Common.{◌≡◌, List, ap, ◌∙◌}
use Rattle.mon_enclave.specs.declared.enclave.Enclave.{Enclave}
use Rattle.mon_life.specs.Making.{PagesTaken}
use Rattle.mon_owner.specs.declared.owners.Owner.{Owner}
use Rattle.mon_shadow.specs.Granting.{grant_made}
use Rattle.rv_pmp.specs.declared.rule.Rule.{Rule}
use Rattle.world_events.specs.Conditions.{grant_due}
use Rattle.world_events.proofs.machine.Machine.give_spare.Given as given
use Rattle.world_events.proofs.machine.Machine.give_spare.Goals as goal

-- how the line is answered, by what the code hands to the monitor's step
module _ (g : given.Over) (c : goal.After-grant g) where
  made_is : grant_made c.self.inside.owners c.self.inside.enclaves c.self.inside.pmp c.args.e.0 c.args.page ≡ grant_due c.args.self.now.0 c.args.e.0 c.args.page
  made_is =
      ap (λ (rules : List Rule). grant_made c.self.inside.owners c.self.inside.enclaves rules c.args.e.0 c.args.page) c.self.invariant
      ∙ ap (λ v. grant_due v.0 c.args.e.0 c.args.page) c.self.view_is

pub returns-clause-refusal : goal.returns-clause-refusal
returns-clause-refusal g c = c.grant.ensures.refusal ∙ ap (λ (b : PagesTaken). b.refusal) (made_is g c)

pub returns-clause-world : goal.returns-clause-world
returns-clause-world g c =
    ap (λ v. (record v.0 { owners = c.grant.new.owners; enclaves = c.grant.new.enclaves }, v.1)) c.self.view_is
    ∙ ap (λ (owners : List Owner). (record c.args.self.now.0 { owners = owners; enclaves = c.grant.new.enclaves }, c.args.self.now.1)) (c.grant.ensures.owners ∙ ap (λ (b : PagesTaken). b.owners) (made_is g c))
    ∙ ap (λ (enclaves : List Enclave). (record c.args.self.now.0 { owners = (grant_due c.args.self.now.0 c.args.e.0 c.args.page).owners; enclaves = enclaves }, c.args.self.now.1))
    (c.grant.ensures.enclaves ∙ ap (λ (b : PagesTaken). b.enclaves) (made_is g c))
