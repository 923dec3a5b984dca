use Rattle.std.proofs.Common.{subst, sym}
use Rattle.std.specs.Prelude.{IsTrue}
use Rattle.std.specs.Fn.{FnReturnsAt}
use Rattle.pl_base.specs.Perms.{are_page_perms}
use Rattle.pl_base.specs.declared.perms.Perms.{Perms}
use Rattle.mem_ctl.specs.Results.{outcome_of}
use Rattle.mon_shadow.specs.Breaking.{IsPageBroken, page_broken}
use Rattle.pl_history.specs.declared.setup.SetupParts.{SetupParts}
use Rattle.world_machine.specs.Running.{perms_at}
use Rattle.world_events.specs.Running.{run_now, runner}
use Rattle.world_events.proofs.machine.Machine.copy_page.Goals as goal

pub break_page-requires-clause-perms : goal.break_page-requires-clause-perms
break_page-requires-clause-perms g c = subst (λ (p : Perms). IsTrue (are_page_perms p)) (sym c.perms_at-perms.ensures) c.requires.can.allowed

pub returns-clause-event : goal.returns-clause-event
returns-clause-event g c =
    let i = c.self.inside in
    let w = c.args.self.now in
    let new = c.break_page.new in
    let run = c.args.run in
    let done = outcome_of c.break_page.result in
    let broken = page_broken g.D.Digester.digest_of in
    let perms : Perms = perms_at w.0.setup (runner w.0 (run_now run)) c.args.index in
    subst (λ v. IsPageBroken (FnReturnsAt g.F.Fn v.1) (broken v.0.setup.tables run.hart.0 run.e c.args.index perms v.0.enclaves v.0.fences) v.0.ctl done new.ctl.0 new.enclaves new.fences) c.self.view_is
    (subst (λ (s : SetupParts). IsPageBroken (FnReturnsAt g.F.Fn i.ctl.1) (broken s.tables run.hart.0 run.e c.args.index perms i.enclaves i.fences) i.ctl.0 done new.ctl.0 new.enclaves new.fences) c.parts.ensures.parts
    (subst (λ (p : Perms). IsPageBroken (FnReturnsAt g.F.Fn i.ctl.1) (broken c.parts.result.now.tables run.hart.0 run.e c.args.index p i.enclaves i.fences) i.ctl.0 done new.ctl.0 new.enclaves new.fences) c.perms_at-perms.ensures
    c.break_page.ensures.event))
