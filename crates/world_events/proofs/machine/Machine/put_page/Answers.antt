use Rattle.std.proofs.Common.{subst}
use Rattle.std.specs.Fn.{FnReturnsAt}
use Rattle.mem_ctl.specs.Stops.{step_answer}
use Rattle.mon_image.specs.declared.image.Image.{Image}
use Rattle.mon_life.specs.Putting.{IsCreatePut, create_put}
use Rattle.pl_history.specs.declared.setup.SetupParts.{SetupParts}
use Rattle.world_machine.specs.Making.{image_of}
use Rattle.world_events.proofs.machine.Machine.put_page.Goals as goal

pub returns-clause-step : goal.returns-clause-step
returns-clause-step g c =
    let i = c.self.inside in
    let new = c.create_step.new in
    let put = create_put g.D.Digester.digest_of in
    let last = step_answer c.create_step.result in
    let before = FnReturnsAt g.F.Fn i.ctl.1 in
    subst (λ v. IsCreatePut (FnReturnsAt g.F.Fn v.1) (put v.0.setup.tables c.args.e.0 (image_of v.0.setup c.args.image) c.args.shadow c.args.done v.0.enclaves) v.0.ctl last new.ctl.0 new.enclaves) c.self.view_is
    (subst (λ (s : SetupParts). IsCreatePut before (put s.tables c.args.e.0 (image_of s c.args.image) c.args.shadow c.args.done i.enclaves) i.ctl.0 last new.ctl.0 new.enclaves) c.parts-parts.ensures.parts
    (subst (λ (image : Image). IsCreatePut before (put c.parts-parts.result.now.tables c.args.e.0 image c.args.shadow c.args.done i.enclaves) i.ctl.0 last new.ctl.0 new.enclaves) c.image_at.ensures
    c.create_step.ensures.step))
