use Rattle.std.proofs.Common.{◌≡◌, ℕ, List, slice_get, ap, ◌∙◌, sym}
use Rattle.mon_enclave.specs.declared.enclave.Enclave.{Enclave}
use Rattle.mon_image.specs.declared.image.Image.{Image}
use Rattle.mon_life.specs.Making.{PagesTaken, create_begun}
use Rattle.mon_owner.specs.declared.owners.Owner.{Owner}
use Rattle.pl_history.specs.declared.setup.SetupParts.{SetupParts}
use Rattle.pl_history.specs.Monitor.{script_of}
use Rattle.pl_history.specs.Protection.{pmp_of}
use Rattle.rv_pmp.specs.declared.rule.Rule.{Rule}
use Rattle.world_events.specs.Conditions.{create_due, pages_named}
use Rattle.world_machine.specs.Making.{image_of}
use Rattle.world_machine.specs.Worlds.{answered_at}
use Rattle.world_events.proofs.machine.Machine.take_pages.Given as given
use Rattle.world_events.proofs.machine.Machine.take_pages.Goals as goal

-- how the line begins, by what the code hands to the monitor's step
module _ (g : given.Over) (c : goal.After-create_begin g) where
  begun_is : create_begun c.self.inside.owners c.self.inside.enclaves c.self.inside.pmp c.args.e.0 c.args.image c.image_at.result.now c.pages_named.result.now c.args.shadow
      ≡ create_due c.args.self.now.0 c.args.hart.0 c.args.e.0 c.args.image c.args.shadow
  begun_is =
      let i = c.self.inside in
      let s : SetupParts = i.setup in
      let begun = λ (rules : List Rule) (image : Image) (pages : List ℕ). create_begun i.owners i.enclaves rules c.args.e.0 c.args.image image pages c.args.shadow in
      let at : c.answered_by-at.result ≡ answered_at i.answered c.args.hart.0 = c.answered_by-at.ensures ∙ sym (ap (λ v. answered_at v.0.answered c.args.hart.0) c.self.view_is) in
      let pages : c.pages_named.result.now ≡ pages_named (slice_get (script_of s c.args.hart.0) (answered_at i.answered c.args.hart.0)) =
      c.pages_named.ensures ∙ ap (λ (p : SetupParts). pages_named (slice_get (script_of p c.args.hart.0) c.answered_by-at.result)) c.parts-parts.ensures.parts
      ∙ ap (λ (k : ℕ). pages_named (slice_get (script_of s c.args.hart.0) k)) at in
      let image : c.image_at.result.now ≡ image_of s c.args.image = c.image_at.ensures ∙ ap (λ (p : SetupParts). image_of p c.args.image) c.parts-parts.ensures.parts in
      ap (λ (rules : List Rule). begun rules c.image_at.result.now c.pages_named.result.now) c.self.invariant
      ∙ ap (λ (now : Image). begun (pmp_of s) now c.pages_named.result.now) image
      ∙ ap (λ (now : List ℕ). begun (pmp_of s) (image_of s c.args.image) now) pages
      ∙ ap (λ v. create_due v.0 c.args.hart.0 c.args.e.0 c.args.image c.args.shadow) c.self.view_is

pub returns-clause-refusal : goal.returns-clause-refusal
returns-clause-refusal g c = c.create_begin.ensures.refusal ∙ ap (λ (b : PagesTaken). b.refusal) (begun_is g c)

pub returns-clause-world : goal.returns-clause-world
returns-clause-world g c =
    ap (λ v. (record v.0 { owners = c.create_begin.new.owners; enclaves = c.create_begin.new.enclaves }, v.1)) c.self.view_is
    ∙ ap (λ (owners : List Owner). (record c.args.self.now.0 { owners = owners; enclaves = c.create_begin.new.enclaves }, c.args.self.now.1)) (c.create_begin.ensures.owners ∙ ap (λ (b : PagesTaken). b.owners) (begun_is g c))
    ∙ ap (λ (enclaves : List Enclave). (record c.args.self.now.0 { owners = (create_due c.args.self.now.0 c.args.hart.0 c.args.e.0 c.args.image c.args.shadow).owners; enclaves = enclaves }, c.args.self.now.1))
    (c.create_begin.ensures.enclaves ∙ ap (λ (b : PagesTaken). b.enclaves) (begun_is g c))
