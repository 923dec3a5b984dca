use Rattle.std.proofs.Common.{◌≡◌, ℕ, List, slice_get, ap, ◌∙◌, sym}
use Rattle.mon_enclave.specs.declared.enclave.Enclave.{Enclave}
use Rattle.mon_life.specs.Making.{PagesTaken}
use Rattle.mon_owner.specs.declared.owners.Owner.{Owner}
use Rattle.mon_shadow.specs.Forking.{fork_begun}
use Rattle.pl_history.specs.declared.setup.SetupParts.{SetupParts}
use Rattle.pl_history.specs.Monitor.{script_of}
use Rattle.pl_history.specs.Protection.{pmp_of}
use Rattle.rv_pmp.specs.declared.rule.Rule.{Rule}
use Rattle.world_events.specs.Conditions.{fork_due, pages_named}
use Rattle.world_machine.specs.Worlds.{answered_at}
use Rattle.world_events.proofs.machine.Machine.take_spares.Given as given
use Rattle.world_events.proofs.machine.Machine.take_spares.Goals as goal

-- how the line begins, by what the code hands to the monitor's step
module _ (g : given.Over) (c : goal.After-fork_begin g) where
  begun_is : fork_begun c.self.inside.owners c.self.inside.enclaves c.self.inside.pmp c.args.s c.args.e.0 c.pages_named.result.now ≡ fork_due c.args.self.now.0 c.args.hart.0 c.args.s c.args.e.0
  begun_is =
      let i = c.self.inside in
      let s : SetupParts = i.setup in
      let begun = λ (rules : List Rule) (pages : List ℕ). fork_begun i.owners i.enclaves rules c.args.s c.args.e.0 pages in
      let at : c.answered_by-at.result ≡ answered_at i.answered c.args.hart.0 = c.answered_by-at.ensures ∙ sym (ap (λ v. answered_at v.0.answered c.args.hart.0) c.self.view_is) in
      let pages : c.pages_named.result.now ≡ pages_named (slice_get (script_of s c.args.hart.0) (answered_at i.answered c.args.hart.0)) =
      c.pages_named.ensures ∙ ap (λ (p : SetupParts). pages_named (slice_get (script_of p c.args.hart.0) c.answered_by-at.result)) c.parts-parts.ensures.parts
      ∙ ap (λ (k : ℕ). pages_named (slice_get (script_of s c.args.hart.0) k)) at in
      ap (λ (rules : List Rule). begun rules c.pages_named.result.now) c.self.invariant
      ∙ ap (λ (now : List ℕ). begun (pmp_of s) now) pages
      ∙ ap (λ v. fork_due v.0 c.args.hart.0 c.args.s c.args.e.0) c.self.view_is

pub returns-clause-refusal : goal.returns-clause-refusal
returns-clause-refusal g c = c.fork_begin.ensures.refusal ∙ ap (λ (b : PagesTaken). b.refusal) (begun_is g c)

pub returns-clause-world : goal.returns-clause-world
returns-clause-world g c =
    ap (λ v. (record v.0 { owners = c.fork_begin.new.owners; enclaves = c.fork_begin.new.enclaves }, v.1)) c.self.view_is
    ∙ ap (λ (owners : List Owner). (record c.args.self.now.0 { owners = owners; enclaves = c.fork_begin.new.enclaves }, c.args.self.now.1)) (c.fork_begin.ensures.owners ∙ ap (λ (b : PagesTaken). b.owners) (begun_is g c))
    ∙ ap (λ (enclaves : List Enclave). (record c.args.self.now.0 { owners = (fork_due c.args.self.now.0 c.args.hart.0 c.args.s c.args.e.0).owners; enclaves = enclaves }, c.args.self.now.1))
    (c.fork_begin.ensures.enclaves ∙ ap (λ (b : PagesTaken). b.enclaves) (begun_is g c))
