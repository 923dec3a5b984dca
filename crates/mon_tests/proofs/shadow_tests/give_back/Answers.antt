use Rattle.std.proofs.Common.{length, ap, ◌∙◌}
use Rattle.mon_shadow.proofs.DropLemmas.{as_many_pages, as_many_zones}
use Rattle.mon_tests.proofs.shadow_tests.give_back.Goals as goal

pub returns-clause-zone : goal.returns-clause-zone
returns-clause-zone g c =
    ap (λ p. p.0.zones) c.drop_shadow.ensures.ctl ∙ as_many_zones c.args.ctl.now.0 c.args.owners.now c.args.enclaves.now c.args.s.0 ∙ c.requires.zone

pub returns-clause-owners : goal.returns-clause-owners
returns-clause-owners g c =
    ap length c.drop_shadow.ensures.owners ∙ as_many_pages c.args.ctl.now.0 c.args.owners.now c.args.enclaves.now c.args.s.0 ∙ c.requires.owners
