use Rattle.std.proofs.Common.{length, length-set, ap, ◌∙◌}
use Rattle.mem_ctl.specs.Data.{CtlData}
use Rattle.mon_enclave.specs.Records.{enclave_at, freed}
use Rattle.mon_life.specs.Destroying.{destroy_ended, held_by}
use Rattle.mon_life.proofs.GivenBack.{off_chip_alone}
use Rattle.mon_tests.proofs.life_tests.end.Goals as goal

pub returns-clause-zone : goal.returns-clause-zone
unfolding destroy_ended
returns-clause-zone g c =
    ap (λ p. p.0.zones) c.destroy_end.ensures.ctl ∙ ap (λ (x : CtlData). x.zones) (off_chip_alone c.args.ctl.now.0 (held_by c.args.enclaves.now 0)) ∙ c.requires.zone

pub returns-clause-one : goal.returns-clause-one
unfolding destroy_ended
returns-clause-one g c =
    ap length c.destroy_end.ensures.enclaves ∙ length-set c.args.enclaves.now 0 (freed (enclave_at c.args.enclaves.now 0)) ∙ c.requires.one
