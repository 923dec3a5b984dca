use Rattle.std.proofs.Common.{◌<◌, ◌*◌, ap, subst, sym, ◌∙◌, slice_index_or, take}
use Rattle.mem_ctl.specs.Data.{CtlData}
use Rattle.mon_life.proofs.GivenBack.{off_chip_alone}
use Rattle.mon_life.proofs.destroying.zero_all.Goals as goal

pub raw_zero-requires : goal.raw_zero-requires
raw_zero-requires g c =
    let zones = ap (λ p. p.0.zones) c.loop-page.invariant ∙ ap (λ (x : CtlData). x.zones) (off_chip_alone c.args.ctl.now.0 (take c.loop-page.page-index c.args.pages.now)) in
    subst (λ n. slice_index_or c.args.pages.now c.loop-page.page-index 0 < 64 * n) (sym zones) (c.requires c.loop-page.page-index 0 c.loop-page-test.true)
