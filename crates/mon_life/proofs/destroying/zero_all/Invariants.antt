use Rattle.std.proofs.Common.{◌≡◌, take}
use Rattle.mon_life.specs.Destroying.{all_zeroed}
use Rattle.mon_life.proofs.destroying.zero_all.Given as goal

abbrev pub invariant-loop-page : goal.invariant-loop-page
invariant-loop-page g l = l.ctl ≡ (all_zeroed l.fn.ctl.0 (take l.page-index l.pages), l.fn.ctl.1)
