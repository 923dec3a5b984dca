use Rattle.mon_fence.proofs.Needs.{acked_all, left_fits, none_fit, posted_all, posted_fits}
use Rattle.mon_fence.proofs.laws.fences_need_others.Goals as goal

pub returns : goal.returns
returns c = record {
  all_others = posted_all;
  posting = posted_fits;
  acknowledging = acked_all;
  leaving = left_fits;
  none = none_fit;
}
