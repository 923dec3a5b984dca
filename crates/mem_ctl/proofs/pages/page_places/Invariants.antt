use Rattle.std.proofs.Common.{◌≡◌, ℕ, ◌<◌, length, get_or}
use Rattle.pl_base.specs.declared.place.Place.TheVariants.{Block}
use Rattle.mem_ctl.specs.Pages.{page_place}
use Rattle.mem_ctl.proofs.pages.page_places.Given as goal

abbrev pub invariant-loop-i : goal.invariant-loop-i
invariant-loop-i l = record {
  size : length l.places ≡ 75;
  each : (k : ℕ) → k < l.i → get_or l.places k (Block 0 0) ≡ page_place l.page k;
}
