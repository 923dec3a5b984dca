use Rattle.std.proofs.Common.{◌≤◌, length}
use Rattle.std.proofs.lemmas.List.{take_all}
use Rattle.mon_image.specs.Measurement.{page_part}
use Rattle.mon_image.proofs.Pieces.{flat_map-more}
use Rattle.mon_image.proofs.image.Image.measurement.Goals as goal

pub loop-page-init : goal.loop-page-init
loop-page-init c =
    let begun = c.update-3.ensures _ (c.update-2.ensures _ (c.update.ensures _ c.new-hasher.ensures)) in
    rw (c.to_le_bytes.ensures, c.to_le_bytes-2.ensures, c.as_slice-pages.ensures.pages) at begun

pub loop-page-preserved : goal.loop-page-preserved
loop-page-preserved c =
    let pages = c.as_slice-pages.ensures.pages in
    let below = rw pages at c.loop-page-test.true in
    let is = rw pages at c.page-item.is in
    rw (flat_map-more page_part c.args.self.now.pages c.loop-page.page-index c.page-item.result below is) (c.add_page.ensures _ c.loop-page.invariant)

pub returns : goal.returns
returns c =
    let all : length c.args.self.now.pages ≤ c.loop-page.page-index = rw c.as_slice-pages.ensures.pages at c.loop-page-test.false in
    rw (take_all c.loop-page.page-index c.args.self.now.pages all) at (c.finalize.ensures _ c.loop-page.invariant)
