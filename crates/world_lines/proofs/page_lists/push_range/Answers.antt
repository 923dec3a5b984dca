use Rattle.std.proofs.Common.{◌-◌, Ok, refl, arith}
use Rattle.std.proofs.lemmas.Iterator.{YieldsList-from_range}
use Rattle.std.proofs.lemmas.Iterator.Adapters.{items_from_extend}
use Rattle.std.specs.declared.alloc.AllocError.{AllocError}
use Rattle.world_lines.proofs.Ranges.{range_ends}
use Rattle.world_lines.proofs.page_lists.push_range.Goals as goal

pub returns : goal.returns
returns c =
    let first = c.args.range.now.first in
    let last = c.args.range.now.last in
    let ran = items_from_extend {E = AllocError} (Ok c.in_ok-extend.field-0) c.in_ok-extend.ensures.ran (YieldsList-from_range first last (last - first) refl refl) in
    range_ends _ _ _ first last (omega (arith, c.if-range.false)) ran.0 c.in_ok-push.ensures.items
