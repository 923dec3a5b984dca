use Rattle.std.proofs.Common.{◌≤◌, arith}
use Rattle.rv_pmp.proofs.AlignedSpan.{trailing_ones-le, size_below, size_is, start_below}
use Rattle.rv_pmp.proofs.rule.aligned.Goals as goal

pub overflow_shr-start : goal.overflow_shr-start
overflow_shr-start c = let h = trailing_ones-le c.args.addr c.requires in omega (arith, c.trailing_ones-ones.ensures)

pub overflow_mul-start : goal.overflow_mul-start
overflow_mul-start c =
    let k : c.trailing_ones-ones.result ≤ 54 = let h = trailing_ones-le c.args.addr c.requires in omega (arith, c.trailing_ones-ones.ensures) in
    let size = size_is c.trailing_ones-ones.result k in
    let low = start_below c.args.addr c.trailing_ones-ones.result c.requires in
    rw size (omega (arith, low))

pub overflow_add-result : goal.overflow_add-result
overflow_add-result c =
    let k : c.trailing_ones-ones.result ≤ 54 = let h = trailing_ones-le c.args.addr c.requires in omega (arith, c.trailing_ones-ones.ensures) in
    let size = size_is c.trailing_ones-ones.result k in
    let low = start_below c.args.addr c.trailing_ones-ones.result c.requires in
    rw size (omega (arith, low, size_below c.trailing_ones-ones.result k))

pub returns : goal.returns
returns c =
    let k : c.trailing_ones-ones.result ≤ 54 = let h = trailing_ones-le c.args.addr c.requires in omega (arith, c.trailing_ones-ones.ensures) in
    let size = size_is c.trailing_ones-ones.result k in
    rw (size, c.trailing_ones-ones.ensures)
