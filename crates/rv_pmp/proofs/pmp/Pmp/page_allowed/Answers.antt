use Rattle.std.proofs.Common.{◌+◌, ◌*◌, ◌%◌, ◌≡◌, ◌∙◌, ap, arith}
use Rattle.std.specs.Cmp.{both_ways}
use Rattle.rv_pmp.proofs.Deciding.{permits_after-part}
use Rattle.rv_pmp.proofs.Pieces.{piece_of, piece_of-lt, piece_covers, pieces_allowed-from, pieces_allowed-each}
use Rattle.mem_geom.specs.Layout.{page_start}
use Rattle.pl_base.specs.Span.{span}
use Rattle.rv_pmp.specs.Pmp.{pieces_allowed}
use Rattle.rv_pmp.proofs.pmp.Pmp.page_allowed.Goals as goal

pub returns-clause-accesses : goal.returns-clause-accesses
returns-clause-accesses c = λ allowed pa width kind is_width aligned low high.
    let start = page_start c.args.page in
    let begins : start % 8 ≡ 0 = omega arith in
    let inside = piece_covers start pa width begins low is_width aligned in
    let piece = piece_of start pa in
    let passes = c.page_is_open.ensures.0 allowed piece (piece_of-lt start pa begins high) kind in
    rw (← c.self.view_is) (permits_after-part 0 c.self.inside.rules (span (start + 8 * piece) (start + 8 * piece + 8)) (span pa (pa + width)) kind inside.0 inside.1 (rw c.page_start.ensures at passes))

pub returns-clause-allowed : goal.returns-clause-allowed
returns-clause-allowed c =
    let rules = c.self.inside.rules in
    let start = c.page_start.result in
    let tested : c.page_is_open.result ≡ pieces_allowed rules start 512 = both_ways _ _
    (λ passes. pieces_allowed-from rules start 512 (c.page_is_open.ensures.0 passes))
    (λ allowed. c.page_is_open.ensures.1 (pieces_allowed-each rules start 512 allowed)) in
    rw (← c.self.view_is) (tested ∙ ap (λ at. pieces_allowed rules at 512) c.page_start.ensures)
