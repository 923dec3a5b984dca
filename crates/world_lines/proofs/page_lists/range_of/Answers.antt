use Rattle.std.proofs.Common.{ap}
use Rattle.std.specs.Option.{option_copied}
use Rattle.world_lines.proofs.Ranges.{three_parts}
use Rattle.world_lines.proofs.page_lists.range_of.Goals as goal

pub returns-in-Some-rest : goal.returns-in-Some-rest
returns-in-Some-rest c =
    let first = c.first_part-first in
    let last = c.first_part-last in
    three_parts c.args.text.now first.result.part.now c.in-Some.rest.now last.result.part.now c.in-Some-rest.field-0.now _ _ (ap option_copied c.in-Some.is) (ap option_copied c.in-Some-rest.is) first.ensures.parts last.ensures.parts
