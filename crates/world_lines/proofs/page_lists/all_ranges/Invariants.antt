use Rattle.std.proofs.Common.{◌≡◌, ◌++◌, suc, length, option_map}
use Rattle.std.specs.Option.{option_copied, option_map_or}
use Rattle.world_lines.specs.Words.{parts_of, parts_after}
use Rattle.world_lines.specs.PageLists.{all_ranges}
use Rattle.world_lines.proofs.page_lists.all_ranges.Given as goal

abbrev pub invariant-loop-rest : goal.invariant-loop-rest
invariant-loop-rest l = option_map (λ ranges. l.ranges.items ++ ranges) (all_ranges (parts_after 44 (option_copied l.rest))) ≡ all_ranges (parts_of 44 l.fn.text)

abbrev pub decreases-loop-rest : goal.decreases-loop-rest
decreases-loop-rest l = option_map_or (λ text. suc (length text)) (option_copied l.rest) 0
