use Rattle.std.proofs.Common.{◌≡◌, length, take, sum_by}
use Rattle.world_attack.proofs.room.line_count.Given as goal

abbrev pub invariant-loop-lines : goal.invariant-loop-lines
invariant-loop-lines l = l.count ≡ sum_by length (take l.lines-index l.scripts)
