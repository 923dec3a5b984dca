use Rattle.std.proofs.Common.{◌≡◌, ◌-◌, ◌≤◌, length}
use Rattle.std.specs.Option.{option_copied}
use Rattle.world_lines.specs.Words.{words_after}
use Rattle.world_lines.specs.Order.{actors_then, actors_from, order_of}
use Rattle.world_lines.proofs.order.order_of.Given as goal

abbrev pub invariant-loop-rest : goal.invariant-loop-rest
invariant-loop-rest l = record {
  few : length l.actors ≤ 100000;
  same : actors_then l.actors (actors_from l.harts (length l.actors) (words_after (option_copied l.rest))) ≡ order_of l.harts l.fn.text;
}

abbrev pub decreases-loop-rest : goal.decreases-loop-rest
decreases-loop-rest l = 100001 - length l.actors
