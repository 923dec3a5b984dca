use Rattle.std.proofs.Common.{◌-◌, option_map, arith, rules, ◌∙◌}
use Rattle.pl_history.specs.Attacking.{latest_kept}
use Rattle.world_attack.specs.Kept.{placed}
use Rattle.world_attack.proofs.KeptLemmas.{latest_kept-at}
use Rattle.world_attack.proofs.kept.latest_kept.Goals as goal

pub returns-then-is_some : goal.returns-then-is_some
returns-then-is_some c =
    latest_kept-at c.args.setup.now c.bytes-bytes.result.now c.args.name.now c.entries-entries.result.now c.loop-at.at (c.loop-at.at - 1) _
    (option_map placed c.kept_by-kept.result) (omega arith) (omega arith) c.loop-at.invariant c.kept_by-kept.ensures (search rules)
    ∙ (λ i. latest_kept c.args.setup.now (c.bytes-bytes.ensures.bytes i) c.args.name.now (c.entries-entries.ensures.entries i))
