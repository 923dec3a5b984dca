use Rattle.std.proofs.Common.{◌≡◌, ◌+◌, ◌≤◌, length, sum_by, ap, ◌∙◌, arith}
use Rattle.world_setup.proofs.LineCounts.{attack_fits}
use Rattle.world_setup.proofs.reading.lines_known.Goals as goal

pub after-requires : goal.after-requires
after-requires c =
    let lines : c.count_lines.result ≡ sum_by length c.args.scripts.now.lines = c.count_lines.ensures ∙ ap (sum_by length) c.as_slice-lines.ensures in
    let attacks : length c.as_slice-attacks.result.now ≡ length c.args.scripts.now.attacker = ap length c.as_slice-attacks.ensures in
    let few : c.count_lines.result + length c.as_slice-attacks.result.now ≤ 65536 = omega (arith, c.requires.lines) in
    attack_fits c.args.numbers.now.zones c.as_slice-counts.result.now c.args.numbers.now.harts c.as_slice-attacks.result.now c.count_lines.result c.in_ok-attack.attack c.wide-3.result (c.in_ok-attack.ensures {u = tt})
    c.wide-3.ensures.value few
