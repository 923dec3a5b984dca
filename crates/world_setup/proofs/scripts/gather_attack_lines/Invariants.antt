use Rattle.std.proofs.Common.{◌≡◌, take}
use Rattle.std.specs.List.{filter_map}
use Rattle.world_lines.specs.Forms.{attack_line_of}
use Rattle.world_setup.proofs.scripts.gather_attack_lines.Given as goal

abbrev pub invariant-loop-text : goal.invariant-loop-text
invariant-loop-text l = l.lines.items ≡ filter_map (λ t. attack_line_of t.now) (take l.text-index l.texts)
