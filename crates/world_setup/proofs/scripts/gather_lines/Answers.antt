use Rattle.std.proofs.Common.{[]}
use Rattle.world_lines.specs.Forms.{line_of}
use Rattle.world_setup.proofs.Steps.{pushed_at}
use Rattle.world_setup.proofs.scripts.gather_lines.Goals as goal

pub loop-text-preserved : goal.loop-text-preserved
loop-text-preserved c =
    pushed_at (λ t. line_of t.now) c.args.texts.now c.loop-text.text-index (record { ref_ptr = (0, 0); now = [] }) c.loop-text.lines.items _ c.loop-text-test.true c.loop-text.invariant
    (c.in_ok-push_line.ensures {u = tt})
