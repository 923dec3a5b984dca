use Rattle.std.proofs.Common.{◌==◌, sym}
use Rattle.world_lines.proofs.FirstWords.{cut_at, cut_nowhere}
use Rattle.world_lines.proofs.words.first_part.Goals as goal

pub returns-in-Some-clause-parts : goal.returns-in-Some-clause-parts
returns-in-Some-clause-parts c = cut_at (λ b. b == c.args.byte) c.args.text.now c.in-Some.at (sym c.in-Some.ensures)

pub returns-in-None-clause-parts : goal.returns-in-None-clause-parts
returns-in-None-clause-parts c = cut_nowhere (λ b. b == c.args.byte) c.args.text.now (sym c.in-None.ensures)
