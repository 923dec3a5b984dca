use Rattle.std.proofs.Common.{ap}
use Rattle.std.specs.Option.{option_copied}
use Rattle.world_lines.proofs.FirstWords.{five_words}
use Rattle.world_lines.proofs.words.after_three.Goals as goal

pub returns-in-Some : goal.returns-in-Some
returns-in-Some c =
    five_words c.args.text.now c.first_word-next.result.part.now c.in-Some.field-0.now (option_copied c.first_word-next.result.rest) (ap option_copied c.in-Some.is) c.first_word-next.ensures
