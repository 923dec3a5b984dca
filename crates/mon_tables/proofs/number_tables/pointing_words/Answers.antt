use Rattle.std.proofs.Common.{ap, set, replicate, ◌∙◌}
use Rattle.mon_tables.proofs.LeafWords.{pointing}
use Rattle.mon_tables.proofs.number_tables.pointing_words.Goals as goal

pub returns : goal.returns
returns c = ap (λ word. set (replicate 512 0) 0 word) c.pointer_word.ensures ∙ pointing c.args.page
