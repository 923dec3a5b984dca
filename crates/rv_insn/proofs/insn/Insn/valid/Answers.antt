use Rattle.std.proofs.Common.{ap, ◌∙◌, sym}
use Rattle.rv_insn.specs.Table.{instruction_of}
use Rattle.rv_insn.proofs.Same.{told, tells}
use Rattle.rv_insn.proofs.insn.Insn.valid.Goals as goal

pub returns : goal.returns
returns c =
    let found = c.decode.ensures.value in (
      λ e. (c.word_of.result, c.word_of.type_inv, sym found ∙ told c.decode.result c.args.self.now (sym c.eq.ensures ∙ e)),
      λ v. c.eq.ensures ∙ tells c.decode.result c.args.self.now (found ∙ ap instruction_of (c.word_of.ensures v.0 v.1 v.2) ∙ v.2),
    )
