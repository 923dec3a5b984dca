use Rattle.std.proofs.Common.{w32, of_z, ap, ◌∙◌, sym, arith}
use Rattle.std.proofs.lemmas.Int.{to_z-of_z}
use Rattle.rv_insn.proofs.Immediates.{j_bits}
use Rattle.rv_insn.proofs.encoding.jump.Goals as goal

pub returns : goal.returns
returns c = λ word code d imm.
    let low = j_bits word c.cast_unsigned.result (c.cast_unsigned.ensures ∙ ap (of_z w32) (to_z-of_z w32 c.args.offset c.ranges.offset ∙ sym imm)) in
    c.upper.ensures word code d (omega (arith, low, c.jump_bits.ensures))
