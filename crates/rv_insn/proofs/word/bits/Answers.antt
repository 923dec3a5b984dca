use Rattle.std.proofs.Common.{◌+◌, ◌-◌, ◌^◌, ◌/◌, bit_and, arith, ap, ◌∙◌}
use Rattle.std.proofs.lemmas.Nat.{and_mask, one_shl}
use Rattle.rv_insn.proofs.word.bits.Goals as goal

pub returns-clause-value : goal.returns-clause-value
returns-clause-value c =
    let width = c.args.high + 1 - c.args.low in
    let one = one_shl width 32 (omega arith) in
    ap (λ m. bit_and (c.args.word / 2 ^ c.args.low) (m - 1)) one ∙ and_mask (c.args.word / 2 ^ c.args.low) width
