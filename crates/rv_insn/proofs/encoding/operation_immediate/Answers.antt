use Rattle.std.proofs.Common.{◌≡◌, cond, ap, ◌∙◌, sym, w32, of_z, bit_or, ◌*◌, ◌%◌, ◌^◌}
use Rattle.std.proofs.lemmas.Int.{to_z-of_z}
use Rattle.rv_insn.specs.declared.insn.Insn.TheVariants.{OpImm}
use Rattle.rv_insn.proofs.Spelled.{spelled}
use Rattle.rv_insn.proofs.encoding.operation_immediate.Goals as goal
use Rattle.rv_insn.proofs.encoding.operation_immediate.Goals.{then-code, else-code}

pub returns : goal.returns
returns c = record {
  same = λ word small is.
      let code = c.op_code-code.ensures.immediate word c.args.rd c.args.rs1 c.args.imm small is in
      let s = spelled word (OpImm c.args.op c.args.rd c.args.rs1 c.args.imm) small is in
      let opcode : c.if-code.opcode ≡ cond c.op_code-code.result.word 27 19 = elim c.if-code.branch [ then-code w ↦ (let t = w.if-code.true in rw t w.opcode-is) | else-code w ↦ (let f = w.if-code.false in rw f w.opcode-is) ] in
      let imm : c.cast_unsigned.result ≡ of_z w32 c.args.imm = c.cast_unsigned.ensures ∙ ap (of_z w32) (to_z-of_z w32 c.args.imm c.ranges.imm) in
      c.immediate.ensures word (code.opcode_is ∙ sym opcode) code.funct3_is (sym s.1) (sym s.2)
      (code.low_is ∙ ap (λ x. bit_or (c.op_code-code.result.funct7 * 2 ^ 5 % 2 ^ 32) x % 2 ^ 12) (sym imm));
}
