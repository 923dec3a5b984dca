use Rattle.std.proofs.Common.{◌≡◌, cond, ◌∙◌, sym, refl}
use Rattle.rv_insn.specs.declared.insn.Insn.TheVariants.{Op}
use Rattle.rv_insn.proofs.Spelled.{spelled}
use Rattle.rv_insn.proofs.encoding.operation.Goals as goal
use Rattle.rv_insn.proofs.encoding.operation.Goals.{then-code, else-code}

pub returns : goal.returns
returns c = record {
  same = λ word small is.
      let code = c.op_code-code.ensures.register word c.args.rd c.args.rs1 c.args.rs2 small is in
      let s = spelled word (Op c.args.op c.args.rd c.args.rs1 c.args.rs2) small is in
      let opcode : c.if-code.result ≡ cond c.op_code-code.result.word 59 51 = elim c.if-code.branch [ then-code w ↦ (let t = w.if-code.true in rw t w.result-is) | else-code w ↦ (let f = w.if-code.false in rw f w.result-is) ] in
      let d = c.from.ensures ∙ s.1 in
      let a = c.from-2.ensures ∙ s.2 in
      let b = c.from-3.ensures ∙ s.3 in
      let o = opcode ∙ sym code.opcode_is in
      let f = sym code.funct3_is in
      let g = sym code.funct7_is in
      rw (o, d, f, a, b, g) refl;
}
