use Rattle.std.proofs.Common.{◌≡◌, w32, of_z, FitsSigned, ap, ◌∙◌, sym, arith, rules}
use Rattle.std.proofs.lemmas.Int.{to_z-of_z}
use Rattle.rv_insn.specs.Word.{u_immediate}
use Rattle.rv_insn.specs.declared.insn.Insn.TheVariants.{Lui, Auipc, Jal, Jalr, Branch, Load, Store, Fence, Ecall, Ebreak}
use Rattle.rv_insn.proofs.Immediates.{i_bits, u_bits}
use Rattle.rv_insn.proofs.Spelled.{spelled}
use Rattle.rv_insn.proofs.encoding.fields.Goals as goal

pub returns-in-Lui : goal.returns-in-Lui
returns-in-Lui c = rw c.in-Lui.is (record {
  same = λ word small is.
      let s = spelled word (Lui c.in-Lui.rd c.in-Lui.imm) small is in
      let fits : FitsSigned w32 c.in-Lui.imm = search rules in
      let u : c.cast_unsigned.result ≡ of_z w32 (u_immediate word) = c.cast_unsigned.ensures ∙ ap (of_z w32) (to_z-of_z w32 c.in-Lui.imm fits ∙ s.2) in
      c.upper.ensures word s.0 (sym s.1) (omega (arith, u_bits word c.cast_unsigned.result u, c.bits.ensures.value));
})

pub returns-in-Auipc : goal.returns-in-Auipc
returns-in-Auipc c = rw c.in-Auipc.is (record {
  same = λ word small is.
      let s = spelled word (Auipc c.in-Auipc.rd c.in-Auipc.imm) small is in
      let fits : FitsSigned w32 c.in-Auipc.imm = search rules in
      let u : c.cast_unsigned-in-Auipc.result ≡ of_z w32 (u_immediate word) = c.cast_unsigned-in-Auipc.ensures ∙ ap (of_z w32) (to_z-of_z w32 c.in-Auipc.imm fits ∙ s.2) in
      c.upper-in-Auipc.ensures word s.0 (sym s.1) (omega (arith, u_bits word c.cast_unsigned-in-Auipc.result u, c.bits-in-Auipc.ensures.value));
})

pub returns-in-Jal : goal.returns-in-Jal
returns-in-Jal c = rw c.in-Jal.is (record {
  same = λ word small is.
      let s = spelled word (Jal c.in-Jal.rd c.in-Jal.offset) small is in
      let fits : FitsSigned w32 c.in-Jal.offset = search rules in
      c.jump.ensures word s.0 (sym s.1) (sym (to_z-of_z w32 c.in-Jal.offset fits ∙ s.2));
})

pub returns-in-Jalr : goal.returns-in-Jalr
returns-in-Jalr c = rw c.in-Jalr.is (record {
  same = λ word small is.
      let s = spelled word (Jalr c.in-Jalr.rd c.in-Jalr.rs1 c.in-Jalr.imm) small is in
      let fits : FitsSigned w32 c.in-Jalr.imm = search rules in
      let i = c.cast_unsigned-in-Jalr.ensures ∙ ap (of_z w32) (to_z-of_z w32 c.in-Jalr.imm fits ∙ s.4) in
      c.immediate.ensures word s.0 s.1 (sym s.2) (sym s.3) (i_bits word c.cast_unsigned-in-Jalr.result i);
})

pub returns-in-Branch : goal.returns-in-Branch
returns-in-Branch c = rw c.in-Branch.is (record {
  same = λ word small is.
      let s = spelled word (Branch c.in-Branch.cond c.in-Branch.rs1 c.in-Branch.rs2 c.in-Branch.offset) small is in
      let code = c.branch_code.ensures.same word c.in-Branch.rs1 c.in-Branch.rs2 c.in-Branch.offset small is in
      let fits : FitsSigned w32 c.in-Branch.offset = search rules in
      c.branch-branch_code.ensures word s.0 code (sym s.2) (sym s.3) (sym (to_z-of_z w32 c.in-Branch.offset fits ∙ s.4));
})

pub returns-in-Load : goal.returns-in-Load
returns-in-Load c = rw c.in-Load.is (record {
  same = λ word small is.
      let s = spelled word (Load c.in-Load.width c.in-Load.signed c.in-Load.rd c.in-Load.rs1 c.in-Load.imm) small is in
      let code = c.load_code.ensures.same word c.in-Load.rd c.in-Load.rs1 c.in-Load.imm small is in
      let fits : FitsSigned w32 c.in-Load.imm = search rules in
      let i = c.cast_unsigned-in-Load.ensures ∙ ap (of_z w32) (to_z-of_z w32 c.in-Load.imm fits ∙ s.4) in
      c.immediate-in-Load.ensures word s.0 code (sym s.2) (sym s.3) (i_bits word c.cast_unsigned-in-Load.result i);
})

pub returns-in-Store : goal.returns-in-Store
returns-in-Store c = rw c.in-Store.is (record {
  same = λ word small is.
      let s = spelled word (Store c.in-Store.width c.in-Store.rs1 c.in-Store.rs2 c.in-Store.imm) small is in
      let code = c.store_code.ensures.same word c.in-Store.rs1 c.in-Store.rs2 c.in-Store.imm small is in
      let fits : FitsSigned w32 c.in-Store.imm = search rules in
      c.store.ensures word s.0 code (sym s.2) (sym s.3) (sym (to_z-of_z w32 c.in-Store.imm fits ∙ s.4));
})

pub returns-in-Fence : goal.returns-in-Fence
returns-in-Fence c = rw c.in-Fence.is (record {
  same = λ word small is.
      let s = spelled word (Fence c.in-Fence.high c.in-Fence.rd) small is in
      c.upper-in-Fence.ensures word s.0 (sym s.3) (omega (arith, s.1, s.2));
})

pub returns-in-Ecall : goal.returns-in-Ecall
returns-in-Ecall c = rw c.in-Ecall.is (record {
  same = λ word small is.
      let s = spelled word Ecall small is in
      c.upper-in-Ecall.ensures word (omega (arith, s)) (omega (arith, s)) (omega (arith, s));
})

pub returns-in-Ebreak : goal.returns-in-Ebreak
returns-in-Ebreak c = rw c.in-Ebreak.is (record {
  same = λ word small is.
      let s = spelled word Ebreak small is in
      c.upper-in-Ebreak.ensures word (omega (arith, s)) (omega (arith, s)) (omega (arith, s));
})
