use Rattle.std.proofs.Common.{◌<◌, ℕ, Bool, length, sym, ◌∙◌, arith}
use Rattle.mon_enclave.specs.Records.{enclave_at}
use Rattle.mon_shadow.specs.Dropping.{is_child_of}
use Rattle.mon_shadow.proofs.DropLemmas.{found_later}
use Rattle.mon_shadow.proofs.dropping.first_child.Goals as goal

pub loop-child-preserved : goal.loop-child-preserved
loop-child-preserved c =
    let test : ℕ → Bool = λ child. is_child_of c.args.s.0 (enclave_at c.args.enclaves.now child) in
    let below : c.loop-child.child < length c.args.enclaves.now = omega (arith, c.loop-child-test.true, c.len-child-end.ensures.value, c.len-child-end.ensures.few) in
    c.loop-child.invariant ∙ found_later test c.loop-child.child (length c.args.enclaves.now) below (sym c.is_child.ensures ∙ c.if-is_child.false)
