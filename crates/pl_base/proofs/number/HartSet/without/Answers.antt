use Rattle.std.proofs.Common.{◌==◌, ap, w8}
use Rattle.std.proofs.lemmas.Nat.Bits.{bit_at_clear_same, bit_at_clear_other}
use Rattle.pl_base.proofs.number.HartSet.without.Goals as goal

pub returns-clause-gone : goal.returns-clause-gone
returns-clause-gone c = ap (λ bit. bit == 1) (bit_at_clear_same w8 c.args.self.0 c.args.h.0 c.requires)

pub returns-clause-others : goal.returns-clause-others
returns-clause-others c = λ k small other. ap (λ bit. bit == 1) (bit_at_clear_other w8 c.args.self.0 c.args.h.0 c.requires k small other)
