use Rattle.rv_pmp.proofs.AlignedSpan.{aligned_span-is}
use Rattle.rv_pmp.proofs.law.registers_name_ranges.Goals as goal

pub returns : goal.returns
returns c = aligned_span-is
