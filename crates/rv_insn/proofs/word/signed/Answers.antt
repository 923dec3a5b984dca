use Rattle.std.proofs.Common.{◌-◌, arith}
use Rattle.rv_insn.proofs.Signed.{signed_by_shifts}
use Rattle.rv_insn.proofs.word.signed.Goals as goal

pub returns : goal.returns
returns c =
    signed_by_shifts c.args.width (32 - c.args.width) c.args.value c.requires.some (omega arith) c.requires.fits c.cast_signed.result c.cast_signed.ensures c.cast_signed.type_inv
