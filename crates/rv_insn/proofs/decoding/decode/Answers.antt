use Rattle.rv_insn.proofs.Apart.{exact_rows}
use Rattle.rv_insn.proofs.Spelled.{all_well_formed}
use Rattle.rv_insn.proofs.decoding.decode.Goals as goal

pub returns-clause-rows : goal.returns-clause-rows
returns-clause-rows c = exact_rows c.args.word c.by_opcode.result c.by_opcode.ensures

pub returns-clause-well_formed : goal.returns-clause-well_formed
returns-clause-well_formed c = all_well_formed c.args.word c.by_opcode.result c.ranges.word.fits c.by_opcode.ensures
