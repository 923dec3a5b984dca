use Rattle.rv_alone.proofs.Later.{written_later}
use Rattle.rv_alone.proofs.laws.run_laws.Goals as goal

pub returns-clause-written_later : goal.returns-clause-written_later
returns-clause-written_later c = written_later
