use Rattle.mon_life.proofs.DestroyLaws.{destroys_begin}
use Rattle.mon_life.proofs.laws.destroys_begin.Goals as goal

pub returns : goal.returns
returns c = destroys_begin
