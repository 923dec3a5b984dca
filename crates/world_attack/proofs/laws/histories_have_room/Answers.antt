use Rattle.world_attack.proofs.RoomLemmas.{setups_need, room_for_lines, room_stays}
use Rattle.world_attack.proofs.laws.histories_have_room.Goals as goal

pub returns-clause-start : goal.returns-clause-start
returns-clause-start c = setups_need

pub returns-clause-lines : goal.returns-clause-lines
returns-clause-lines c = room_for_lines

pub returns-clause-stays : goal.returns-clause-stays
returns-clause-stays c = room_stays
