use Rattle.pl_history.proofs.printing.put_refusal.Goals as goal

pub returns-in-Misaligned : goal.returns-in-Misaligned
returns-in-Misaligned g c = rw c.in-Misaligned.is c.put_text.ensures

pub returns-in-PageFault : goal.returns-in-PageFault
returns-in-PageFault g c = rw c.in-PageFault.is c.put_text-in-PageFault.ensures

pub returns-in-BadAddress : goal.returns-in-BadAddress
returns-in-BadAddress g c = rw c.in-BadAddress.is c.put_text-in-BadAddress.ensures

pub returns-in-NotYours : goal.returns-in-NotYours
returns-in-NotYours g c = rw c.in-NotYours.is c.put_last.ensures

pub returns-in-StillMapped : goal.returns-in-StillMapped
returns-in-StillMapped g c = rw c.in-StillMapped.is c.put_last-in-StillMapped.ensures

pub returns-in-NoEnclave : goal.returns-in-NoEnclave
returns-in-NoEnclave g c = rw c.in-NoEnclave.is c.put_text-in-NoEnclave.ensures

pub returns-in-WrongState : goal.returns-in-WrongState
returns-in-WrongState g c = rw (c.in-WrongState.is, ← c.state_name.ensures) c.put_pieces.ensures

pub returns-in-TooMany : goal.returns-in-TooMany
returns-in-TooMany g c = rw c.in-TooMany.is c.put_text-in-TooMany.ensures
