use Rattle.std.proofs.Common.{◌≡◌, ◌/◌, length, take}
use Rattle.mem_ctl.specs.Start.{HasWords}
use Rattle.mem_ctl.proofs.start.write_words.Given as goal

abbrev pub invariant-loop-i : goal.invariant-loop-i
invariant-loop-i l = record { stand : HasWords (length l.initial.memory / 4096) (take l.i l.words) l.memory; size : length l.memory ≡ length l.initial.memory }
