-- The attacker's lines.
use Rattle.std.specs.Prelude.{◌+◌, slice_set}
use Rattle.mem_ctl.specs.Data.{with_off_chip}
use Rattle.pl_history.specs.declared.answer.Answer.TheVariants as answer_is
use Rattle.world_attack.specs.Attacks.{Exposed, attacked_line, exposed}
use Rattle.world_machine.specs.Answering.{entry_now, quiet, with_entry}
use Rattle.world_machine.specs.Worlds.{Event, WorldData, answered_at}

-- one more line of the attacker is answered
abbrev pub attacker_goes_on : WorldData → WorldData
attacker_goes_on w = record w { answered = slice_set w.answered w.setup.harts (answered_at w.answered w.setup.harts + 1) }

-- `write`, `keep` and `back`
abbrev pub attacks : WorldData → Event
attacks w =
    let x : Exposed = attacked_line w.setup (answered_at w.answered w.setup.harts) (exposed w.history w.ctl.off_chip) in
    quiet (attacker_goes_on (record w { ctl = with_off_chip w.ctl x.off_chip; history = x.history }))

-- `after`
abbrev pub attacker_waited : WorldData → Event
attacker_waited w = quiet (attacker_goes_on (record w { history = with_entry w.history (entry_now w w.setup.harts answer_is.Ok) }))
