-- How far a line is after an acknowledgement, by the line without its pages.
use Rattle.std.specs.Prelude.{◌+◌, ◌==◌, if◌then◌else◌}
use Rattle.pl_base.specs.declared.number.Space.{Space}
use Rattle.rv_hart.specs.declared.walks.Micro.{Micro}
use Rattle.rv_hart.specs.declared.walks.Micro.TheVariants.{Fetching}
use Rattle.rv_hart.specs.declared.walks.Walk.TheVariants.{Start}
use Rattle.world_events.specs.declared.dues.Due.{Due}
use Rattle.world_events.specs.declared.dues.Due.TheVariants as due_is
use Rattle.world_machine.specs.declared.under.Under.{Under}
use Rattle.world_machine.specs.declared.under.Under.TheVariants.{Seeking, Running}

-- where the instruction of an enclave is, after a fence of a space was acknowledged
abbrev pub micro_restarted : Space → Due → Micro → Micro
micro_restarted space (due_is.Run e budget first) micro = if space.0 == e.0 + 1 then Fetching Start else micro
micro_restarted space due micro = micro

-- how far a line is then
abbrev pub restarted_due : Space → Due → Under → Under
restarted_due space due (Seeking walk) = Seeking (if space.0 == 0 then Start else walk)
restarted_due space due (Running micro count) = Running (micro_restarted space due micro) count
restarted_due space due under = under
