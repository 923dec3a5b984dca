-- The world after an event, for positions that a choice answers.
use Rattle.std.specs.Prelude.{ℕ, ◌≡◌, ◌+◌, Bool, if◌then◌else◌, List, Some}
use Rattle.pl_base.specs.Address.{vpn_of}
use Rattle.pl_base.specs.declared.address.Va.{Va}
use Rattle.mem_ctl.specs.Stops.{StepAnswer, Done, Refused, Collided}
use Rattle.mem_ctl.specs.Results.{AreGiven}
use Rattle.mem_slots.specs.declared.slot_use.SlotUse.{SlotUse}
use Rattle.mon_host.specs.Leaves.{host_space}
use Rattle.pl_history.specs.declared.answer.Answer.TheVariants as answer_is
use Rattle.world_machine.specs.declared.under.Under.TheVariants.{Putting, Removing}
use Rattle.world_machine.specs.Acknowledging.{without_covered}
use Rattle.world_machine.specs.Answering.{answers, begins, goes_on, keeps_collision}
use Rattle.world_machine.specs.Worlds.{Event, WorldData, tlb_at, with_tlb}

-- the world is the one after the event, with positions that the choice answers on the slots that it is shown
pub record IsEvent (gives : List SlotUse → ℕ → Type 0) (event : List ℕ → Event) (new : WorldData) : Type 0 where
  pub positions : List ℕ
  pub given : AreGiven gives (event positions).shown positions
  pub is : new ≡ (event positions).world

-- what a step that put a page answered decides: the number is made or goes on, the line is refused, or a collision is kept
abbrev pub put_by : WorldData → ℕ → ℕ → StepAnswer Bool → WorldData
put_by w hart done (Done last) = if last then answers w hart answer_is.Ok else goes_on w hart (Putting (done + 1))
put_by w hart done (Refused cause) = answers w hart (answer_is.No cause)
put_by w hart done (Collided place held written) = keeps_collision w place held written

-- what `map` answered decides
abbrev pub mapped_by : WorldData → ℕ → StepAnswer (Unit {0}) → WorldData
mapped_by w hart (Done done) = answers w hart answer_is.Ok
mapped_by w hart (Refused cause) = answers w hart (answer_is.No cause)
mapped_by w hart (Collided place held written) = keeps_collision w place held written

-- and what the first event of `unmap` answered: the hart has dropped its own translation, and waits for the others
abbrev pub unmapped_by : WorldData → ℕ → Va → StepAnswer ℕ → WorldData
unmapped_by w hart va (Done page) = begins (with_tlb w hart (without_covered (tlb_at w.tlbs hart) host_space (Some (vpn_of va)))) hart (Removing page)
unmapped_by w hart va (Refused cause) = answers w hart (answer_is.No cause)
unmapped_by w hart va (Collided place held written) = keeps_collision w place held written
