-- What is known of the world that a run ends with, and what is written of it.
use Rattle.std.specs.Prelude.{◌≡◌, ◌≢◌, ℕ, List, ◌++◌}
use Rattle.mem_slots.specs.declared.slot_use.SlotUse.{SlotUse}
use Rattle.pl_history.specs.declared.setup.SetupParts.{SetupParts}
use Rattle.pl_history.specs.Summary.{summary_text}
use Rattle.pl_history.specs.Text.{text_of}
use Rattle.pl_history.specs.Unattacked.{IsFaultless, IsUnattacked}
use Rattle.world_core.specs.Report.{world_report}
use Rattle.world_machine.specs.declared.turned.Finished.{Finished}
use Rattle.world_machine.specs.declared.turned.Finished.TheVariants as finished
use Rattle.world_machine.specs.Endings.{EndsBy}
use Rattle.world_machine.specs.HostAccesses.{RemovedStayUnused}
use Rattle.world_machine.specs.Reached.{Reached, opening_world}
use Rattle.world_machine.specs.Runs.{Plays}
use Rattle.world_machine.specs.Standing.{Kept}
use Rattle.world_machine.specs.Worlds.{WorldData}
use Rattle.penglai_main.specs.declared.solo.Printed.{Printed}
use Rattle.penglai_main.specs.declared.solo.Printed.TheVariants as printed_is
use Rattle.penglai_main.specs.declared.status.Status.{Status}
use Rattle.penglai_main.specs.declared.status.Status.TheVariants as status_is
use Rattle.penglai_main.specs.Ends.{Ends, Writes, WritesPrefix, WritesNothing, Failed}

-- the answers of a rule that names the slot to evict
abbrev pub Gives : Type 1
Gives = List SlotUse → ℕ → Type 0

-- what is printed of a history: all of it, a line an entry, or its summary
abbrev pub history_text : Printed → WorldData → List ℕ
history_text printed_is.History w = text_of w.setup.harts w.history
history_text printed_is.Summary w = summary_text w.history.entries

-- the whole output: this, and the report
abbrev pub run_text : Printed → WorldData → Finished → List ℕ
run_text printed w end = history_text printed w ++ world_report w end

-- The world that a run of a setup ends with, and the headline of what is proved: for every order of turns of harts, acknowledgements and attacker,
-- the history that is printed is one of the abstract monitor (`kept`), where each enclave is its image run alone on flat memory with the words sent
-- to it, no access of the host uses a mapping whose removal was answered (`unused`), and each integrity fault names a place that the attacker
-- changed before. Only a collision that is kept, or being stuck, breaks a run off (`ends`). The world is reached (`reached`) by the turns of the
-- setup's order and then of whole rounds, and the evicted slots are those that the choice names (`plays`). Where the attacker changed no byte, no
-- answer is a fault: every line is answered, or the run is stuck (`undisturbed`).
pub record IsRunOf (digest_of : List ℕ → List ℕ) (gives : Gives) (setup : SetupParts) (end : Finished) (w : WorldData) : Type 0 where
  pub setup_is : w.setup ≡ setup
  pub reached : Reached digest_of w
  pub kept : Kept digest_of w
  pub plays : Plays digest_of gives (opening_world digest_of setup) w end
  pub ends : EndsBy digest_of end w
  pub unused : RemovedStayUnused w.setup w.history.bytes w.history.entries
  pub undisturbed : IsUnattacked w.history.entries → IsFaultless w.history.entries × (end ≢ finished.Collision)

-- the world that a run ended with, and the whole of its output
abbrev pub IsWritten : (List ℕ → List ℕ) → Gives → SetupParts → Printed → Finished → WorldData → Ends → Type 0
IsWritten digest_of gives setup printed end w sink = IsRunOf digest_of gives setup end w × Writes sink (run_text printed w end)

-- what the status says that a run from its beginning to this world ends with
abbrev pub PlayedTo : (List ℕ → List ℕ) → Gives → SetupParts → Printed → WorldData → Ends → Status → Type 0
PlayedTo digest_of gives setup printed w sink status_is.Done = IsWritten digest_of gives setup printed finished.Done w sink
PlayedTo digest_of gives setup printed w sink status_is.Collision = IsWritten digest_of gives setup printed finished.Collision w sink
PlayedTo digest_of gives setup printed w sink status_is.Stuck = IsWritten digest_of gives setup printed finished.Stuck w sink
PlayedTo digest_of gives setup printed w sink status_is.WriteFault =
    Failed sink × ((end : Finished) × IsRunOf digest_of gives setup end w × WritesPrefix sink (run_text printed w end))
PlayedTo digest_of gives setup printed w sink _ = ⊥

-- and what it says of a run that makes its world, for which memory may not suffice
abbrev pub RunEnds : (List ℕ → List ℕ) → Gives → SetupParts → Printed → Ends → Status → Type 0
RunEnds digest_of gives setup printed sink status_is.NoMemory = WritesNothing sink
RunEnds digest_of gives setup printed sink status = (w : WorldData) × PlayedTo digest_of gives setup printed w sink status
