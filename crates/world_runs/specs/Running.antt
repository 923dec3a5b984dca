-- What the accesses of a run decide.
use Rattle.std.specs.Prelude.{ℕ, Bool}
use Rattle.pl_base.specs.declared.place.Place.{Place}
use Rattle.rv_alone.specs.Effect.{act_of, advanced, loaded}
use Rattle.mon_enclave.specs.declared.enclave.Enclave.{Enclave}
use Rattle.rv_hart.specs.declared.walks.Micro.{Micro}
use Rattle.rv_hart.specs.declared.walks.Micro.TheVariants.{Fetching, Reaching}
use Rattle.rv_hart.specs.declared.walks.Walk.{Walk}
use Rattle.world_events.specs.Running.{runner}
use Rattle.world_machine.specs.Pages.{part_of_word}
use Rattle.world_machine.specs.Running.{RunNow, acts, breaks_done, faults, retired_with, retires}
use Rattle.world_machine.specs.Worlds.{WorldData}
use Rattle.world_runs.specs.declared.walking.Purpose.{Purpose}
use Rattle.world_runs.specs.declared.walking.Purpose.TheVariants as purpose_is

-- what the walk of an instruction is for
abbrev pub micro_with : Purpose → Walk → Micro
micro_with purpose_is.Word = Fetching
micro_with (purpose_is.Data word) = Reaching word

-- the eight bytes that hold the word at pc are read
abbrev pub fetch_goes : RunNow → WorldData → ℕ → WorldData
fetch_goes run left eight =
    let r : Enclave = runner left run in
    let word : ℕ = part_of_word eight r.context.pc 4 in
    acts left run r word (act_of r.context word)

-- those that hold the data of a load
abbrev pub load_goes : RunNow → ℕ → ℕ → Bool → ℕ → WorldData → ℕ → WorldData
load_goes run address width is_signed rd left eight =
    let r : Enclave = runner left run in
    retires left run (retired_with r (loaded r.context rd width is_signed (part_of_word eight address width)))

-- the data of a store is written
abbrev pub store_goes : RunNow → WorldData → Unit {0} → WorldData
store_goes run left done =
    let r : Enclave = runner left run in
    retires left run (retired_with r (advanced r.context))

-- a page was broken
abbrev pub break_goes : RunNow → ℕ → WorldData → Unit {0} → WorldData
break_goes run index left done = breaks_done left run index

abbrev pub run_faults : RunNow → WorldData → Place → WorldData
run_faults run left place = faults run (runner left run) left place
