-- A run under way as plain data.
use Rattle.mon_enclave.specs.declared.enclave.Enclave.{Enclave}
use Rattle.mon_enclave.specs.Records.{enclave_at}
use Rattle.world_events.specs.declared.running.Run.{Run}
use Rattle.world_machine.specs.Running.{RunNow}
use Rattle.world_machine.specs.Worlds.{WorldData}

abbrev pub run_now : Run → RunNow
run_now run = record { hart = run.hart.0; e = run.e.0; budget = run.budget; count = run.count }

-- the record of the number that runs
abbrev pub runner : WorldData → RunNow → Enclave
runner w run = enclave_at w.enclaves run.e
