-- The tables in the guarded pages, as last written, are those of the host's space and of the space of each live number.
use Rattle.std.specs.Prelude.{◌≡◌, ℕ, true}
use Rattle.mem_ctl.specs.Data.{CtlData}
use Rattle.mon_enclave.specs.declared.enclave.Enclave.{Enclave}
use Rattle.mon_host.specs.Laws.{mirror_words}
use Rattle.mon_life.specs.Pages.{leaves_of}
use Rattle.mon_tables.specs.SpaceWalks.{HostTables, NumberTables}
use Rattle.pl_history.specs.declared.setup.SetupParts.{SetupParts}
use Rattle.pl_history.specs.Monitor.{Monitor}
use Rattle.world_machine.specs.Making.{image_of}

pub record TablesAgree (setup : SetupParts) (ctl : CtlData) (record_of : ℕ → Enclave) (s : Monitor) : Type 0 where
  pub host : HostTables setup.tables (mirror_words ctl) s.space
  pub numbers : (e : ℕ) → (s.number e).live ≡ true
      → NumberTables setup.tables e (mirror_words ctl) (leaves_of (record_of e).pages (image_of setup (record_of e).image).pages)
