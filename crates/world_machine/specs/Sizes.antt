-- The setup is one that can be run, and the lists of the world have the lengths that it gives; guarded pages stay guarded.
use Rattle.std.specs.Prelude.{◌≡◌, ℕ, ◌+◌, ◌<◌, List, length, slice_get, Some}
use Rattle.mem_ctl.specs.Data.{CtlData}
use Rattle.mon_enclave.specs.declared.enclave.Enclave.{Enclave}
use Rattle.mon_owner.specs.declared.owners.Owner.{Owner}
use Rattle.mon_owner.specs.declared.owners.Owner.TheVariants.{Guard}
use Rattle.pl_history.specs.declared.setup.SetupParts.{SetupParts}
use Rattle.pl_history.specs.Rules.{IsSetup, guarded_of, pages_of}
use Rattle.world_machine.specs.declared.under.Under.{Under}
use Rattle.world_machine.specs.ByteBounds.{AreImageBytes}
use Rattle.world_machine.specs.LineNumbers.{ScriptsFit}

pub record HasSizes (setup : SetupParts) (ctl : CtlData) (owners : List Owner) (enclaves : List Enclave) (under : List Under) (answered : List ℕ) : Type 0 where
  pub rules : IsSetup setup
  pub bytes : AreImageBytes setup.images
  pub lines_fit : ScriptsFit setup.lines
  pub zones : ctl.zones ≡ setup.zones
  pub slots : ctl.slots ≡ setup.slots
  pub pages : length owners ≡ pages_of setup.zones
  pub guarded : (page : ℕ) → page < guarded_of setup.tables setup.enclaves → slice_get owners page ≡ Some Guard
  pub numbers : length enclaves ≡ setup.enclaves
  pub harts : length under ≡ setup.harts
  pub actors : length answered ≡ setup.harts + 1
