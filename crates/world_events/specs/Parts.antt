-- The world's plain data from the parts of the machine.
use Rattle.std.specs.Prelude.{ℕ, List, Option, option_map}
use Rattle.rv_tlb.specs.declared.tlb.TlbEntry.{TlbEntry}
use Rattle.mem_ctl.specs.declared.broken.Collision.{Collision}
use Rattle.mem_ctl.specs.Data.{CtlData}
use Rattle.mon_enclave.specs.declared.enclave.Enclave.{Enclave}
use Rattle.mon_fence.specs.declared.fences.Fence.{Fence}
use Rattle.mon_owner.specs.declared.owners.Owner.{Owner}
use Rattle.pl_history.specs.declared.setup.SetupParts.{SetupParts}
use Rattle.pl_history.specs.History.{HistoryData}
use Rattle.world_machine.specs.declared.under.Under.{Under}
use Rattle.world_machine.specs.Worlds.{CollisionData, WorldData}

abbrev pub collision_data : Collision → CollisionData
collision_data c = record { place = c.place; held = c.held.items; written = c.written.items }

abbrev pub world_data : SetupParts → CtlData → List Owner → List Enclave → List (List TlbEntry) → List (Option Fence) → List Under → List ℕ → HistoryData → Option Collision → ℕ → WorldData
world_data setup ctl owners enclaves tlbs fences under answered history collision moves = record {
  setup = setup;
  ctl = ctl;
  owners = owners;
  enclaves = enclaves;
  tlbs = tlbs;
  fences = fences;
  under = under;
  answered = answered;
  history = history;
  collision = option_map collision_data collision;
  moves = moves;
}
