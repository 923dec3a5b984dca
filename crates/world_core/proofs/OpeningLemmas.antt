-- The world that a run begins with is reached.
use Rattle.std.proofs.Common.{ℕ, List, [], refl}
use Rattle.pl_history.specs.declared.setup.SetupParts.{SetupParts}
use Rattle.world_machine.specs.Reached as reached
use Rattle.world_machine.specs.Reached.{CanRun, Reached, opening_world}

pub opened_reached : (digest_of : List ℕ → List ℕ) (setup : SetupParts) → CanRun setup → Reached digest_of (opening_world digest_of setup)
unfolding reached.opening_world
opened_reached digest_of setup can = record { setup = can; steps = []; is = refl; fit = tt }
