-- Every world that is reached keeps what worlds keep.
use Rattle.std.proofs.Common.{◌≡◌, ℕ, List, length, sym, subst}
use Rattle.world_machine.specs.Reached.{Reached, opening_world}
use Rattle.world_machine.specs.Standing.{Kept}
use Rattle.world_machine.specs.Worlds.{WorldData}
use Rattle.world_machine.proofs.Induction.{replay_kept}
use Rattle.world_machine.proofs.Opening.{opening_kept}

pub reached_kept : (digest_of : List ℕ → List ℕ) (law : (m : List ℕ) → length (digest_of m) ≡ 32) (w : WorldData) → Reached digest_of w → Kept digest_of w
reached_kept digest_of law w reached =
    subst (Kept digest_of) (sym reached.is) (replay_kept digest_of law (opening_world digest_of w.setup) reached.steps (opening_kept digest_of law w.setup reached.setup) reached.fit)
