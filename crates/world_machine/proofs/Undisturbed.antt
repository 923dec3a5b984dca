-- Where the attacker changed no byte, no answer is a fault and no collision is kept.
use Rattle.std.proofs.Common.{◌≡◌, ℕ, List, [], Option, Some, None, refl, subst}
use Rattle.std.specs.Prelude.{IsTrue}
use Rattle.std.specs.List.{list_any}
use Rattle.std.proofs.lemmas.Bool.{false≢true}
use Rattle.mem_geom.specs.Ranges.{overlaps_place}
use Rattle.pl_history.specs.Monitor.{Attack}
use Rattle.pl_history.specs.Unattacked.{IsUnattacked}
use Rattle.pl_history.proofs.Unattacked.{unattacked_is_faultless}
use Rattle.world_machine.specs.Endings.{IsUndisturbed}
use Rattle.world_machine.specs.Standing.{CollisionStands, Kept, state_of}
use Rattle.world_machine.specs.Worlds.{CollisionData, WorldData}

-- a kept collision needs an attack
none_kept : (digest_of : List ℕ → List ℕ) (zones : ℕ) (attacks : List Attack) (o : Option CollisionData) → attacks ≡ [] → CollisionStands digest_of zones attacks o → o ≡ None
none_kept digest_of zones attacks None none stands = refl
none_kept digest_of zones attacks (Some c) none stands =
    absurd (false≢true (subst (λ (all : List Attack). IsTrue (list_any (λ (a : Attack). overlaps_place zones a.address a.length c.place) all)) none stands.place.attacked))

pub undisturbed : (digest_of : List ℕ → List ℕ) (w : WorldData) → Kept digest_of w → IsUnattacked w.history.entries → IsUndisturbed w
undisturbed digest_of w k still = record {
  faultless = unattacked_is_faultless.faultless w.setup w.history.bytes w.history.entries k.legal still;
  none = none_kept digest_of w.setup.zones (state_of w).attacks w.collision (unattacked_is_faultless.unattacked w.setup w.history.bytes w.history.entries k.legal still) k.collision;
}
