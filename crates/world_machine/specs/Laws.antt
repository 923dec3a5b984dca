-- What holds of every world that is reached, and of every legal history.
use Rattle.std.specs.Prelude.{◌≡◌, ℕ, ◌<◌, IsTrue, List, length, ◌↔◌, None, Some}
use Rattle.pl_history.specs.declared.answer.Entry.{Entry}
use Rattle.pl_history.specs.declared.setup.SetupParts.{SetupParts}
use Rattle.pl_history.specs.Legal.{Legal}
use Rattle.mon_fence.specs.Fences.{fence_of, lacking}
use Rattle.pl_base.specs.declared.actor.Actor.TheVariants.{Hart}
use Rattle.pl_base.specs.declared.number.HartNo.{HartNo}
use Rattle.pl_base.specs.declared.number.HartSet.{HartSet}
use Rattle.pl_history.specs.Rules.{is_actor}
use Rattle.pl_history.specs.Unattacked.{IsUnattacked}
use Rattle.world_machine.specs.declared.turned.Turned.TheVariants as turned
use Rattle.world_machine.specs.declared.turned.Wait.TheVariants.{Acks}
use Rattle.world_machine.specs.Accesses.{AccessesKeepToPages, RootsWalk}
use Rattle.world_machine.specs.Endings.{IsUndisturbed}
use Rattle.world_machine.specs.HostAccesses.{RemovedStayUnused}
use Rattle.world_machine.specs.Reached.{Reached}
use Rattle.world_machine.specs.Runs.{remaining}
use Rattle.world_machine.specs.Standing.{Kept}
use Rattle.world_machine.specs.Steps.{Step, stepped, turn_of, turned_by}
use Rattle.world_machine.specs.Worlds.{WorldData}

-- For every digest function whose digests have 32 bytes, and whatever the turns were: the history is legal, and the world stands to the
-- state that it gives.
abbrev pub ReachedWorldsStand : Type 0
ReachedWorldsStand = (digest_of : List ℕ → List ℕ) → ((m : List ℕ) → length (digest_of m) ≡ 32) → (w : WorldData) → Reached digest_of w → Kept digest_of w

-- Of every world that is reached: a turn that moves leaves fewer events to make.
abbrev pub MovesLessen : Type 0
MovesLessen =
    (digest_of : List ℕ → List ℕ) → ((m : List ℕ) → length (digest_of m) ≡ 32) → (w : WorldData) → Reached digest_of w
    → (step : Step) → IsTrue (is_actor w.setup.harts step.actor) → turned_by (turn_of digest_of w step.actor step.positions) ≡ turned.Moved
    → remaining (stepped digest_of w step) < remaining w

-- Of every world that is reached, where no collision is kept: a hart has to wait for acknowledgements exactly where its own fence still needs
-- these harts.
abbrev pub HartsWaitForFences : Type 0
HartsWaitForFences =
    (digest_of : List ℕ → List ℕ) → ((m : List ℕ) → length (digest_of m) ≡ 32) → (w : WorldData) → Reached digest_of w → w.collision ≡ None
    → (h : HartNo) (positions : List ℕ) (harts : HartSet)
    → (turned_by (turn_of digest_of w (Hart h) positions) ≡ turned.Blocked (Acks harts)) ↔ (lacking (fence_of w.fences h.0) ≡ Some harts)

-- Of every world that is reached: where no answer is `wrote 1`, no answer is a fault, and no collision is kept.
abbrev pub UnattackedIsUndisturbed : Type 0
UnattackedIsUndisturbed =
    (digest_of : List ℕ → List ℕ) → ((m : List ℕ) → length (digest_of m) ≡ 32) → (w : WorldData) → Reached digest_of w
    → IsUnattacked w.history.entries → IsUndisturbed w

-- Of every world that is reached: in checked memory the host's root walks to the host's space, and the root of each live number to its own.
abbrev pub RootsWalkToSpaces : Type 0
RootsWalkToSpaces = (digest_of : List ℕ → List ℕ) → ((m : List ℕ) → length (digest_of m) ≡ 32) → (w : WorldData) → Reached digest_of w → RootsWalk w

-- Of every world that is reached: each walk reads words of guarded pages alone, and each access goes to a page of whoever makes it, or one but for a
-- store to a page of the shadow that its number was forked from.
abbrev pub AccessesReachOwnPages : Type 0
AccessesReachOwnPages =
    (digest_of : List ℕ → List ℕ) → ((m : List ℕ) → length (digest_of m) ≡ 32) → (w : WorldData) → Reached digest_of w → AccessesKeepToPages w

-- In every legal history no access of the host uses a mapping whose removal was answered.
abbrev pub RemovedMappingsStayUnused : Type 0
RemovedMappingsStayUnused = (setup : SetupParts) (bytes : List ℕ) (entries : List Entry) → Legal setup bytes entries → RemovedStayUnused setup bytes entries
