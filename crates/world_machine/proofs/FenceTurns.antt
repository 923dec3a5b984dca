-- A hart with a fence has begun an `unmap` or a `destroy`, or broke a page, and its turn ends that once nobody is lacking.
use Rattle.std.proofs.Common.{◌≡◌, ℕ, List, [], ◌∷◌, Option, Some, refl, sym, ap, ◌∙◌, subst, inl, inr}
use Rattle.mon_fence.specs.declared.fences.Fence.{Fence}
use Rattle.mon_fence.specs.Fences.{fence_of}
use Rattle.mon_tables.specs.Space.{Mapping}
use Rattle.pl_history.specs.declared.line.Line.{Line}
use Rattle.pl_history.specs.declared.line.Line.TheVariants.{Unmap, Destroy, Resume, Run}
use Rattle.world_machine.specs.declared.under.Under.{Under}
use Rattle.world_machine.specs.declared.under.Under.TheVariants.{Breaking, Removing, Destroying}
use Rattle.world_machine.specs.FencesStand.{FenceStands, NumberFenceStands, IsOfHost, IsOfNumber, RemovalStands, removals_by}
use Rattle.world_machine.specs.GivingBack.{ends_destroy}
use Rattle.world_machine.specs.HostMapping.{ends_unmap, lacked_by}
use Rattle.world_machine.specs.Running.{restarts}
use Rattle.world_machine.specs.Standing.{Kept, state_of}
use Rattle.world_machine.specs.Steps.{due, hart_turn, waiting_turn}
use Rattle.world_machine.specs.Worlds.{WorldData, hart_line, under_at}
use Rattle.world_machine.proofs.Leaving.{number_not_host}

module _ (digest_of : List ℕ → List ℕ) (w : WorldData) (hart : ℕ) (positions : List ℕ) where
  -- a line whose turn comes once nobody is lacking
  pub record WaitsForFence (line : Option Line) (under : Under) : Type 0 where
    pub now : Line
    pub here : line ≡ Some now
    pub ended : WorldData
    pub turn : due digest_of w hart positions now under ≡ waiting_turn ended (lacked_by w hart)

  -- who takes a mapping away
  removal_waits : (line : Option Line) (under : Under) (removed : List Mapping) (m : Mapping) → RemovalStands line under removed → removed ≡ m ∷ [] → WaitsForFence line under
  removal_waits (Some (Unmap va)) (Removing page) removed m stands is = record { now = Unmap va; here = refl; ended = ends_unmap w hart page; turn = refl }
  removal_waits line under removed m stands is = let never : [] ≡ m ∷ [] = sym stands ∙ is in cc

  -- who has a fence of a number: a begun `destroy`, or a run that broke a page
  giving_waits : (line : Option Line) (under : Under) (o : Option Fence) (fence : Fence) (e : ℕ) → NumberFenceStands line under o → o ≡ Some fence → IsOfNumber fence e
      → WaitsForFence line under
  giving_waits (Some (Destroy given)) Destroying o fence e stands is number = record { now = Destroy given; here = refl; ended = ends_destroy w hart given; turn = refl }
  giving_waits (Some (Run given budget)) (Breaking count index) o fence e stands is number =
      record { now = Run given budget; here = refl; ended = restarts w hart count; turn = refl }
  giving_waits (Some (Resume given budget)) (Breaking count index) o fence e stands is number =
      record { now = Resume given budget; here = refl; ended = restarts w hart count; turn = refl }
  giving_waits line under o fence e stands is number = absurd (number_not_host fence e number (subst IsOfHost is stands))

  module _ (k : Kept digest_of w) (fence : Fence) (is : fence_of w.fences hart ≡ Some fence) where
    abbrev removed : List Mapping
    removed = removals_by (state_of w).removals hart

    waits : WaitsForFence (hart_line w hart) (under_at w.under hart)
    waits = elim (subst (λ o. FenceStands o removed) is (k.stands.translations.fences_stand.each hart)) [
      | inl removal ↦ removal_waits (hart_line w hart) (under_at w.under hart) removed removal.0 (k.stands.translations.removals hart) removal.1
      | inr giving ↦ giving_waits (hart_line w hart) (under_at w.under hart) (fence_of w.fences hart) fence giving.0 (k.stands.translations.giving hart) is giving.1
    ]

    turn_so : (ended : WorldData) × (hart_turn digest_of w hart positions (hart_line w hart) ≡ waiting_turn ended (lacked_by w hart))
    turn_so = (waits.ended, ap (hart_turn digest_of w hart positions) waits.here ∙ waits.turn)

pub fence_turn : (digest_of : List ℕ → List ℕ) (w : WorldData) → Kept digest_of w → (hart : ℕ) (positions : List ℕ) (fence : Fence) → fence_of w.fences hart ≡ Some fence
    → (ended : WorldData) × (hart_turn digest_of w hart positions (hart_line w hart) ≡ waiting_turn ended (lacked_by w hart))
fence_turn digest_of w k hart positions fence is = turn_so digest_of w hart positions k fence is
