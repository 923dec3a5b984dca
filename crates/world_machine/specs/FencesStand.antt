-- Each open removal is of one mapping, of an `unmap` under way, and has its fence; each other fence is of a number's space, or a broken page.
use Rattle.std.specs.Prelude.{◌≡◌, ◌⊎◌, ℕ, ◌==◌, true, List, [], ◌∷◌, length, map, filter, Option, Some, None}
use Rattle.pl_base.specs.HartSet.{space_of_number}
use Rattle.pl_base.specs.declared.perms.Perms.{Perms}
use Rattle.mon_fence.specs.declared.fences.Fence.{Fence}
use Rattle.mon_fence.specs.Fences.{AreFences, fence_of, needs}
use Rattle.mon_host.specs.Leaves.{host_space}
use Rattle.mon_host.specs.Laws.{new_mapping}
use Rattle.mon_tables.specs.Space.{Mapping, vpn_of_page}
use Rattle.pl_history.specs.declared.line.Line.{Line}
use Rattle.pl_history.specs.declared.line.Line.TheVariants.{Unmap, Destroy, Resume, Run}
use Rattle.pl_history.specs.Monitor.{Removal}
use Rattle.world_machine.specs.declared.under.Under.{Under}
use Rattle.world_machine.specs.declared.under.Under.TheVariants.{Breaking, Destroying, Removing}

-- the mappings that a hart is taking away
abbrev pub removals_by : List Removal → ℕ → List Mapping
removals_by removals hart = map (λ (r : Removal). r.mapping) (filter (λ (r : Removal). r.hart == hart) removals)

-- a fence is of the page of the mapping that its hart takes away
abbrev pub IsOfRemoval : Fence → List Mapping → Type 0
IsOfRemoval fence removed = (m : Mapping) × (removed ≡ m ∷ []) × (fence.space ≡ host_space) × (fence.vpn ≡ Some (record { 0 = m.vpn }))

-- or of the space of a number
abbrev pub IsOfNumber : Fence → ℕ → Type 0
IsOfNumber fence e = fence.space ≡ space_of_number (record { 0 = e })

-- a hart without a fence takes nothing away; one with a fence takes away the mapping of its page, or none, where it gives a number back or broke a
-- page of one
abbrev pub FenceStands : Option Fence → List Mapping → Type 0
FenceStands None removed = removed ≡ []
FenceStands (Some fence) removed = IsOfRemoval fence removed ⊎ ((e : ℕ) × IsOfNumber fence e × (removed ≡ []))

pub record FencesStand (harts : ℕ) (fences : List (Option Fence)) (removals : List Removal) : Type 0 where
  pub size : length fences ≡ harts
  pub needs_others : AreFences fences
  pub each : (hart : ℕ) → FenceStands (fence_of fences hart) (removals_by removals hart)

-- a begun `unmap` takes away the mapping of its address, which led to this page; no other line takes any away
abbrev pub RemovalStands : Option Line → Under → List Mapping → Type 0
RemovalStands (Some (Unmap va)) (Removing page) removed = (perms : Perms) × (removed ≡ new_mapping va page perms ∷ [])
RemovalStands line under removed = removed ≡ []

-- a begun `destroy` has the fence of its number's whole space, and a run that broke a page that of this page there; the fence of any other line is
-- none, or of the host's space
abbrev pub IsOfHost : Option Fence → Type 0
IsOfHost None = Unit {0}
IsOfHost (Some fence) = fence.space ≡ host_space

pub record IsGiving (fence : Option Fence) (e : ℕ) : Type 0 where
  pub posted : Fence
  pub is : fence ≡ Some posted
  pub of_number : IsOfNumber posted e
  pub whole : posted.vpn ≡ None

pub record IsBreaking (fence : Option Fence) (e index : ℕ) : Type 0 where
  pub posted : Fence
  pub is : fence ≡ Some posted
  pub of_number : IsOfNumber posted e
  pub of_page : posted.vpn ≡ Some (vpn_of_page index)

abbrev pub NumberFenceStands : Option Line → Under → Option Fence → Type 0
NumberFenceStands (Some (Destroy e)) Destroying fence = IsGiving fence e.0
NumberFenceStands (Some (Run e budget)) (Breaking count index) fence = IsBreaking fence e.0 index
NumberFenceStands (Some (Resume e budget)) (Breaking count index) fence = IsBreaking fence e.0 index
NumberFenceStands line under fence = IsOfHost fence

-- a fence of this page of a number's space, or of that whole space, still needs this hart
pub record IsOwed (fences : List (Option Fence)) (hart e vpn : ℕ) : Type 0 where
  pub poster : ℕ
  pub fence : Fence
  pub is : fence_of fences poster ≡ Some fence
  pub of_number : IsOfNumber fence e
  pub of_page : (fence.vpn ≡ None) ⊎ (fence.vpn ≡ Some (record { 0 = vpn }))
  pub needed : needs (fence_of fences poster) hart ≡ true

-- a mapping is being taken away, and the fence of that still needs this hart
pub record IsOpen (fences : List (Option Fence)) (removals : List Removal) (hart : ℕ) (m : Mapping) : Type 0 where
  pub poster : ℕ
  pub removal : removals_by removals poster ≡ m ∷ []
  pub needed : needs (fence_of fences poster) hart ≡ true
