-- Each dying number has the fence of its space, and each broken page its own until its instruction starts anew; others are of open removals.
use Rattle.std.specs.Prelude.{◌≡◌, ◌⊎◌, ℕ, Some, None}
use Rattle.pl_base.specs.declared.state.State.TheVariants as state_is
use Rattle.mon_enclave.specs.Records.{enclave_at}
use Rattle.mon_fence.specs.declared.fences.Fence.{Fence}
use Rattle.mon_fence.specs.Fences.{fence_of}
use Rattle.mon_tables.specs.Space.{vpn_of_page}
use Rattle.pl_history.specs.declared.line.Line.TheVariants.{Destroy}
use Rattle.world_machine.specs.declared.under.Under.TheVariants.{Breaking, Destroying}
use Rattle.world_machine.specs.LinesUnderWay.{number_under_way}
use Rattle.world_machine.specs.FencesStand.{IsBreaking, IsOfNumber, IsOfRemoval, removals_by}
use Rattle.world_machine.specs.Standing.{state_of}
use Rattle.world_machine.specs.Worlds.{WorldData, hart_line, under_at}

-- the record of the number is dying
abbrev pub Dies : WorldData → ℕ → Type 0
Dies w e = (enclave_at w.enclaves e).state ≡ state_is.Dying

-- a hart gives the number back by a fence: its first line without an answer is the `destroy` of it, begun, and the fence is of the number's whole space
pub record GivesBack (w : WorldData) (hart e : ℕ) (fence : Fence) : Type 0 where
  pub line : hart_line w hart ≡ Some (Destroy (record { 0 = e }))
  pub begun : under_at w.under hart ≡ Destroying
  pub of_number : IsOfNumber fence e
  pub whole : fence.vpn ≡ None

-- a number has the fence of the hart that gives it back
pub record HasFence (w : WorldData) (e : ℕ) : Type 0 where
  pub hart : ℕ
  pub fence : Fence
  pub is : fence_of w.fences hart ≡ Some fence
  pub gives : GivesBack w hart e fence

-- a hart's enclave, of this number, broke a page of its image, and starts its instruction anew once nobody is lacking; the fence is of that page
pub record BrokeFor (w : WorldData) (hart e : ℕ) (fence : Fence) : Type 0 where
  pub under_way : number_under_way (hart_line w hart) (under_at w.under hart) ≡ Some e
  pub count : ℕ
  pub index : ℕ
  pub breaking : under_at w.under hart ≡ Breaking count index
  pub of_number : IsOfNumber fence e
  pub of_page : fence.vpn ≡ Some (vpn_of_page index)

-- a break that a hart has yet to start anew from has a fence
pub record HasBreakFence (w : WorldData) (hart count index : ℕ) : Type 0 where
  pub e : ℕ
  pub under_way : number_under_way (hart_line w hart) (under_at w.under hart) ≡ Some e
  pub fence : IsBreaking (fence_of w.fences hart) e index

-- each dying number has its fence, and so has each page that was broken, until the instruction starts anew; each fence is of the removal that its hart
-- has open, or of a dying number that its hart gives back, or of a page that its hart's enclave broke
pub record DyingNumbersFenced (w : WorldData) : Type 0 where
  pub fenced : (e : ℕ) → Dies w e → HasFence w e
  pub broken : (hart count index : ℕ) → under_at w.under hart ≡ Breaking count index → HasBreakFence w hart count index
  pub others : (hart : ℕ) (fence : Fence) → fence_of w.fences hart ≡ Some fence
      → IsOfRemoval fence (removals_by (state_of w).removals hart) ⊎ ((e : ℕ) × ((GivesBack w hart e fence × Dies w e) ⊎ BrokeFor w hart e fence))
