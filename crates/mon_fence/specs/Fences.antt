-- The fences of all harts as a list: that of hart h stands at place h, and is none where it waits for nobody.
use Rattle.std.specs.Prelude.{ℕ, ◌≡◌, ◌≢◌, ◌<◌, ◌≤◌, ◌==◌, ◌&&◌, nat_lt, not, replicate, Bool, true, false, if◌then◌else◌, List, length, slice_get, slice_set, unwrap_or, Option, Some, None, option_map}
use Rattle.std.specs.Option.{option_map_or}
use Rattle.pl_base.specs.declared.address.Vpn.{Vpn}
use Rattle.pl_base.specs.declared.number.HartSet.{HartSet}
use Rattle.pl_base.specs.declared.number.Space.{Space}
use Rattle.pl_base.specs.HartSet.{has_hart, harts_below, without_hart}
use Rattle.mon_fence.specs.declared.fences.Fence.{Fence}

-- the fence of a hart
abbrev pub fence_of : List (Option Fence) → ℕ → Option Fence
fence_of fences h = unwrap_or (slice_get fences h) None

-- hart h's acknowledgement is lacking
abbrev pub needs : Option Fence → ℕ → Bool
needs None h = false
needs (Some fence) h = has_hart fence.need h

-- a fence needs only harts that there are, and never the one that posted it
abbrev pub NeedsOthers : List (Option Fence) → Type 0
NeedsOthers fences = (requester h : ℕ) → needs (fence_of fences requester) h ≡ true → (h < length fences) × (h ≢ requester)

-- the fences of at most eight harts
pub record AreFences (fences : List (Option Fence)) : Type 0 where
  pub few : length fences ≤ 8
  pub others : NeedsOthers fences

-- hart h posts its fence: it needs all other harts
abbrev pub posted : List (Option Fence) → ℕ → Space → Option Vpn → List (Option Fence)
posted fences h space vpn = slice_set fences h (Some (record { space = space; vpn = vpn; need = without_hart (harts_below (length fences)) h }))

-- the fence without the need of hart h
abbrev pub without_need : ℕ → Fence → Fence
without_need h fence = record fence { need = without_hart fence.need h }

-- hart h acknowledges the fence of another
abbrev pub acked : List (Option Fence) → ℕ → ℕ → List (Option Fence)
acked fences h requester = slice_set fences requester (option_map (without_need h) (fence_of fences requester))

-- the harts that a fence waits for, where there are some
abbrev pub lacking : Option Fence → Option HartSet
lacking None = None
lacking (Some fence) = if fence.need.0 == 0 then None else Some fence.need

-- the fence is of this page of this space, or of the whole space
abbrev pub covers : Space → Vpn → Option Fence → Bool
covers space vpn None = false
covers space vpn (Some fence) = fence.space.0 == space.0 && option_map_or (λ page. page.0 == vpn.0) fence.vpn true

-- what holds of the calls over plain lists: a posted fence needs exactly the other harts, and each call keeps that a fence needs only others
pub record FencesNeedOthers : Type 0 where
  pub all_others : (fences : List (Option Fence)) (h : ℕ) (space : Space) (vpn : Option Vpn) (k : ℕ) → AreFences fences → h < length fences
      → needs (fence_of (posted fences h space vpn) h) k ≡ (nat_lt k (length fences) && not (k == h))
  pub posting : (fences : List (Option Fence)) (h : ℕ) (space : Space) (vpn : Option Vpn) → h < length fences → AreFences fences → AreFences (posted fences h space vpn)
  pub acknowledging : (fences : List (Option Fence)) (h requester : ℕ) → requester < length fences → AreFences fences → AreFences (acked fences h requester)
  pub leaving : (fences : List (Option Fence)) (h : ℕ) → h < length fences → AreFences fences → AreFences (slice_set fences h None)
  pub none : (harts : ℕ) → harts ≤ 8 → AreFences (replicate harts None)
