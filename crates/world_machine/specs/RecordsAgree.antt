-- The world's owners, records and progress are those of the abstract monitor.
use Rattle.std.specs.Prelude.{◌≡◌, ℕ, ◌≤◌, Bool, true, false, List, length, slice_get, Option, Some, option_map}
use Rattle.pl_base.specs.declared.number.EncNo.{EncNo}
use Rattle.pl_base.specs.declared.state.State.{State}
use Rattle.pl_base.specs.declared.state.State.TheVariants as state_is
use Rattle.mon_enclave.specs.declared.enclave.Enclave.{Enclave}
use Rattle.mon_owner.specs.declared.owners.Owner.{Owner as Kept}
use Rattle.mon_owner.specs.declared.owners.Owner.TheVariants as kept
use Rattle.pl_history.specs.Monitor.{Monitor, Number, Owner, Progress, guard, host, number, maps_of}
use Rattle.world_machine.specs.declared.under.Under.{Under}
use Rattle.world_machine.specs.declared.under.Under.TheVariants.{Idle, Seeking}
use Rattle.world_machine.specs.Worlds.{answered_at, under_at}

-- ---- owners

abbrev pub owner_of : Kept → Owner
owner_of kept.Guard = guard
owner_of (kept.Host maps) = host
owner_of (kept.Enclave e) = number e.0
owner_of (kept.Shadow e) = number e.0

-- each page has the owner that it has in the monitor, and a host page as many mappings
pub record OwnersAgree (owners : List Kept) (s : Monitor) : Type 0 where
  pub owner : (page : ℕ) → s.owner page ≡ option_map owner_of (slice_get owners page)
  pub maps : (page maps : ℕ) → slice_get owners page ≡ Some (kept.Host maps) → maps ≡ maps_of s page

-- ---- records

-- a number is live from the answer that it is made on; one that is stopped by a fault may be or not
abbrev pub LiveAgrees : State → Bool → Type 0
LiveAgrees state_is.Free live = live ≡ false
LiveAgrees state_is.Building live = live ≡ false
LiveAgrees state_is.Sealed live = live ≡ false
LiveAgrees state_is.Dying live = live ≡ false
LiveAgrees state_is.Faulted live = Unit {0}
LiveAgrees state live = live ≡ true

-- a number that is on is ahead of the monitor by what it retired since its line began
abbrev pub RetiredAgrees : State → ℕ → ℕ → Type 0
RetiredAgrees state_is.On retired n = n ≤ retired
RetiredAgrees state retired n = retired ≡ n

abbrev pub parent_of : Option EncNo → Option ℕ
parent_of = option_map (λ (e : EncNo). e.0)

pub record RecordAgrees (r : Enclave) (n : Number) : Type 0 where
  pub state : n.state ≡ r.state
  pub live : LiveAgrees r.state n.live
  pub hart : n.hart ≡ r.hart.0
  pub image : n.image ≡ r.image
  pub given : length n.spares ≡ r.given
  pub parent : n.parent ≡ parent_of r.parent
  pub sent : n.sent ≡ r.sent
  pub taken : n.taken ≡ r.taken
  pub retired : RetiredAgrees r.state r.retired n.retired

abbrev pub RecordsAgree : (ℕ → Enclave) → (ℕ → Number) → Type 0
RecordsAgree record_of number_of = (e : ℕ) → RecordAgrees (record_of e) (number_of e)

-- ---- progress

-- an access of the host has no answer before its last
abbrev pub is_begun : Under → Bool
is_begun Idle = false
is_begun (Seeking walk) = false
is_begun under = true

abbrev pub progress_of : List Under → List ℕ → ℕ → Progress
progress_of under answered actor = record { answered = answered_at answered actor; begun = is_begun (under_at under actor) }

abbrev pub ProgressAgrees : List Under → List ℕ → (ℕ → Progress) → Type 0
ProgressAgrees under answered progress = (actor : ℕ) → progress actor ≡ progress_of under answered actor
