-- The world as plain data: all that a run's machine has, from its setup to the count of its moves.
use Rattle.std.specs.Prelude.{ℕ, List, [], slice_get, slice_set, unwrap_or, Option}
use Rattle.rv_tlb.specs.declared.tlb.TlbEntry.{TlbEntry}
use Rattle.pl_base.specs.declared.place.Place.{Place}
use Rattle.mem_ctl.specs.Data.{CtlData}
use Rattle.mem_slots.specs.declared.slot_use.SlotUse.{SlotUse}
use Rattle.mon_enclave.specs.declared.enclave.Enclave.{Enclave}
use Rattle.mon_fence.specs.declared.fences.Fence.{Fence}
use Rattle.mon_owner.specs.declared.owners.Owner.{Owner}
use Rattle.pl_history.specs.declared.line.Line.{Line}
use Rattle.pl_history.specs.declared.line.AttackLine.{AttackLine}
use Rattle.pl_history.specs.declared.setup.SetupParts.{SetupParts}
use Rattle.pl_history.specs.History.{HistoryData}
use Rattle.pl_history.specs.Monitor.{script_of}
use Rattle.world_machine.specs.declared.under.Under.{Under}
use Rattle.world_machine.specs.declared.under.Under.TheVariants.{Idle}

-- the bytes of a place as taken and as last written, unequal and of one digest
pub record CollisionData : Type 0 where
  pub place : Place
  pub held : List ℕ
  pub written : List ℕ

pub record WorldData : Type 0 where
  pub setup : SetupParts
  pub ctl : CtlData
  pub owners : List Owner
  pub enclaves : List Enclave
  pub tlbs : List (List TlbEntry)
  pub fences : List (Option Fence)
  pub under : List Under
  pub answered : List ℕ
  pub history : HistoryData
  pub collision : Option CollisionData
  pub moves : ℕ

-- a world, and the lists of slots that its evictions were shown on the way to it
pub record Event : Type 0 where
  pub world : WorldData
  pub shown : List (List SlotUse)

-- the translations in a hart's TLB, the oldest first
abbrev pub tlb_at : List (List TlbEntry) → ℕ → List TlbEntry
tlb_at tlbs hart = unwrap_or (slice_get tlbs hart) []

abbrev pub with_tlb : WorldData → ℕ → List TlbEntry → WorldData
with_tlb w hart entries = record w { tlbs = slice_set w.tlbs hart entries }

-- how far a hart's line is
abbrev pub under_at : List Under → ℕ → Under
under_at under hart = unwrap_or (slice_get under hart) Idle

-- how many lines of an actor are answered; the attacker is the actor after the last hart
abbrev pub answered_at : List ℕ → ℕ → ℕ
answered_at answered actor = unwrap_or (slice_get answered actor) 0

-- the first line of a hart that isn't answered
abbrev pub hart_line : WorldData → ℕ → Option Line
hart_line w hart = slice_get (script_of w.setup hart) (answered_at w.answered hart)

-- and of the attacker
abbrev pub attacker_line : WorldData → Option AttackLine
attacker_line w = slice_get w.setup.attacker (answered_at w.answered w.setup.harts)
