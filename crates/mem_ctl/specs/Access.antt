-- What an access through the trees leaves, and what a refusal tells of the bytes off chip.
use Rattle.std.specs.Prelude.{ℕ, ◌≡◌, ◌≢◌, ◌+◌, ◌<◌, ◌≤◌, ◌⊎◌, true, false, List, length, slice_get, slice_index_or, All, Contains}
use Rattle.pl_base.specs.declared.place.Place.{Place}
use Rattle.mem_geom.specs.Layout.{Exists, place_start, place_end}
use Rattle.mem_geom.specs.Parts.{page_bytes}
use Rattle.mem_ctl.specs.Data.{CtlData, Outcome, Value, Fault, Collision, Again}
use Rattle.mem_ctl.specs.Mounting.{taken, written}
use Rattle.mem_ctl.specs.Results.{is_of_zone}
use Rattle.mem_ctl.specs.TreesHold.{IsKept}
use Rattle.mem_ctl.specs.WrittenPages.{ChangesPage, KeepsPages, KeepsZones}

-- the byte at an index off chip is the one that was written there
abbrev pub IsAsWritten : CtlData → ℕ → Type 0
IsAsWritten x index = slice_get x.off_chip index ≡ slice_get x.mirror index

-- whatever a call answers: the trees hold, zones and slots are as many as before, and bytes that were as written still are
pub record Leaves (digest_of : List ℕ → List ℕ) (old new : CtlData) : Type 0 where
  pub kept : IsKept digest_of new
  pub same_zones : new.zones ≡ old.zones
  pub same_slots : new.slots ≡ old.slots
  pub still_written : (index : ℕ) → IsAsWritten old index → IsAsWritten new index

-- all pages stay, off chip and in the mirror, with all nodes over them; so no more than the root table changes
pub record BothStay (old new : CtlData) : Type 0 where
  pub off_chip_zones : KeepsZones old.zones old.off_chip new.off_chip
  pub mirror_zones : KeepsZones old.zones old.mirror new.mirror
  pub off_chip_pages : KeepsPages old.zones old.off_chip new.off_chip
  pub mirror_pages : KeepsPages old.zones old.mirror new.mirror

-- one page is changed in both, from its own bytes, and all others stay
pub record BothChange (page : ℕ) (change : List ℕ → List ℕ) (old new : CtlData) : Type 0 where
  pub off_chip_pages : ChangesPage old.zones page (change (page_bytes old.off_chip page)) old.off_chip new.off_chip
  pub mirror_pages : ChangesPage old.zones page (change (page_bytes old.mirror page)) old.mirror new.mirror

-- ---- refusals

-- a byte of the place, with its index, is another than was written
pub record HasOtherByte (x : CtlData) (place : Place) : Type 0 where
  pub index : ℕ
  pub from : place_start x.zones place ≤ 0x80000000 + index
  pub to : 0x80000000 + index < place_end x.zones place
  pub other : IsAsWritten x index → ⊥

-- the place is on the path, and all before it stand off chip as they were written
pub record IsFirstOther (x : CtlData) (places : List Place) (place : Place) : Type 0 where
  pub index : ℕ
  pub below : index < length places
  pub is : slice_index_or places index place ≡ place
  pub before : (j : ℕ) → j < index → taken x (slice_index_or places j place) ≡ written x (slice_index_or places j place)

-- a checked place exists, is on the access's path or in the root table, and has other bytes than were written there; it is the first
-- of the path that has
pub record IsTampered (x : CtlData) (places : List Place) (place : Place) : Type 0 where
  pub exists : Exists x.zones place
  pub checked : Contains places place ⊎ (is_of_zone place ≡ false)
  pub first : is_of_zone place ≡ true → IsFirstOther x places place
  pub differs : taken x place ≢ written x place
  pub byte : HasOtherByte x place

-- and these bytes have the digest of the written ones: at most 256 bytes each
pub record IsCollision (digest_of : List ℕ → List ℕ) (x : CtlData) (places : List Place) (place : Place) (held other : List ℕ) : Type 0 where
  pub tampered : IsTampered x places place
  pub as_taken : held ≡ taken x place
  pub as_written : other ≡ written x place
  pub held_size : length held ≤ 256
  pub written_size : length other ≤ 256
  pub differ : held ≢ other
  pub one_digest : digest_of held ≡ digest_of other

-- what an access tells that checks these places; a refusal leaves all pages
abbrev pub AccessTells : {A : Type 0} → (List ℕ → List ℕ) → List Place → (A → Type 0) → CtlData → Outcome A → CtlData → Type 0
AccessTells digest_of places Done old (Value a) new = Done a
AccessTells digest_of places Done old (Fault place) new = BothStay old new × IsTampered new places place
AccessTells digest_of places Done old (Collision place held other) new = BothStay old new × IsCollision digest_of new places place held other
AccessTells digest_of places Done old (Again taken_root root) new = ⊥

-- P, where there is a value
abbrev pub IfValue : {A : Type 0} → Outcome A → Type 0 → Type 0
IfValue (Value a) P = P
IfValue (Fault place) P = Unit {0}
IfValue (Collision place held other) P = Unit {0}
IfValue (Again taken_root root) P = Unit {0}

-- each of these places stands off chip as it was written
abbrev pub AllAsWritten : CtlData → List Place → Type 0
AllAsWritten x places = All (λ place. taken x place ≡ written x place) places

-- an access: what it leaves, and what its outcome tells; there is a value only where the whole path stood as it was written
pub record Accessed {A : Type 0} (digest_of : List ℕ → List ℕ) (places : List Place) (Done : A → Type 0) (old : CtlData) (outcome : Outcome A) (new : CtlData) : Type 0 where
  pub leaves : Leaves digest_of old new
  pub whole : IfValue outcome (AllAsWritten old places)
  pub tells : AccessTells digest_of places Done old outcome new
