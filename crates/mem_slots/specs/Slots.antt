-- The mounted zones as a list, each with its uses and its root.
use Rattle.std.specs.Prelude.{ℕ, ◌+◌, ◌-◌, ◌^◌, ◌==◌, Bool, List, ◌∷◌, [], Option, length, min, find, nat_le, slice_index_or, if◌then◌else◌}
use Rattle.std.specs.List.{list_any}
use Rattle.std.specs.Option.{option_map}
use Rattle.mem_slots.specs.declared.slot_use.SlotUse.{SlotUse}

-- a mounted zone, its uses since mounting, and its root
pub record Slot : Type 0 where
  pub zone : ℕ
  pub uses : ℕ
  pub root : List ℕ

-- how many zones may be mounted, and those that are, in order of mounting
pub record SlotList : Type 0 where
  pub limit : ℕ
  pub mounted : List Slot

abbrev pub list_of : ℕ → List Slot → SlotList
list_of limit mounted = record { limit = limit; mounted = mounted }

abbrev pub slot : ℕ → ℕ → List ℕ → Slot
slot zone uses root = record { zone = zone; uses = uses; root = root }

-- no slot is free
abbrev pub is_full : SlotList → Bool
is_full slots = nat_le slots.limit (length slots.mounted)

abbrev pub is_of : ℕ → Slot → Bool
is_of zone s = s.zone == zone

abbrev pub is_mounted : List Slot → ℕ → Bool
is_mounted mounted zone = list_any (is_of zone) mounted

-- the root of a mounted zone
abbrev pub root_of : List Slot → ℕ → Option (List ℕ)
root_of mounted zone = option_map (λ (s : Slot). s.root) (find (is_of zone) mounted)

-- the slot at a position
abbrev pub slot_at : List Slot → ℕ → Slot
slot_at mounted position = slice_index_or mounted position (slot 0 0 [])

-- one use more, up to the greatest count
abbrev pub one_more : ℕ → ℕ
one_more uses = min (uses + 1) (2 ^ 64 - 1)

-- a slot after a use of a zone, and after the zone got another root: only the zone's own changes
abbrev pub used_slot : ℕ → Slot → Slot
used_slot zone s = if is_of zone s then slot s.zone (one_more s.uses) s.root else s

abbrev pub rooted_slot : ℕ → List ℕ → Slot → Slot
rooted_slot zone root s = if is_of zone s then slot s.zone s.uses root else s

-- a slot without its root, which is what the rule that names the slot to evict is shown
abbrev pub use_of : Slot → SlotUse
use_of s = record { zone = s.zone; uses = s.uses }

abbrev pub used_use : ℕ → SlotUse → SlotUse
used_use zone u = if u.zone == zone then record { zone = u.zone; uses = one_more u.uses } else u

-- slots from their uses and their roots, side by side
abbrev pub slots_of : List SlotUse → List (List ℕ) → List Slot
slots_of [] roots = []
slots_of (u ∷ us) [] = []
slots_of (u ∷ us) (r ∷ rs) = slot u.zone u.uses r ∷ slots_of us rs
