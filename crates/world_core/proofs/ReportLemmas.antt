-- The report of a world from what its readers answer.
use Rattle.std.proofs.Common.{◌≡◌, ℕ, List, [], ◌∷◌, Option, Some, None, option_map, refl, ap, ◌∙◌}
use Rattle.std.specs.Prelude.{map}
use Rattle.std.specs.Option.{option_copied}
use denote.Ref.{Bor}
use Rattle.mem_ctl.specs.declared.broken.Collision.{Collision}
use Rattle.mem_slots.specs.declared.slot_use.SlotUse.{SlotUse}
use Rattle.mem_slots.specs.Slots.{Slot, use_of}
use Rattle.world_machine.specs.declared.turned.Finished.{Finished}
use Rattle.world_machine.specs.Worlds.{WorldData}
use Rattle.world_events.specs.Parts.{collision_data}
use Rattle.world_core.specs.Report.{report_text, world_report}

zones_of : (slots : List Slot) → map (λ (s : SlotUse). s.zone) (map use_of slots) ≡ map (λ (s : Slot). s.zone) slots
zones_of [] = refl
zones_of (s ∷ slots) = ap (λ zones. s.zone ∷ zones) (zones_of slots)

seen : (o : Option (Bor Collision)) → option_map (λ (c : Bor Collision). collision_data c.now) o ≡ option_map collision_data (option_copied o)
seen None = refl
seen (Some c) = refl

pub report_is : (w : WorldData) (end : Finished) (root : List ℕ) (slots : List SlotUse) (o : Option (Bor Collision)) → root ≡ w.ctl.root → slots ≡ map use_of w.ctl.mounted
    → option_map collision_data (option_copied o) ≡ w.collision
    → report_text root (map (λ s. s.zone) slots) (option_map (λ (c : Bor Collision). collision_data c.now) o) end ≡ world_report w end
report_is w end root slots o roots mounted kept =
    ap (λ r. report_text r (map (λ s. s.zone) slots) (option_map (λ (c : Bor Collision). collision_data c.now) o) end) roots
    ∙ ap (λ zones. report_text w.ctl.root zones (option_map (λ (c : Bor Collision). collision_data c.now) o) end) (ap (map (λ (s : SlotUse). s.zone)) mounted ∙ zones_of w.ctl.mounted)
    ∙ ap (λ c. report_text w.ctl.root (map (λ s. s.zone) w.ctl.mounted) c end) (seen o ∙ kept)
