-- Mounting and evicting keep the trees.
use Rattle.std.proofs.Common.{◌≡◌, ℕ, ◌/◌, ◌%◌, ◌<◌, ◌==◌, true, false, List, [], ◌∷◌, length, get_or, ⊎_elim, refl, subst, sym, ap, ◌∙◌, arith}
use Rattle.std.specs.Prelude.{remove}
use Rattle.std.proofs.lemmas.Bool.{cases_Bool, eqb-true, eqb-false, ne_eqb}
use Rattle.std.proofs.lemmas.List.Elements.{All-push}
use Rattle.pl_base.specs.declared.place.Place.TheVariants.{Node, RootNode}
use Rattle.pl_digest.specs.Nodes.{entry, with_entry}
use Rattle.pl_digest.specs.Trees.{zone_root}
use Rattle.mem_geom.specs.Layout.{place_bytes}
use Rattle.mem_slots.specs.Slots.{Slot, is_mounted, slot, slot_at}
use Rattle.mem_tree.specs.Changes.{at_place}
use Rattle.mem_tree.specs.Checks.{Holds as AllHold}
use Rattle.mem_tree.specs.Trees.{zone_bytes}
use Rattle.mem_ctl.specs.Data.{CtlData}
use Rattle.mem_ctl.specs.Mounting.{evicted_at, mounted_last, node_with, root_check, written_back}
use Rattle.mem_ctl.specs.TreesHold.{TreesHold, root_entry}
use Rattle.mem_ctl.specs.Writes.{zone_pages}
use Rattle.mem_ctl.specs.WrittenPages.{KeepsZones}
use Rattle.mem_ctl.proofs.Agreement.{StillAgree, StillAgree-then, with_places-agree}
use Rattle.mem_ctl.proofs.RootLemmas.{RootWritten, entry-other, entry-with_entry, length-place, length-with_entry, node_is_other, other_node, root_nodes-alike, root_written, zone_node_is_other}
use Rattle.mem_ctl.proofs.SlotLemmas.{All-remove, SlotsFit-push, SlotsFit-remove, none_before, removed}

-- what a step of mounting leaves: the trees hold, each zone has the pages that it had, and bytes that were as written still are
pub record Keeps (d : List ℕ → List ℕ) (x y : CtlData) : Type 0 where
  pub trees : TreesHold d y
  pub zones_kept : y.zones ≡ x.zones
  pub slots_kept : y.slots ≡ x.slots
  pub pages_kept : (zone : ℕ) → zone < x.zones → zone_pages y.mirror zone ≡ zone_pages x.mirror zone
  pub held_kept : (zone : ℕ) → zone < x.zones → zone_pages y.off_chip zone ≡ zone_pages x.off_chip zone
  pub off_chip_front : KeepsZones x.zones x.off_chip y.off_chip
  pub mirror_front : KeepsZones x.zones x.mirror y.mirror
  pub agree : StillAgree x.off_chip x.mirror y.off_chip y.mirror

pub Keeps-refl : (d : List ℕ → List ℕ) (x : CtlData) → TreesHold d x → Keeps d x x
Keeps-refl d x trees = record { trees = trees; zones_kept = refl; slots_kept = refl; pages_kept = λ zone there. refl; held_kept = λ zone there. refl; off_chip_front = refl; mirror_front = refl; agree = λ k same. same }

front_then : (zones same : ℕ) (a b c : List ℕ) → same ≡ zones → KeepsZones zones a b → KeepsZones same b c → KeepsZones zones a c
front_then zones same a b c is first second = subst (λ (n : ℕ). KeepsZones n b c) is second ∙ first

pub Keeps-then : (d : List ℕ → List ℕ) (x y z : CtlData) → Keeps d x y → Keeps d y z → Keeps d x z
Keeps-then d x y z k l = record {
  trees = l.trees;
  zones_kept = l.zones_kept ∙ k.zones_kept;
  slots_kept = l.slots_kept ∙ k.slots_kept;
  pages_kept = λ zone there. l.pages_kept zone (omega (arith, k.zones_kept)) ∙ k.pages_kept zone there;
  held_kept = λ zone there. l.held_kept zone (omega (arith, k.zones_kept)) ∙ k.held_kept zone there;
  off_chip_front = front_then x.zones y.zones x.off_chip y.off_chip z.off_chip k.zones_kept k.off_chip_front l.off_chip_front;
  mirror_front = front_then x.zones y.zones x.mirror y.mirror z.mirror k.zones_kept k.mirror_front l.mirror_front;
  agree = StillAgree-then x.off_chip x.mirror y.off_chip y.mirror z.off_chip z.mirror k.agree l.agree;
}

module _ (d : List ℕ → List ℕ) (law : (m : List ℕ) → length (d m) ≡ 32) where
  alike : (x : CtlData) → TreesHold d x → (zone : ℕ) → zone < x.zones → root_check d x zone ≡ AllHold
      → (place_bytes x.zones x.off_chip (RootNode 2 0) ≡ place_bytes x.zones x.mirror (RootNode 2 0)) × (place_bytes x.zones x.off_chip (RootNode 1 (zone / 8)) ≡ place_bytes x.zones x.mirror (RootNode 1 (zone / 8)))
  alike x trees zone there holds =
      let same = root_nodes-alike d x.zones x.mirror x.root trees.top trees.chip zone (omega (arith, trees.sizes.few)) x.off_chip holds in
      (same.0, same.1)

  -- ---- a zone is mounted last

  pub mounted_last-keeps : (x : CtlData) (zone : ℕ) → TreesHold d x → zone < x.zones → length x.mounted < x.slots → is_mounted x.mounted zone ≡ false → root_check d x zone ≡ AllHold
      → Keeps d x (mounted_last x zone)
  unfolding mounted_last
  mounted_last-keeps x zone trees there room none holds =
      let r : List ℕ = entry (zone % 8) (place_bytes x.zones x.off_chip (RootNode 1 (zone / 8))) in
      let s : Slot = slot zone 0 r in
      record {
        trees = record {
          sizes = trees.sizes;
          fit = SlotsFit-push x.zones x.slots x.mounted s trees.fit room there none;
          nodes = trees.nodes;
          slots_hold = All-push (λ (t : Slot). t.root ≡ zone_root d (zone_pages x.mirror t.zone)) x.mounted s trees.slots_hold (ap (entry (zone % 8)) (alike x trees zone there holds).1 ∙ trees.entries zone there none);
          entries = λ other in_zones unmounted. trees.entries other in_zones (none_before x.mounted s other unmounted);
          top = trees.top;
          chip = trees.chip;
        };
        zones_kept = refl;
        slots_kept = refl;
        pages_kept = λ z h. refl;
        held_kept = λ z h. refl;
        off_chip_front = refl;
        mirror_front = refl;
        agree = λ k same. same;
      }

  -- ---- a zone is evicted

  module _ (x : CtlData) (trees : TreesHold d x) (k : ℕ) (there : k < length x.mounted) (holds : root_check d x (slot_at x.mounted k).zone ≡ AllHold) where
    abbrev s : Slot
    s = slot_at x.mounted k

    in_zones : s.zone < x.zones
    in_zones = trees.fit.there k _ there

    same : (place_bytes x.zones x.off_chip (RootNode 2 0) ≡ place_bytes x.zones x.mirror (RootNode 2 0)) × (place_bytes x.zones x.off_chip (RootNode 1 (s.zone / 8)) ≡ place_bytes x.zones x.mirror (RootNode 1 (s.zone / 8)))
    same = alike x trees s.zone in_zones holds

    root_is : s.root ≡ zone_root d (zone_pages x.mirror s.zone)
    root_is = trees.slots_hold k _ there

    root_size : length s.root ≡ 32
    unfolding zone_root
    root_size = ap length root_is ∙ law _

    small : s.zone / 8 < 8
    small = omega (arith, in_zones, trees.sizes.few)

    node_size : length (place_bytes x.zones x.off_chip (RootNode 1 (s.zone / 8))) ≡ 256
    node_size = length-place x.zones x.off_chip (RootNode 1 (s.zone / 8)) small trees.sizes.off_chip_size

    top_size : length (place_bytes x.zones x.off_chip (RootNode 2 0)) ≡ 256
    top_size = length-place x.zones x.off_chip (RootNode 2 0) (omega arith) trees.sizes.off_chip_size

    abbrev node : List ℕ
    node = node_with d x s

    abbrev top : List ℕ
    top = with_entry (s.zone / 8) (d node) (place_bytes x.zones x.off_chip (RootNode 2 0))

    new_node_size : length node ≡ 256
    new_node_size = length-with_entry (place_bytes x.zones x.off_chip (RootNode 1 (s.zone / 8))) s.root (s.zone % 8) node_size root_size (omega arith)

    new_top_size : length top ≡ 256
    new_top_size = length-with_entry (place_bytes x.zones x.off_chip (RootNode 2 0)) (d node) (s.zone / 8) top_size (law _) small

    on_mirror : RootWritten x.zones (s.zone / 8) node top x.mirror (evicted_at d x k).mirror
    unfolding evicted_at written_back
    on_mirror = root_written x.zones (s.zone / 8) node top x.mirror small trees.sizes.mirror_size new_node_size new_top_size

    on_off_chip : RootWritten x.zones (s.zone / 8) node top x.off_chip (evicted_at d x k).off_chip
    unfolding evicted_at written_back
    on_off_chip = root_written x.zones (s.zone / 8) node top x.off_chip small trees.sizes.off_chip_size new_node_size new_top_size

    abbrev mirror' : List ℕ
    mirror' = (evicted_at d x k).mirror

    -- the top node over the new node
    top_holds : (j : ℕ) → j < 8 → entry j (place_bytes x.zones mirror' (RootNode 2 0)) ≡ d (place_bytes x.zones mirror' (RootNode 1 j))
    top_holds j below =
        ap (entry j) on_mirror.top_is
        ∙ ⊎_elim
        (λ (here : (j == s.zone / 8) ≡ true).
        let e = eqb-true j (s.zone / 8) here in
        ap (λ (i : ℕ). entry i top) e ∙ entry-with_entry (place_bytes x.zones x.off_chip (RootNode 2 0)) (d node) (s.zone / 8) top_size (law _) small
        ∙ sym (ap (λ (i : ℕ). d (place_bytes x.zones mirror' (RootNode 1 i))) e ∙ ap d on_mirror.node_is))
        (λ (other : (j == s.zone / 8) ≡ false).
        entry-other (place_bytes x.zones x.off_chip (RootNode 2 0)) (d node) (s.zone / 8) top_size (law _) small j other
        ∙ ap (entry j) same.0 ∙ trees.top j below ∙ sym (ap d (on_mirror.others (RootNode 1 j) below (other_node j (s.zone / 8) other) (node_is_other j))))
        (cases_Bool (j == s.zone / 8))

    -- the entry of a zone that isn't mounted now
    entry_of_evicted : (zone : ℕ) → s.zone ≡ zone → root_entry x.zones mirror' zone ≡ zone_root d (zone_pages x.mirror zone)
    entry_of_evicted zone is =
        ap (λ (z : ℕ). root_entry x.zones mirror' z) (sym is) ∙ ap (entry (s.zone % 8)) on_mirror.node_is
        ∙ entry-with_entry (place_bytes x.zones x.off_chip (RootNode 1 (s.zone / 8))) s.root (s.zone % 8) node_size root_size (omega arith)
        ∙ root_is ∙ ap (λ (z : ℕ). zone_root d (zone_pages x.mirror z)) is

    entry_of_other : (zone : ℕ) → zone < x.zones → (s.zone == zone) ≡ false → root_entry x.zones mirror' zone ≡ root_entry x.zones x.mirror zone
    entry_of_other zone below other =
        ⊎_elim
        (λ (here : (zone / 8 == s.zone / 8) ≡ true).
        let e = eqb-true (zone / 8) (s.zone / 8) here in
        let differ = eqb-false s.zone zone other in
        let apart : (zone % 8 == s.zone % 8) ≡ false = ne_eqb (zone % 8) (s.zone % 8) (λ equal. differ (omega arith)) in
        ap (λ (i : ℕ). entry (zone % 8) (place_bytes x.zones mirror' (RootNode 1 i))) e ∙ ap (entry (zone % 8)) on_mirror.node_is
        ∙ entry-other (place_bytes x.zones x.off_chip (RootNode 1 (s.zone / 8))) s.root (s.zone % 8) node_size root_size (omega arith) (zone % 8) apart
        ∙ ap (entry (zone % 8)) same.1 ∙ sym (ap (λ (i : ℕ). entry (zone % 8) (place_bytes x.zones x.mirror (RootNode 1 i))) e))
        (λ (elsewhere : (zone / 8 == s.zone / 8) ≡ false).
        ap (entry (zone % 8)) (on_mirror.others (RootNode 1 (zone / 8)) (omega (arith, trees.sizes.few)) (other_node (zone / 8) (s.zone / 8) elsewhere) (node_is_other (zone / 8))))
        (cases_Bool (zone / 8 == s.zone / 8))

    pub evicted_at-keeps : Keeps d x (evicted_at d x k)
    unfolding evicted_at written_back
    evicted_at-keeps = record {
      trees = record {
        sizes = record { few = trees.sizes.few; off_chip_size = on_off_chip.size ∙ trees.sizes.off_chip_size; mirror_size = on_mirror.size ∙ trees.sizes.mirror_size };
        fit = SlotsFit-remove x.zones x.slots x.mounted k there trees.fit;
        nodes = λ level zone index exists.
            on_mirror.others (Node level zone index) exists (zone_node_is_other level zone index 1 (s.zone / 8)) (zone_node_is_other level zone index 2 0) ∙ trees.nodes level zone index exists
            ∙ ap (λ (pages : List (List ℕ)). zone_bytes d pages (Node level zone index)) (sym (on_mirror.pages zone exists.0));
        slots_hold = λ i e h.
            All-remove (λ (t : Slot). t.root ≡ zone_root d (zone_pages x.mirror t.zone)) x.mounted k trees.slots_hold i e h
            ∙ ap (zone_root d) (sym (on_mirror.pages (get_or (remove x.mounted k) i e).zone (All-remove (λ (t : Slot). t.zone < x.zones) x.mounted k trees.fit.there i e h)));
        entries = λ zone below none.
            ⊎_elim
            (λ (here : (s.zone == zone) ≡ true). entry_of_evicted zone (eqb-true s.zone zone here))
            (λ (other : (s.zone == zone) ≡ false). entry_of_other zone below other ∙ trees.entries zone below (removed x.mounted k zone _ there none other))
            (cases_Bool (s.zone == zone))
            ∙ ap (zone_root d) (sym (on_mirror.pages zone below));
        top = top_holds;
        chip = ap d (sym on_mirror.top_is);
      };
      zones_kept = refl;
      slots_kept = refl;
      pages_kept = on_mirror.pages;
      held_kept = on_off_chip.pages;
      off_chip_front = on_off_chip.front;
      mirror_front = on_mirror.front;
      agree = with_places-agree x.zones (at_place (RootNode 1 (s.zone / 8)) node ∷ at_place (RootNode 2 0) top ∷ []) x.off_chip x.mirror
          ((small, new_node_size), ((omega arith, new_top_size), tt)) trees.sizes.off_chip_size trees.sizes.mirror_size;
    }
