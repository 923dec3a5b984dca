-- A zone's tree is replaced by that over other pages, and its slot gets the root of it: the trees hold.
use Rattle.std.proofs.Common.{◌≡◌, ℕ, ◌/◌, ◌%◌, ◌<◌, ◌==◌, Bool, true, false, cond, List, length, map, get_or, ⊎_elim, refl, sym, ap, ◌∙◌, arith}
use Rattle.std.specs.Prelude.{All}
use Rattle.std.proofs.lemmas.Bool.{cases_Bool, eqb-true, false≢true}
use Rattle.std.proofs.lemmas.List.Elements.{All-map}
use Rattle.pl_base.specs.declared.place.Place.TheVariants.{Node, RootNode}
use Rattle.pl_digest.specs.Nodes.{entry}
use Rattle.pl_digest.specs.Trees.{zone_root}
use Rattle.mem_geom.specs.Layout.{Exists, memory_size, nodes_of_level, place_bytes}
use Rattle.mem_slots.specs.Slots.{Slot, is_mounted, is_of, rooted_slot, slot}
use Rattle.mem_tree.specs.Trees.{zone_bytes}
use Rattle.mem_ctl.specs.Data.{CtlData}
use Rattle.mem_ctl.specs.TreesHold.{TreesHold, root_entry}
use Rattle.mem_ctl.specs.Writes.{zone_pages}
use Rattle.mem_ctl.proofs.SlotLemmas.{SlotsFit-map, is_mounted-map, rooted_slot-zone}

-- a memory in which one zone has other pages and the nodes over them, and all else is as before
pub record ZoneUpdate (d : List ℕ → List ℕ) (zones zone : ℕ) (old new : List ℕ) (pages : List (List ℕ)) : Type 0 where
  pub size : length new ≡ memory_size zones
  pub own : (level index : ℕ) → index < nodes_of_level level → place_bytes zones new (Node level zone index) ≡ zone_bytes d pages (Node level zone index)
  pub own_pages : zone_pages new zone ≡ pages
  pub other_nodes : (level other index : ℕ) → Exists zones (Node level other index) → (other == zone) ≡ false → place_bytes zones new (Node level other index) ≡ place_bytes zones old (Node level other index)
  pub root_nodes : (level index : ℕ) → Exists zones (RootNode level index) → place_bytes zones new (RootNode level index) ≡ place_bytes zones old (RootNode level index)
  pub other_pages : (other : ℕ) → other < zones → (other == zone) ≡ false → zone_pages new other ≡ zone_pages old other

-- the controller with these memories, where the zone's slot has another root
abbrev pub updated : CtlData → ℕ → List ℕ → List ℕ → List ℕ → CtlData
updated x zone off_chip mirror root = record x { off_chip = off_chip; mirror = mirror; mounted = map (rooted_slot zone root) x.mounted }

-- a slot's root after the zone got another
rooted_root : (b : Bool) (s : Slot) (root want : List ℕ) → (b ≡ true → root ≡ want) → (b ≡ false → s.root ≡ want) → (cond b (slot s.zone s.uses root) s).root ≡ want
rooted_root true s root want here past = here refl
rooted_root false s root want here past = past refl

module _ (d : List ℕ → List ℕ) (x : CtlData) (trees : TreesHold d x) (zone : ℕ) (there : zone < x.zones) (mounted : is_mounted x.mounted zone ≡ true) (pages : List (List ℕ))
    (off_chip mirror root : List ℕ) (off_size : length off_chip ≡ memory_size x.zones) (update : ZoneUpdate d x.zones zone x.mirror mirror pages) (root_is : root ≡ zone_root d pages) where
  abbrev y : CtlData
  y = updated x zone off_chip mirror root

  nodes_hold : (level other index : ℕ) → Exists x.zones (Node level other index) → place_bytes x.zones mirror (Node level other index) ≡ zone_bytes d (zone_pages mirror other) (Node level other index)
  nodes_hold level other index exists =
      ⊎_elim
      (λ (here : (other == zone) ≡ true).
      let e = eqb-true other zone here in
      ap (λ (z : ℕ). place_bytes x.zones mirror (Node level z index)) e ∙ update.own level index exists.1
      ∙ sym (ap (λ (z : ℕ). zone_bytes d (zone_pages mirror z) (Node level z index)) e ∙ ap (λ (ps : List (List ℕ)). zone_bytes d ps (Node level zone index)) update.own_pages))
      (λ (elsewhere : (other == zone) ≡ false).
      update.other_nodes level other index exists elsewhere ∙ trees.nodes level other index exists
      ∙ sym (ap (λ (ps : List (List ℕ)). zone_bytes d ps (Node level other index)) (update.other_pages other exists.0 elsewhere)))
      (cases_Bool (other == zone))

  slots_hold : All (λ (s : Slot). s.root ≡ zone_root d (zone_pages mirror s.zone)) y.mounted
  slots_hold =
      All-map (λ (s : Slot). s.root ≡ zone_root d (zone_pages mirror s.zone)) (rooted_slot zone root) x.mounted
      (λ k e h.
      let s : Slot = get_or x.mounted k e in
      rooted_root (is_of zone s) s root (zone_root d (zone_pages mirror s.zone))
      (λ here. root_is ∙ sym (ap (λ (z : ℕ). zone_root d (zone_pages mirror z)) (eqb-true s.zone zone here) ∙ ap (zone_root d) update.own_pages))
      (λ other. trees.slots_hold k e h ∙ sym (ap (zone_root d) (update.other_pages s.zone (trees.fit.there k e h) other)))
      ∙ ap (λ (z : ℕ). zone_root d (zone_pages mirror z)) (sym (rooted_slot-zone zone root s)))

  entries_hold : (other : ℕ) → other < x.zones → is_mounted y.mounted other ≡ false → root_entry x.zones mirror other ≡ zone_root d (zone_pages mirror other)
  entries_hold other below none =
      let free : is_mounted x.mounted other ≡ false = sym (is_mounted-map (rooted_slot zone root) (rooted_slot-zone zone root) x.mounted other) ∙ none in
      ⊎_elim
      (λ (here : (other == zone) ≡ true). absurd (false≢true (sym free ∙ ap (is_mounted x.mounted) (eqb-true other zone here) ∙ mounted)))
      (λ (elsewhere : (other == zone) ≡ false).
      ap (entry (other % 8)) (update.root_nodes 1 (other / 8) (omega (arith, trees.sizes.few))) ∙ trees.entries other below free
      ∙ sym (ap (zone_root d) (update.other_pages other below elsewhere)))
      (cases_Bool (other == zone))

  pub updated-hold : TreesHold d y
  updated-hold = record {
    sizes = record { few = trees.sizes.few; off_chip_size = off_size; mirror_size = update.size };
    fit = SlotsFit-map (rooted_slot zone root) (rooted_slot-zone zone root) x.zones x.slots x.mounted trees.fit;
    nodes = nodes_hold;
    slots_hold = slots_hold;
    entries = entries_hold;
    top = λ k below.
        ap (entry k) (update.root_nodes 2 0 (omega arith)) ∙ trees.top k below ∙ sym (ap d (update.root_nodes 1 k below));
    chip = trees.chip ∙ sym (ap d (update.root_nodes 2 0 (omega arith)));
  }
